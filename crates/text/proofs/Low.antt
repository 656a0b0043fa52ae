-- Where the shared steps pass, the bytes that they read are ASCII.
use Prim.Native.Nat.{ℕ, ◌+◌, ◌-◌, ◌≤◌, ◌<◌}
use mathlib.Core.Path.{◌≡◌, refl}
use mathlib.Core.Bool.{Bool, true, false}
use mathlib.Core.List.{List}
use native.Mathlib.Omega.{arith}
use borrow.Author.Tests.{ltb-true, ltb-false}
use lib.Dec.{ltb, eqb, eqb→eq}
use lib.ListN.{length, get_or, take, drop}
use Rattle.answer.specs.Steps.{◌and_then◌}
use Rattle.answer.specs.declared.Reason.TheVariants.{Length, Wrong}
use Rattle.answer.specs.Result.{Step, Pass}
use Rattle.answer.proofs.Laws.{both_pass, test_held}
use Rattle.text.specs.Decimal.{number_written}
use Rattle.text.specs.Field.{first_place, length_is, wrong_from, first_wrong, literal_at, in_range, digits_in}
use Rattle.text.specs.declared.Set.{Set}
use Rattle.text.specs.declared.Set.TheVariants.{Digits}
use Rattle.text.proofs.Classes.{allowed-ends}
use Rattle.text.proofs.Fields.{first_found, all-allowed}

-- each byte from one place up to another is below 128
abbrev pub Low : List ℕ → ℕ → ℕ → Type 0
Low s from to = (i : ℕ) → from ≤ i → i < to → get_or s i 0 < 128

module _ (s : List ℕ) where
  pub low-none : (from to : ℕ) → to ≤ from → Low s from to
  low-none from to h i f t = absurd (omega arith)

  pub low_one : (at : ℕ) → get_or s at 0 < 128 → Low s at (at + 1)
  low_one at h i f t = let e : i ≡ at = omega arith in rw e h

  -- the first of a byte
  pub low-place : (b : ℕ) → b < 128 → first_place b s < length s → Low s (first_place b s) (first_place b s + 1)
  low-place b h k = low_one (first_place b s) (omega (arith, first_found b s k))

  -- two parts, the second from the end of the first or from a place before it
  pub low_join : (a b c d : ℕ) → c ≤ b → Low s a b → Low s c d → Low s a d
  low_join a b c d h p q i f t = go (ltb i b) refl
    where
      go : (u : Bool) → ltb i b ≡ u → get_or s i 0 < 128
      go true e = p i f (ltb-true i b e)
      go false e = q i (omega (arith, ltb-false i b e)) t

  -- a part of a part
  pub low_part : (a b c d : ℕ) → a ≤ c → d ≤ b → Low s a b → Low s c d
  low_part a b c d h k p i f t = p i (omega arith) (omega arith)

  -- a chain of two steps of which each reads a part
  pub low-then : (x y : Step) (a b c : ℕ) → (x ≡ Pass → Low s a b) → (y ≡ Pass → Low s b c) → x and_then y ≡ Pass → Low s a c
  low-then x y a b c p q e = let h = both_pass x y e in low_join a b b c (omega arith) (p h.0) (q h.1)

  pub low_wrong : (set : Set) (at n k : ℕ) → wrong_from set s at n k ≡ Pass → Low s at (at + n)
  low_wrong set at n k e i f t =
      let q : at + (i - at) ≡ i = omega arith in
      let h = allowed-ends set (get_or s (at + (i - at)) 0) (all-allowed set s at n k e (i - at) (omega arith)) in
      rw q at (let z : get_or s (at + (i - at)) 0 < 128 = omega arith in z)

  pub low_first : (set : Set) (from to k : ℕ) → first_wrong set s from to k ≡ Pass → Low s from to
  unfolding first_wrong
  low_first set from to k e = low_part from (from + (to - from)) from to (omega arith) (omega arith) (low_wrong set from (to - from) k e)

  pub low-digits : (n at low high k : ℕ) → digits_in n s at low high k ≡ Pass → Low s at (at + n)
  unfolding digits_in
  low-digits n at low high k e =
      low_wrong Digits at n k (both_pass (wrong_from Digits s at n k) (in_range at low high (number_written (take n (drop at s))) (k + 1)) e).0

  pub low_literal : (at b k : ℕ) → b < 128 → literal_at s at b k ≡ Pass → Low s at (at + 1)
  unfolding literal_at
  low_literal at b k h e =
      let q = eqb→eq (get_or s at 0) b (test_held (eqb (get_or s at 0) b) (Wrong at) k e) in
      low_one at (omega arith)

-- the field has the length that was asked for
pub length-held : (n : ℕ) (s : List ℕ) (k : ℕ) → length_is n s k ≡ Pass → length s ≡ n
unfolding length_is
length-held n s k e = eqb→eq (length s) n (test_held (eqb (length s) n) (Length 0 (length s)) k e)
