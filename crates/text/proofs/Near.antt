-- What a step says where it stops fits a verdict: its place is below 2^16, and its value below 2^64.
use Prim.Native.Nat.{ℕ, zero, suc, ◌+◌, ◌-◌, ◌^◌, ◌≤◌, ◌<◌}
use mathlib.Core.Path.{◌≡◌, refl}
use mathlib.Core.Bool.{Bool, true, false, cond}
use mathlib.Core.List.{List}
use native.Mathlib.Omega.{arith}
use lib.Dec.{ltb, eqb, leb→le}
use lib.ListN.{length, get_or, take, drop}
use Rattle.answer.proofs.Laws.{stops_alike}
use Rattle.answer.specs.Steps.{must, ◌and_then◌, ◌or_accept◌}
use Rattle.answer.specs.Table.{row_of, place_of, value_of}
use Rattle.std.specs.Prelude.{Err}
use Rattle.answer.specs.Result.{Answer, Refused, Step, Pass, Stop}
use Rattle.answer.specs.declared.Reason.{Reason}
use Rattle.answer.specs.declared.Reason.TheVariants.{Length, Wrong, Range, Missing}
use Rattle.text.specs.Class.{allowed}
use Rattle.text.specs.Decimal.{number_written}
use Rattle.text.specs.Field.{length_is, present, wrong_from, first_wrong, literal_at, in_range, digits_in}
use Rattle.text.specs.Ranges.{within}
use Rattle.text.specs.declared.Set.{Set}
use Rattle.text.specs.declared.Set.TheVariants.{Digits}
use Rattle.text.proofs.Fields.{digits-most}

-- an answer's two numbers
pub record Small (a : Answer) : Type 0 where
  pub place : place_of a < 2 ^ 16
  pub value : value_of a < 2 ^ 64

-- and a step's, by the answer that it gives where it stops
pub record Near (st : Step) : Type 0 where
  pub small : (r : Reason) (k : ℕ) → st ≡ Stop r k → Small (Refused r k)

-- a field so short that a place a few bytes past its end fits too
abbrev pub Short : List ℕ → Type 0
Short s = length s < 65000

pub near_pass : Near Pass
near_pass = record { small = λ r k e. let z : ◌≡◌ {A = ℕ} 0 1 = cc in absurd (omega arith) }

pub near_at : (r : Reason) (k : ℕ) → (row_of r).place < 2 ^ 16 → (row_of r).value < 2 ^ 64 → Near (Stop r k)
near_at r k p v = record { small = λ r' k' e. rw (← (stops_alike e).0) (record { place = p; value = v }) }

pub near_must : (t : Bool) (r : Reason) (k : ℕ) → (row_of r).place < 2 ^ 16 → (row_of r).value < 2 ^ 64 → Near (must t r k)
near_must true r k p v = near_pass
near_must false r k p v = near_at r k p v

pub near_pick : (t : Bool) (a b : Step) → Near a → Near b → Near (cond t a b)
near_pick true a b p q = p
near_pick false a b p q = q

-- the second step is asked only where the first passes
pub near_after : (a b : Step) → Near a → (a ≡ Pass → Near b) → Near (a and_then b)
unfolding ◌and_then◌
near_after Pass b p q = q refl
near_after (Err e) b p q = p

pub near_then : (a b : Step) → Near a → Near b → Near (a and_then b)
near_then a b p q = near_after a b p (λ e. q)

pub small_accept : (a : Step) (n : ℕ) → Near a → (a ≡ Pass → n < 2 ^ 64) → Small (a or_accept n)
unfolding ◌or_accept◌
small_accept Pass n p q = record { place = omega arith; value = q refl }
small_accept (Err e) n p q = p.small e.reason e.check refl

pub near_present : (at end k : ℕ) → at < 2 ^ 16 → Near (present at end k)
unfolding present
near_present at end k h = near_must (ltb at end) (Missing at) k h (omega arith)

pub near_range : (at low high n k : ℕ) → at < 2 ^ 16 → n < 2 ^ 64 → Near (in_range at low high n k)
unfolding in_range
near_range at low high n k h v = near_must (within low high n) (Range at n) k h v

module _ (s : List ℕ) where
  pub near_length : (n k : ℕ) → Short s → Near (length_is n s k)
  unfolding length_is
  near_length n k h = near_must (eqb (length s) n) (Length 0 (length s)) k (omega arith) (omega arith)

  pub near_wrong : (set : Set) (at n k : ℕ) → at + n < 2 ^ 16 → Near (wrong_from set s at n k)
  unfolding wrong_from
  near_wrong set at zero k h = near_pass
  near_wrong set at (suc n) k h =
      near_then _ _ (near_must (allowed set (get_or s at 0)) (Wrong at) k (omega arith) (omega arith)) (near_wrong set (at + 1) n k (omega arith))

  pub near_first : (set : Set) (from to k : ℕ) → from < 2 ^ 16 → to < 2 ^ 16 → Near (first_wrong set s from to k)
  unfolding first_wrong
  near_first set from to k f t = near_wrong set from (to - from) k (omega arith)

  pub near_literal : (at b k : ℕ) → at < 2 ^ 16 → Near (literal_at s at b k)
  unfolding literal_at
  near_literal at b k h = near_must (eqb (get_or s at 0) b) (Wrong at) k h (omega arith)

  -- no more digits than write a number below 2^64
  pub near_digits : (n at low high k : ℕ) → n ≤ 19 → at + 19 < 2 ^ 16 → Near (digits_in n s at low high k)
  unfolding digits_in
  near_digits n at low high k m h =
      near_after _ _ (near_wrong Digits at n k (omega arith))
      (λ e. near_range at low high (number_written (take n (drop at s))) (k + 1) (omega arith) (omega (arith, digits-most s at n k 19 m e)))

pub short-place : (s : List ℕ) → Short s → length s < 2 ^ 16
short-place s h = omega arith

pub short-value : (s : List ℕ) → Short s → length s < 2 ^ 64
short-value s h = omega arith

-- for `search`: the law of each step, what a short field gives, and the test that compares two numbers written out
pub ruleset nears = (
  near_pass,
  near_must,
  near_pick,
  near_then,
  small_accept,
  near_present,
  near_range,
  near_length,
  near_wrong,
  near_first,
  near_literal,
  near_digits,
  short-place,
  short-value,
  leb→le,
)
