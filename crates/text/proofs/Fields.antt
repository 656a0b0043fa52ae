-- Laws of the shared steps: a search goes on past an allowed byte, stops at another, and what a search that passed has shown.
use Prim.Native.Nat.{ℕ, zero, suc, ◌+◌, ◌-◌, ◌^◌, ◌≤◌, ◌<◌}
use mathlib.Core.Path.{◌≡◌, refl, sym, ◌∙◌}
use mathlib.Core.Bool.{Bool, true, false, cond}
use mathlib.Core.List.{List, [], ◌∷◌, map}
use native.Mathlib.Nat.{add-zero, lt_of_lt_of_le, pow-le-pow_right}
use native.Mathlib.Numerals.{add-one}
use native.Mathlib.Omega.{arith}
use borrow.Author.Tests.{eq-eqb, ne_eqb}
use lib.Dec.{T, eqb, leb, le→leb, eqb→eq}
use lib.ListN.{length, get_or, take, drop, length-map, length-take, length-drop}
use lib.Seq.{drop-cons}
use Rattle.std.specs.List.{AllWithin, HoldsAt, prefix_len}
use Rattle.std.specs.Prelude.{Option, Some}
use Rattle.std.specs.Option.{MatchOption, unwrap_or}
use Rattle.std.proofs.lemmas.Iterator.{index_from_first}
use mathlib.Core.Logic.{◌≢◌, ⊎_elim}
use Rattle.std.proofs.lemmas.Bool.{cases_lt}
use Rattle.std.proofs.Math.Dec.{leb-suc-zero, leb-suc-suc}
use Rattle.std.proofs.lemmas.List.{drop_all}
use Rattle.std.proofs.lemmas.List.Sums.{prefix_len-le-length}
use Rattle.answer.specs.Steps.{must, ◌and_then◌}
use Rattle.answer.specs.declared.Reason.TheVariants.{Wrong}
use Rattle.answer.specs.Result.{Step, Pass, Stop}
use Rattle.text.specs.Class.{allowed, is_digit}
use Rattle.text.specs.Decimal.{digit_of, number_written, fitted}
use Rattle.text.specs.Field.{first_place, wrong_from}
use Rattle.text.specs.declared.Set.{Set}
use Rattle.text.specs.declared.Set.TheVariants.{Digits}
use Rattle.text.proofs.Ranges.{both_of, every}
use Rattle.text.proofs.Classes.{digit_ends, allowed-ends}
use Rattle.text.proofs.Decimals.{decimal-most, fits}

-- the first place, by the library's words for what a search has found
pub first_place_is : (b : ℕ) (s : List ℕ) (r : Option ℕ) → MatchOption r (AllWithin (λ x. x ≢ b) s 0 (length s)) (λ i. (i < length s) × HoldsAt (λ x. x ≡ b) s i × AllWithin (λ x. x ≢ b) s 0 i)
    → unwrap_or r (length s) ≡ first_place b s
unfolding first_place
first_place_is b s r h = sym (index_from_first (first_place b) (λ x. x ≡ b) (λ x. x ≢ b) none hit miss s r h)
  where
    none : first_place b [] ≡ 0
    none = refl

    hit : (x : ℕ) (t : List ℕ) → x ≡ b → first_place b (x ∷ t) ≡ 0
    hit x t e = rw (eq-eqb x b e)

    miss : (x : ℕ) (t : List ℕ) → x ≢ b → first_place b (x ∷ t) ≡ first_place b t + 1
    miss x t n = rw (ne_eqb x b n, add-one (first_place b t))

-- how many bytes stand at the front of a text before the first that a set does not allow, by the same words
pub front_is : (set : Set) (t : List ℕ) (r : Option ℕ)
    → MatchOption r (AllWithin (λ x. allowed set x ≡ true) t 0 (length t)) (λ i. (i < length t) × HoldsAt (λ x. allowed set x ≡ false) t i × AllWithin (λ x. allowed set x ≡ true) t 0 i)
    → unwrap_or r (length t) ≡ prefix_len (allowed set) t
front_is set t r h = sym (index_from_first (prefix_len (allowed set)) (λ x. allowed set x ≡ false) (λ x. allowed set x ≡ true) refl hit miss t r h)
  where
    hit : (x : ℕ) (u : List ℕ) → allowed set x ≡ false → prefix_len (allowed set) (x ∷ u) ≡ 0
    hit x u e = rw e refl

    miss : (x : ℕ) (u : List ℕ) → allowed set x ≡ true → prefix_len (allowed set) (x ∷ u) ≡ prefix_len (allowed set) u + 1
    miss x u e = let q : 1 + prefix_len (allowed set) u ≡ prefix_len (allowed set) u + 1 = omega arith in rw (e, q) refl

-- a byte's first place is at most the field's length
at_most : (t : Bool) (n m : ℕ) → n ≤ m → cond t 0 (suc n) ≤ suc m
at_most true n m h = omega arith
at_most false n m h = omega arith

pub first-most : (b : ℕ) (s : List ℕ) → first_place b s ≤ length s
unfolding first_place
first-most b [] = omega arith
first-most b (x ∷ s) = at_most (eqb x b) (first_place b s) (length s) (first-most b s)

-- and where it is less, the byte stands there
found_at : (t : Bool) (n b : ℕ) (s : List ℕ) (x : ℕ) → (T t → x ≡ b) → (n < length s → get_or s n 0 ≡ b) → cond t 0 (suc n) < suc (length s)
    → get_or (x ∷ s) (cond t 0 (suc n)) 0 ≡ b
found_at true n b s x e f h = e tt
found_at false n b s x e f h = f (omega arith)

pub first_found : (b : ℕ) (s : List ℕ) → first_place b s < length s → get_or s (first_place b s) 0 ≡ b
unfolding first_place
first_found b [] h = absurd (omega arith)
first_found b (x ∷ s) h = found_at (eqb x b) (first_place b s) b s x (eqb→eq x b) (first_found b s) h

-- a byte that is not 0 stands inside
pub inside : (s : List ℕ) (i : ℕ) → 0 < get_or s i 0 → i < length s
inside [] i h = omega arith
inside (a ∷ s) zero h = omega arith
inside (a ∷ s) (suc i) h = let k = inside s i h in omega arith

pub allowed-inside : (set : Set) (s : List ℕ) (i : ℕ) → T (allowed set (get_or s i 0)) → i < length s
allowed-inside set s i t = let e = allowed-ends set (get_or s i 0) t in inside s i (omega arith)

-- the search for a byte that a set does not allow
module _ (set : Set) (s : List ℕ) (i k : ℕ) where
  pub wrong_step : (n : ℕ) → 0 < n → wrong_from set s i n k ≡ must (allowed set (get_or s i 0)) (Wrong i) k and_then wrong_from set s (i + 1) (n - 1) k
  unfolding wrong_from
  wrong_step zero h = absurd (omega arith)
  wrong_step (suc n) h = let q : suc n - 1 ≡ n = omega arith in rw q

  pub wrong_on : (n : ℕ) → 0 < n → allowed set (get_or s i 0) ≡ true → wrong_from set s i n k ≡ wrong_from set s (i + 1) (n - 1) k
  unfolding wrong_from ◌and_then◌
  wrong_on zero h e = absurd (omega arith)
  wrong_on (suc n) h e = let q : suc n - 1 ≡ n = omega arith in rw (e, q)

  pub wrong_here : (n : ℕ) → 0 < n → allowed set (get_or s i 0) ≡ false → wrong_from set s i n k ≡ Stop (Wrong i) k
  unfolding wrong_from ◌and_then◌
  wrong_here zero h e = absurd (omega arith)
  wrong_here (suc n) h e = rw e

  pub wrong_none : Pass ≡ wrong_from set s i 0 k
  unfolding wrong_from
  wrong_none = refl

-- the same search, told by how many bytes of its part of the field are passed: none past the field's end
module _ (set : Set) (s : List ℕ) (k : ℕ) where
  abbrev front : ℕ → ℕ → ℕ
  front i n = prefix_len (allowed set) (take n (drop i s))

  front_step : (i n : ℕ) → front i (suc n) ≡ cond (allowed set (get_or s i 0)) (1 + front (i + 1) n) 0
  front_step i n = ⊎_elim
      (λ h. rw (drop-cons s i 0 h, ← add-one i) refl)
      (λ h. past (allowed set (get_or s i 0)) refl h)
      (cases_lt i (length s))
    where
      past : (t : Bool) → allowed set (get_or s i 0) ≡ t → length s ≤ i → front i (suc n) ≡ cond t (1 + front (i + 1) n) 0
      past true e h = let l = allowed-inside set s i (rw e tt) in absurd (omega arith)
      past false e h = rw (drop_all i s h) refl

  on_front : (t : Bool) (i n r : ℕ) {u : Step} → u ≡ must (leb n r) (Wrong (i + 1 + r)) k
      → must t (Wrong i) k and_then u ≡ must (leb (suc n) (cond t (1 + r) 0)) (Wrong (i + cond t (1 + r) 0)) k
  unfolding ◌and_then◌
  on_front true i n r e =
      let q : i + 1 + r ≡ i + (1 + r) = omega arith in
      let m : 1 + r ≡ suc r = omega arith in
      e ∙ rw (q, m, leb-suc-suc n r) refl
  on_front false i n r e = rw (add-zero i, leb-suc-zero n) refl

  -- those bytes stand in the field
  pub front_within : (i n : ℕ) → front i n ≤ length s - i
  front_within i n = omega (arith, prefix_len-le-length (allowed set) (take n (drop i s)), length-take n (drop i s), length-drop i s)

  pub wrong_by_front : (i n : ℕ) → wrong_from set s i n k ≡ must (leb n (front i n)) (Wrong (i + front i n)) k
  unfolding wrong_from
  wrong_by_front i zero = refl
  wrong_by_front i (suc n) = rw (front_step i n) (on_front (allowed set (get_or s i 0)) i n (front (i + 1) n) (wrong_by_front (i + 1) n))

passed : (t : Bool) (p k : ℕ) (u : Step) → must t (Wrong p) k and_then u ≡ Pass → T t × (u ≡ Pass)
unfolding ◌and_then◌
passed true p k u e = (tt, e)
passed false p k u e = let z : ◌≡◌ {A = ℕ} 0 1 = cc in absurd (omega arith)

-- what a search that passed has shown: each of the bytes is allowed
pub all-allowed : (set : Set) (s : List ℕ) (i n k : ℕ) → wrong_from set s i n k ≡ Pass → (j : ℕ) → j < n → T (allowed set (get_or s (i + j) 0))
unfolding wrong_from
all-allowed set s i zero k e j h = absurd (omega arith)
all-allowed set s i (suc n) k e zero h =
    rw (add-zero i) (passed (allowed set (get_or s i 0)) i k (wrong_from set s (i + 1) n k) e).0
all-allowed set s i (suc n) k e (suc j) h =
    let q : i + suc j ≡ i + 1 + j = omega arith in
    rw q (all-allowed set s (i + 1) n k (passed (allowed set (get_or s i 0)) i k (wrong_from set s (i + 1) n k) e).1 j (omega arith))

pub all-inside : (set : Set) (s : List ℕ) (i n k : ℕ) → 0 < n → wrong_from set s i n k ≡ Pass → i + n ≤ length s
all-inside set s i n k h e =
    let l = allowed-inside set s (i + (n - 1)) (all-allowed set s i n k e (n - 1) (omega arith)) in
    omega arith

small_digit : (b : ℕ) → T (is_digit b) → T (leb (digit_of b) 9)
small_digit b t = let e = digit_ends b t in le→leb (digit_of b) 9 (omega arith)

small_digits : (s : List ℕ) (i n k : ℕ) → wrong_from Digits s i n k ≡ Pass → T (every (λ d. leb d 9) (map digit_of (take n (drop i s))))
unfolding wrong_from
small_digits s i zero k e = tt
small_digits s i (suc n) k e =
    let p = passed (is_digit (get_or s i 0)) i k (wrong_from Digits s (i + 1) n k) e in
    rw (drop-cons s i 0 (allowed-inside Digits s i p.0), ← add-one i)
    (both_of (leb (digit_of (get_or s i 0)) 9) (every (λ d. leb d 9) (map digit_of (take n (drop (i + 1) s)))) (small_digit (get_or s i 0) p.0) (small_digits s (i + 1) n k p.1))

-- and n digits write a number below 10^n, and below any higher power
pub digits-most : (s : List ℕ) (i n k m : ℕ) → n ≤ m → wrong_from Digits s i n k ≡ Pass → number_written (take n (drop i s)) < 10 ^ m
unfolding number_written
digits-most s i n k m h e =
    let t = take n (drop i s) in
    lt_of_lt_of_le (decimal-most (map digit_of t) (small_digits s i n k e))
    (pow-le-pow_right (omega arith) (omega (arith, length-map t digit_of, length-take n (drop i s))))

-- digits that were found at a place, no more than four, stand inside the field and write a number below 10^4
pub digits_there : (s : List ℕ) (i n k : ℕ) {r : Step} → 0 < n → n ≤ 4 → r ≡ wrong_from Digits s i n k → r ≡ Pass
    → (i + n ≤ length s) × (number_written (take n (drop i s)) < 10000)
digits_there s i n k l m e p = let q = sym e ∙ p in (all-inside Digits s i n k l q, digits-most s i n k 4 m q)

-- and read as a number they fit
pub digits_read : (s : List ℕ) (i n k : ℕ) {r : Step} {o : Option ℕ} → 0 < n → n ≤ 4 → r ≡ wrong_from Digits s i n k → r ≡ Pass
    → o ≡ fitted (number_written (take (i + n - i) (drop i s))) → o ≡ Some (number_written (take n (drop i s)))
digits_read s i n k l m e p q =
    let w : i + n - i ≡ n = omega arith in
    (rw w at q) ∙ sym (fits (number_written (take n (drop i s))) (omega (arith, (digits_there s i n k l m e p).1)))
