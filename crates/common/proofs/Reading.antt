-- Laws of reading: the digits of a part one by one, and what a part and the bytes after the `.` are worth.
use Prim.Native.Nat.{ℕ, ◌+◌, ◌-◌, ◌*◌, ◌^◌, ◌≤◌, ◌<◌}
use mathlib.Core.Path.{◌≡◌, refl, ◌∙◌}
use mathlib.Core.Bool.{Bool, true, false, ◌&&◌, cond}
use mathlib.Core.List.{List}
use native.Mathlib.Omega.{arith}
use borrow.Author.Tests.{lt-ltb, le-ltb, eq-eqb, ne_eqb}
use lib.Dec.{eqb, ltb}
use lib.ListN.{length, get_or, take, drop, length-drop}
use lib.Seq.{get_or-drop, take-take}
use Rattle.answer.specs.Steps.{must, ◌and_then◌, ◌or_accept◌}
use Rattle.std.specs.Prelude.{Err, Some, None}
use Rattle.std.specs.Option.{ok_or}
use Rattle.answer.specs.declared.Refusal.{Refusal}
use Rattle.answer.specs.Result.{Step, Pass, Refused, Accepted, refusal}
use Rattle.answer.specs.declared.Reason.{Reason}
use Rattle.text.proofs.Classes.{digit_ends}
use Rattle.text.specs.Class.{is_digit}
use Rattle.answer.specs.declared.Reason.TheVariants.{TooLarge}
use Rattle.answer.proofs.Laws.{both_pass, stops, passes, refuses, test_held}
use Rattle.text.specs.Decimal.{digit_of, fitted}
use Rattle.text.specs.Field.{present, first_wrong}
use Rattle.text.specs.declared.Set.TheVariants.{Digits}
use Rattle.text.proofs.Decimals.{number-none, number_more, number_grows, fitted-is}
use Rattle.text.proofs.Fields.{first-most, digits-most, wrong_step, wrong_none}
use Rattle.common.specs.Cents.{below64, digits_at, number_between, digits, whole, whole_number, worth}

-- a byte that passed the test is a digit
pub digit_held : (b : ℕ) (r : Reason) (k : ℕ) → must (is_digit b) r k ≡ Pass → (48 ≤ b) × (b ≤ 57)
digit_held b r k e = digit_ends b (test_held (is_digit b) r k e)

-- digits by the number that they write
module _ (s : List ℕ) (at to k : ℕ) (e : first_wrong Digits s at to k ≡ Pass) where
  pub digits_fit : (n : ℕ) → n ≡ number_between s at to → n < 2 ^ 64 → Accepted n ≡ digits s at to k or_accept number_between s at to
  unfolding digits below64 ◌and_then◌ ◌or_accept◌
  digits_fit n q h = rw (e, ← q, lt-ltb n (2 ^ 64) h)

  pub digits-past : 2 ^ 64 ≤ number_between s at to → Refused TooLarge (k + 1) ≡ digits s at to k or_accept number_between s at to
  unfolding digits below64 ◌and_then◌ ◌or_accept◌
  digits-past h = rw (e, le-ltb (number_between s at to) (2 ^ 64) h)

-- no digit, and one digit more
pub number_empty : (s : List ℕ) (at to : ℕ) → to ≤ at → number_between s at to ≡ 0
unfolding number_between
number_empty s at to h = let none : to - at ≡ 0 = omega arith in rw none number-none

-- it is known by how many bytes there are
pub number_reached : (s : List ℕ) (at i to : ℕ) → i - at ≡ to - at → number_between s at i ≡ number_between s at to
unfolding number_between
number_reached s at i to e = rw e

-- digits that follow make it no smaller
pub number-part : (s : List ℕ) (at i to : ℕ) → i ≤ to → number_between s at i ≤ number_between s at to
unfolding number_between
number-part s at i to h = rw (take-take (i - at) (to - at) (drop at s) (omega arith)) at (number_grows (i - at) (take (to - at) (drop at s)))

module _ (s : List ℕ) (at i : ℕ) (from : at ≤ i) where
  pub number-next : i < length s → number_between s at (i + 1) ≡ number_between s at i * 10 + digit_of (get_or s i 0)
  unfolding number_between
  number-next h =
      let l = drop at s in
      let next : i + 1 - at ≡ (i - at) + 1 = omega arith in
      let here : at + (i - at) ≡ i = omega arith in
      rw next (number_more l (i - at) (omega (arith, length-drop at s)) ∙ rw (get_or-drop at s (i - at) 0, here))

-- what is no more than either is no more than the one that is picked
picked : (t : Bool) (a b n : ℕ) → n ≤ a → n ≤ b → n ≤ cond t a b
picked true a b n p q = p
picked false a b n p q = q

after_plus : (s : List ℕ) (from to : ℕ) → from ≤ digits_at s from to
unfolding digits_at
after_plus s from to = picked (ltb from to && eqb (get_or s from 0) 43) (from + 1) from from (omega arith) (omega arith)

-- a whole number of m bytes is below 10^m
pub whole-most : (s : List ℕ) (from to k m : ℕ) → to - from ≤ m → whole s from to k ≡ Pass → whole_number s from to < 10 ^ m
unfolding whole whole_number number_between digits first_wrong
whole-most s from to k m h e =
    let at = digits_at s from to in
    let d = (both_pass (present at to k) (digits s at to (k + 1)) e).1 in
    let w = (both_pass (first_wrong Digits s at to (k + 1)) (below64 (number_between s at to) (k + 1 + 1)) d).0 in
    let l = after_plus s from to in
    digits-most s at (to - at) (k + 1) m (omega arith) w

-- what the bytes after the `.` are worth
pub worth-none : (s : List ℕ) (from : ℕ) → length s ≤ from → worth s from ≡ 0
unfolding worth whole_number
worth-none s from h =
    let at = digits_at s from (length s) in
    let l = after_plus s from (length s) in
    rw (number_empty s at (length s) (omega arith)) (omega arith)

pub worth_one : (s : List ℕ) (from n : ℕ) → length s - from ≡ 1 → n ≡ whole_number s from (length s) → n * 10 ≡ worth s from
unfolding worth
worth_one s from n h e = rw (eq-eqb (length s - from) 1 h, e) (omega arith)

pub worth_two : (s : List ℕ) (from n : ℕ) → (length s - from ≡ 1 → ⊥) → n ≡ whole_number s from (length s) → n ≡ worth s from
unfolding worth
worth_two s from n h e = rw (ne_eqb (length s - from) 1 h, e) (omega arith)

-- a reading that was refused, and one that gave a number
pub refused_read : (a : Step) (n : ℕ) {e : Refusal} → a or_accept n ≡ Err e → a ≡ Err e
unfolding ◌or_accept◌
refused_read Pass n h = let z : ◌≡◌ {A = ℕ} 0 1 = cc in absurd (omega arith)
refused_read (Err x) n h = cc

pub read : (a : Step) (n : ℕ) {m : ℕ} → a or_accept n ≡ Accepted m → (a ≡ Pass) × (m ≡ n)
unfolding ◌or_accept◌
read Pass n h = (refl, cc)
read (Err x) n h = let z : ◌≡◌ {A = ℕ} 0 1 = cc in absurd (omega arith)

-- where both parts passed their steps, the last one, by the library's word for a number that may be missing
pub total_is : {a b : Step} (n k : ℕ) → a ≡ Pass → b ≡ Pass → ok_or (fitted n) (refusal TooLarge k) ≡ a and_then b and_then below64 n k or_accept n
unfolding fitted below64 ◌and_then◌ ◌or_accept◌
total_is n k p q = rw (p, q) (go (ltb n (2 ^ 64)))
  where
    go : (t : Bool) → ok_or (cond t (Some n) None) (refusal TooLarge k) ≡ must t TooLarge k or_accept n
    go true = refl
    go false = refl

-- for the functions of `src/`: what each step of theirs needs
pub ruleset fractions = (refused_read, read, worth-none, worth_one, worth_two)

pub ruleset pairs = (refused_read, read, first-most)

pub ruleset searching = (stops, passes, refuses, wrong_step, wrong_none, number_empty, number_reached, number-next, fitted-is, digits_fit, digit_held, test_held)
