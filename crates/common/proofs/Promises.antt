-- docs/CHECKS.md numbers a step for each sentence of SCOPE. Three of them refuse no field: 906, as of two bytes after the `.` one at least stands
-- where the first digit should; and 908 and 1008, as two digits write less than 2^64.
use Prim.Native.Nat.{ℕ, zero, suc, ◌+◌, ◌-◌, ◌^◌, ◌≤◌, ◌<◌}
use mathlib.Core.Path.{◌≡◌, refl, ◌∙◌}
use mathlib.Core.Bool.{Bool, true, false, ◌&&◌, cond}
use mathlib.Core.List.{List}
use mathlib.Core.Logic.{◌≢◌, ◌⊎◌, inl, inr, ⊎_elim}
use native.Mathlib.Omega.{arith}
use borrow.Author.Tests.{lt-ltb}
use lib.Dec.{eqb, ltb}
use lib.ListN.{length, get_or}
use Rattle.answer.specs.Steps.{must, ◌and_then◌, ◌or_accept◌}
use Rattle.answer.specs.Table.{check_of}
use Rattle.answer.specs.declared.Reason.{Reason}
use Rattle.answer.specs.declared.Reason.TheVariants.{Length, Wrong, Missing, TooLarge}
use Rattle.std.specs.Prelude.{Err}
use Rattle.answer.specs.Result.{Step, Pass, Stop}
use Rattle.answer.proofs.Laws.{test_held, stops_alike}
use Rattle.text.specs.Class.{allowed}
use Rattle.text.specs.Field.{dot, present, wrong_from, first_wrong}
use Rattle.text.specs.Ranges.{within}
use Rattle.text.specs.declared.Set.{Set}
use Rattle.text.specs.declared.Set.TheVariants.{Digits}
use Rattle.text.proofs.Fields.{digits-most}
use Rattle.text.proofs.Ranges.{within-ends}
use Rattle.common.specs.Cents.{below64, digits_at, number_between, digits, whole, past, fraction, cents, parts, parse_amount_cents, parse_amount_cents_lenient}

-- the first digit's place is the part's first or the next
next : (s : List ℕ) (from to : ℕ) → (from ≤ digits_at s from to) × (digits_at s from to ≤ from + 1)
unfolding digits_at
next s from to = go (ltb from to && eqb (get_or s from 0) 43)
  where
    go : (t : Bool) → (from ≤ cond t (from + 1) from) × (cond t (from + 1) from ≤ from + 1)
    go true = (omega arith, omega arith)
    go false = (omega arith, omega arith)

-- a step that does not stop with the check number n
record Never (n : ℕ) (a : Step) : Type 0 where
  not : (r : Reason) (k : ℕ) → a ≡ Stop r k → k ≢ n

module _ {n : ℕ} where
  never_pass : Never n Pass
  never_pass = record { not = λ r k e. let z : ◌≡◌ {A = ℕ} 0 1 = cc in absurd (omega arith) }

  never_must : (t : Bool) (r : Reason) (k : ℕ) → k ≢ n → Never n (must t r k)
  never_must true r k h = never_pass
  never_must false r k h = record { not = λ q j e f. h ((stops_alike e).1 ∙ f) }

  never_then : (a b : Step) → Never n a → (a ≡ Pass → Never n b) → Never n (a and_then b)
  unfolding ◌and_then◌
  never_then Pass b p q = q refl
  never_then (Err e) b p q = p

  never_wrong : (set : Set) (s : List ℕ) (at m k : ℕ) → k ≢ n → Never n (wrong_from set s at m k)
  unfolding wrong_from
  never_wrong set s at zero k h = never_pass
  never_wrong set s at (suc m) k h =
      never_then _ _ (never_must (allowed set (get_or s at 0)) (Wrong at) k h) (λ e. never_wrong set s (at + 1) m k h)

  never_answer : (a : Step) (m : ℕ) → 0 < n → Never n a → check_of (a or_accept m) ≢ n
  unfolding ◌or_accept◌
  never_answer Pass m h p = λ e. omega arith
  never_answer (Err e) m h p = p.not e.reason e.check refl

  module _ (s : List ℕ) where
    -- a whole number from one place up to another, by its three steps
    never_whole : (from to k : ℕ) → (k ≢ n ⊎ digits_at s from to < to) → k + 1 ≢ n → (k + 2 ≢ n ⊎ to - digits_at s from to ≤ 2)
        → Never n (whole s from to k)
    unfolding whole digits present first_wrong below64 number_between
    never_whole from to k p q h =
        let at = digits_at s from to in
        never_then _ _ (⊎_elim (λ f. never_must (ltb at to) (Missing at) k f) (λ l. rw (lt-ltb at to l) never_pass) p)
        (λ e. never_then _ _ (never_wrong Digits s at (to - at) (k + 1) q)
        (λ e. ⊎_elim (λ f. never_must (ltb (number_between s at to) (2 ^ 64)) TooLarge (k + 1 + 1) (λ g. f (omega arith)))
        (λ l. let d = digits-most s at (to - at) (k + 1) 2 l e in rw (lt-ltb (number_between s at to) (2 ^ 64) (omega arith)) never_pass) h))

    -- the bytes after the `.`, no more than two of them
    never_fraction : (least from k : ℕ) → k ≢ n → (k + 1 ≢ n ⊎ 2 ≤ least) → k + 2 ≢ n → Never n (fraction least s from k)
    unfolding fraction
    never_fraction least from k p q h =
        let m = length s - from in
        never_then _ _ (never_must (within least 2 m) (Length from m) k p) (λ e. rest (within-ends least 2 m (test_held (within least 2 m) (Length from m) k e)))
      where
        rest : (least ≤ length s - from) × (length s - from ≤ 2) → Never n (cond (ltb from (length s)) (whole s from (length s) (k + 1)) Pass)
        rest w = go (ltb from (length s))
          where
            go : (t : Bool) → Never n (cond t (whole s from (length s) (k + 1)) Pass)
            go false = never_pass
            go true =
                let a = next s from (length s) in
                never_whole from (length s) (k + 1) (⊎_elim inl (λ l. inr (omega arith)) q) (λ f. h (omega arith)) (inr (omega arith))

    never_parts : (least k j : ℕ) → n ≡ k + j → 5 < j → j < 9 → j ≢ 7 → (2 ≤ least ⊎ j ≢ 6) → Never n (parts least s k)
    unfolding parts below64
    never_parts least k j e l u f g =
        never_then _ _
        (never_then _ _ (never_whole 0 (dot s) (k + 2) (inl (λ z. omega arith)) (λ z. omega arith) (inl (λ z. omega arith)))
        (λ z. never_fraction least (past s (dot s)) (k + 5) (λ z. omega arith) (⊎_elim (λ t. inr t) (λ t. inl (λ z. t (omega arith))) g) (λ z. f (omega arith))))
        (λ z. never_must (ltb (cents s) (2 ^ 64)) TooLarge (k + 9) (λ z. omega arith))

module _ (s : List ℕ) where
  strict : (j : ℕ) → 5 < j → j < 9 → j ≢ 7 → check_of (parse_amount_cents s) ≢ 900 + j
  unfolding parse_amount_cents present
  strict j l u f =
      never_answer _ (cents s) (omega arith)
      (never_then _ _ (never_must (ltb (dot s) (length s)) (Missing (dot s)) 901 (λ z. omega arith)) (λ z. never_parts s 2 900 j refl l u f (inl (omega arith))))

  pub never_906 : check_of (parse_amount_cents s) ≢ 906
  never_906 = strict 6 (omega arith) (omega arith) (λ z. omega arith)

  pub never_908 : check_of (parse_amount_cents s) ≢ 908
  never_908 = strict 8 (omega arith) (omega arith) (λ z. omega arith)

  pub never_1008 : check_of (parse_amount_cents_lenient s) ≢ 1008
  unfolding parse_amount_cents_lenient
  never_1008 =
      never_answer _ (cents s) (omega arith) (never_parts s 0 1000 8 refl (omega arith) (omega arith) (λ z. omega arith) (inr (λ z. omega arith)))
