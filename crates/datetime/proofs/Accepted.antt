-- A date and a datetime that are accepted are ASCII.
use Prim.Native.Nat.{ℕ, ◌+◌, ◌-◌, ◌<◌}
use mathlib.Core.Path.{◌≡◌, refl}
use mathlib.Core.Bool.{Bool, true, false, ◌||◌, cond}
use mathlib.Core.List.{List}
use mathlib.Core.Logic.{⊎_elim}
use native.Mathlib.Omega.{arith}
use borrow.Author.Tests.{eqb-true}
use lib.Dec.{T, eqb, leb, eqb→eq, leb→le}
use lib.ListN.{length, get_or, drop}
use lib.Seq.{get_or-drop}
use Rattle.answer.specs.Steps.{check}
use Rattle.answer.specs.Result.{Accepted, Pass}
use Rattle.answer.specs.declared.Reason.TheVariants.{Wrong, Trailing}
use Rattle.answer.proofs.Laws.{test_held, accepted_pass, both_pass}
use Rattle.text.proofs.Ranges.{either_parts}
use Rattle.text.proofs.Classes.{digit_ends}
use Rattle.text.proofs.Low.{Low, low-none, low_one, low_join, low_part, low-then, low-digits, low_literal, length-held}
use Rattle.datetime.specs.Date.{date_part, date_answer}
use Rattle.datetime.specs.Datetime.{
  is_sign,
  digit_run,
  digits_end,
  zone_place,
  clock_part,
  ends_at,
  offset_part,
  zone_part,
  time_part,
  datetime_answer,
}
use Rattle.datetime.proofs.Digits.{run_digits}

-- the byte that begins a zone
zone_byte : (b : ℕ) → T (eqb b 0x5A || is_sign b) → b < 128
zone_byte b t =
    ⊎_elim (λ u. omega (arith, eqb→eq b 0x5A u))
    (λ u. ⊎_elim (λ v. omega (arith, eqb→eq b 0x2B v)) (λ v. omega (arith, eqb→eq b 0x2D v)) (either_parts (eqb b 0x2B) (eqb b 0x2D) u))
    (either_parts (eqb b 0x5A) (is_sign b) t)

module _ (s : List ℕ) where
  part_low : (kind : ℕ) → date_part s kind ≡ Pass → Low s 0 10
  unfolding date_part
  part_low kind =
      low-then s _ _ 0 8 10
      (low-then s _ _ 0 7 8
      (low-then s _ _ 0 5 7
      (low-then s _ _ 0 4 5 (low-digits s 4 0 1900 2099 (check kind 2)) (low_literal s 4 0x2D (check kind 4) (omega arith)))
      (low-digits s 2 5 1 12 (check kind 5)))
      (low_literal s 7 0x2D (check kind 7) (omega arith)))
      (low-digits s 2 8 1 31 (check kind 8))

  pub date_low : (n : ℕ) → date_answer s ≡ Accepted n → Low s 0 (length s)
  unfolding date_answer
  date_low n e =
      let h = both_pass _ _ (accepted_pass _ 0 n e) in
      low_part s 0 10 0 (length s) (omega arith) (omega (arith, length-held 10 s (check 4 1) h.0)) (part_low 4 h.1)

  clock_low : (kind : ℕ) → clock_part s kind ≡ Pass → Low s 10 19
  unfolding clock_part
  clock_low kind =
      low-then s _ _ 10 17 19
      (low-then s _ _ 10 16 17
      (low-then s _ _ 10 14 16
      (low-then s _ _ 10 13 14
      (low-then s _ _ 10 11 13 (low_literal s 10 0x54 (check kind 10) (omega arith)) (low-digits s 2 11 0 23 (check kind 11)))
      (low_literal s 13 0x3A (check kind 13) (omega arith)))
      (low-digits s 2 14 0 59 (check kind 14)))
      (low_literal s 16 0x3A (check kind 16) (omega arith)))
      (low-digits s 2 17 0 59 (check kind 17))

  -- a fraction, where there is one
  fraction-low : Low s 19 (zone_place s)
  unfolding zone_place digits_end
  fraction-low = go (eqb (get_or s 19 0) 0x2E) refl
    where
      go : (t : Bool) → eqb (get_or s 19 0) 0x2E ≡ t → Low s 19 (cond t (20 + digit_run (drop 20 s)) 19)
      go true e =
          low_join s 19 20 20 (20 + digit_run (drop 20 s)) (omega arith)
          (low_one s 19 (omega (arith, eqb-true (get_or s 19 0) 0x2E e)))
          (λ i f t. let q : 20 + (i - 20) ≡ i = omega arith in
          let d = digit_ends (get_or (drop 20 s) (i - 20) 0) (run_digits (drop 20 s) (i - 20) (omega arith)) in
          omega (arith, rw q at (get_or-drop 20 s (i - 20) 0)))
      go false e = low-none s 19 19 (omega arith)

  end_low : (at k : ℕ) → ends_at s at k ≡ Pass → Low s at (length s)
  unfolding ends_at
  end_low at k e = low-none s at (length s) (leb→le (length s) at (test_held (leb (length s) at) (Trailing at) k e))

  offset-low : (at kind : ℕ) → offset_part s at kind ≡ Pass → Low s at (length s)
  unfolding offset_part
  offset-low at kind =
      low-then s _ _ at (at + 5) (length s)
      (low-then s _ _ at (at + 3) (at + 5)
      (low-then s _ _ at (at + 2) (at + 3)
      (low-then s _ _ at at (at + 2) (λ e. low-none s at at (omega arith)) (low-digits s 2 at 0 23 (check kind 23)))
      (λ e. low_part s (at + 2) (at + 2 + 1) (at + 2) (at + 3) (omega arith) (omega arith) (low_literal s (at + 2) 0x3A (check kind 25) (omega arith) e)))
      (λ e. low_part s (at + 3) (at + 3 + 2) (at + 3) (at + 5) (omega arith) (omega arith) (low-digits s 2 (at + 3) 0 59 (check kind 26) e)))
      (end_low (at + 5) (check kind 28))

  zone_low : (at kind : ℕ) → zone_part s at kind ≡ Pass → Low s at (length s)
  unfolding zone_part
  zone_low at kind =
      low-then s _ _ at (at + 1) (length s)
      (low-then s _ _ at at (at + 1) (λ e. low-none s at at (omega arith))
      (λ e. low_one s at (zone_byte (get_or s at 0) (test_held (eqb (get_or s at 0) 0x5A || is_sign (get_or s at 0)) (Wrong at) (check kind 21) e))))
      (go (is_sign (get_or s at 0)))
    where
      go : (t : Bool) → cond t (offset_part s (at + 1) kind) (ends_at s (at + 1) (check kind 28)) ≡ Pass → Low s (at + 1) (length s)
      go true = offset-low (at + 1) kind
      go false = end_low (at + 1) (check kind 28)

  time_low : (kind : ℕ) → time_part s kind ≡ Pass → Low s 10 (length s)
  unfolding time_part
  time_low kind =
      low-then s _ _ 10 19 (length s) (low-then s _ _ 10 19 19 (clock_low kind) (λ e. low-none s 19 19 (omega arith)))
      (λ e. low_join s 19 (zone_place s) (zone_place s) (length s) (omega arith) fraction-low (zone_low (zone_place s) kind e))

  pub datetime_low : (n : ℕ) → datetime_answer s ≡ Accepted n → Low s 0 (length s)
  unfolding datetime_answer
  datetime_low n e =
      low-then s _ _ 0 10 (length s) (low-then s _ _ 0 0 10 (λ h. low-none s 0 0 (omega arith)) (part_low 5)) (time_low 5) (accepted_pass _ 0 n e)
