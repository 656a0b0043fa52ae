-- `iban::validate_iban` meets its contract: what the character steps say, and where they pass the step on the remainder of the text in electronic format.
use Prim.Native.Nat.{ℕ}
use mathlib.Core.Path.{sym, ap, ◌∙◌}
use native.Mathlib.Omega.{arith}
use lib.ListN.{take}
use Rattle.std.proofs.Math.Nat.{sub-zero}
use Rattle.std.proofs.lemmas.Result.{err_from_is_err_and}
use Rattle.answer.proofs.Laws.{refuses, accepts}
use Rattle.checkdigit.specs.RemainderStep.{remainder_step}
use Rattle.checkdigit.specs.Sum.{iban_remainder}
use Rattle.iban.proofs.Formats.{format_refuses, formed_room, sum_is}
use Rattle.iban.proofs.validate_iban.Goals as goal

pub returns-in_err-e : goal.returns-in_err-e
returns-in_err-e c =
    let p = err_from_is_err_and c.from_residual.result c.from_residual.ensures.1 in
    rw (p.1, p.2) (format_refuses _ _ c.electronic_format.ensures _ c.in_err-e.was)

pub slice_bounds-iban_remainder-end : goal.slice_bounds-iban_remainder-end
slice_bounds-iban_remainder-end c =
    let w = formed_room _ _ c.electronic_format.ensures _ c.in_ok-e.was in
    omega (arith, w)

pub returns-in_err-remainder_is_one : goal.returns-in_err-remainder_is_one
returns-in_err-remainder_is_one c =
    let p = err_from_is_err_and c.from_residual-in_err-remainder_is_one.result c.from_residual-in_err-remainder_is_one.ensures.1 in
    rw (p.1, p.2)
    (sym (sum_is _ _ c.electronic_format.ensures _ c.in_ok-e.was
    ∙ refuses 1 (ap (λ (n : ℕ). remainder_step (iban_remainder (take n c.in_ok-e.e.text)) 106) (sym (sub-zero c.in_ok-e.e.count))
    ∙ ap (λ (n : ℕ). remainder_step n 106) (sym c.iban_remainder-r.ensures.is) ∙ sym c.remainder_is_one.ensures ∙ c.in_err-remainder_is_one.was)))

pub returns : goal.returns
returns c =
    sym (sum_is _ _ c.electronic_format.ensures _ c.in_ok-e.was
    ∙ accepts 1 (ap (λ (n : ℕ). remainder_step (iban_remainder (take n c.in_ok-e.e.text)) 106) (sym (sub-zero c.in_ok-e.e.count))
    ∙ ap (λ (n : ℕ). remainder_step n 106) (sym c.iban_remainder-r.ensures.is) ∙ sym c.remainder_is_one.ensures ∙ c.in_ok-remainder_is_one.was))
