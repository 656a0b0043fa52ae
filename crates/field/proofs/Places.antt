-- What any field is answered fits a verdict: its place is below 2^16, and its value below 2^64.
use Prim.Native.Nat.{ℕ, ◌^◌, ◌<◌}
use mathlib.Core.Path.{◌≡◌, refl}
use mathlib.Core.Bool.{Bool, true, false, cond}
use mathlib.Core.List.{List}
use native.Mathlib.Omega.{arith}
use lib.Dec.{leb, leb→le}
use lib.ListN.{length}
use Rattle.answer.specs.Steps.{must}
use Rattle.std.specs.Prelude.{Err}
use Rattle.answer.specs.Result.{Answer, Step, Pass}
use Rattle.answer.specs.declared.Reason.TheVariants.{TooLong}
use Rattle.answer.proofs.Laws.{both_pass, test_held}
use Rattle.text.proofs.Near.{Small, Near, Short, near_at, near_after, nears}
use Rattle.utf8.specs.Chars.{valid_prefix}
use Rattle.utf8.proofs.Promises.{longest}
use Rattle.iban.proofs.Places.{iban_small}
use Rattle.lei.proofs.Places.{lei_small}
use Rattle.bic.proofs.Places.{bic_small}
use Rattle.datetime.proofs.Places.{date_small, datetime_small}
use Rattle.amount.proofs.Places.{amount_small}
use Rattle.country.proofs.Places.{country_small}
use Rattle.currency.proofs.Places.{currency_small}
use Rattle.common.proofs.Places.{cents_small, lenient_small}
use Rattle.field.specs.Field.{field_limit, admission, rule_of, answered, check_field}

pick_small : (t : Bool) (a b : Answer) → Small a → Small b → Small (cond t a b)
pick_small true a b p q = p
pick_small false a b p q = q

answered_small : (a : Step) (b : Answer) → Near a → (a ≡ Pass → Small b) → Small (answered a b)
answered_small Pass b p q = q refl
answered_small (Err e) b p q = p.small e.reason e.check refl

module _ (kind : ℕ) (s : List ℕ) (f : kind < 2 ^ 64) where
  rule_small : Short s → Small (rule_of kind s)
  unfolding rule_of
  rule_small h =
      search (nears, near_at, pick_small, iban_small, lei_small, bic_small, date_small, datetime_small, amount_small, country_small, currency_small, cents_small, lenient_small) depth 14

  -- a field within the limit is short
  within_limit : (k : ℕ) → must (leb (length s) field_limit) (TooLong (length s)) k ≡ Pass → Short s
  within_limit k e = omega (arith, leb→le (length s) field_limit (test_held (leb (length s) field_limit) (TooLong (length s)) k e))

  pub field_small : length s < 2 ^ 64 → Small (check_field kind s)
  unfolding check_field admission
  field_small h =
      answered_small _ _
      (near_after _ _ (search nears depth 9)
      (λ e. let v : valid_prefix s < 2 ^ 16 = omega (arith, (longest s).inside, within_limit 2 (both_pass _ _ e).1) in search nears))
      (λ e. rule_small (within_limit 2 (both_pass _ _ (both_pass _ _ e).0).1))
