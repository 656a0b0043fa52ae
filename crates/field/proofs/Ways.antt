-- The ways in which a field's steps may be asked: each gives the answers of SCOPE's order where it suits the kind.
use Prim.Native.Nat.{ℕ, ◌+◌, ◌≤◌}
use mathlib.Core.Path.{◌≡◌, refl}
use mathlib.Core.Bool.{Bool, true, false}
use mathlib.Core.List.{List, [], ◌∷◌, map}
use mathlib.Core.Logic.{◌≢◌, inl, inr, ⊎_elim}
use native.Mathlib.Nat.{eq-or-lt_of_le}
use native.Mathlib.Omega.{arith}
use borrow.Author.Tests.{eq-eqb, ne_eqb}
use lib.ListN.{length}
use types.Run.{OneOf}
use Rattle.answer.specs.Steps.{◌and_then◌, ◌or_accept◌}
use Rattle.std.specs.Prelude.{Err}
use Rattle.answer.specs.Result.{Answer, Accepted, Refused, Step, Pass, Stop}
use Rattle.answer.specs.declared.Refusal.{Refusal}
use Rattle.answer.specs.declared.Reason.TheVariants.{UnknownKind}
use Rattle.text.proofs.Low.{Low}
use Rattle.text.specs.Ranges.{within}
use Rattle.text.proofs.Ranges.{within_yes, within-ends, of_keys}
use Rattle.utf8.specs.Chars.{ascii}
use Rattle.utf8.proofs.Ascii.{below_ascii, ascii_prefix}
use Rattle.lei.proofs.Accepted.{lei_low}
use Rattle.bic.proofs.Accepted.{bic_low}
use Rattle.datetime.proofs.Accepted.{date_low, datetime_low}
use Rattle.amount.proofs.Accepted.{amount_low}
use Rattle.country.proofs.Accepted.{country_low}
use Rattle.currency.proofs.Accepted.{currency_low}
use Rattle.common.proofs.Accepted.{cents-low, lenient_low}
use Rattle.field.specs.Field.{Kind, kinds, known, line_in, limit_step, admission, rule_of, answered, check_field}
use Rattle.field.specs.Inner.{number_of, utf8_step, before_rule, after_rule, Suits}
use Rattle.field.specs.declared.Rule.{Rule}
use Rattle.field.specs.declared.Rule.TheVariants.{Iban, Lei, Bic, Date, Datetime, Amount, Country, Currency, Cents, CentsLenient}
use Rattle.field.specs.declared.Way.{Way}
use Rattle.field.specs.declared.Way.TheVariants.{RuleFirst, AdmittedFirst, Exempt}

-- a number that no line of a table has
pub no_line : {A : Type 0} (ks : List Kind) (d : A) (f : Kind → A) (n : ℕ) → (OneOf (map (λ k. k.number) ks) n → ⊥) → line_in ks d f n ≡ d
no_line [] d f n h = refl
no_line (k ∷ []) d f n h = rw (ne_eqb n k.number h)
no_line (k ∷ j ∷ ks) d f n h = rw (ne_eqb n k.number (λ e. h (inl e))) (no_line (j ∷ ks) d f n (λ o. h (inr o)))

-- the numbers of the table lie from 1 to 10
pub from_to : (n : ℕ) → OneOf (map (λ k. k.number) kinds) n → (1 ≤ n) × (n ≤ 10)
from_to n o = within-ends 1 10 n (rw (of_keys (within 1 10) (map (λ k. k.number) kinds) n tt o) tt)

-- a rule that accepts bytes below 128 only accepts ASCII
low-ascii : (f : List ℕ → Answer) → ((s : List ℕ) (m : ℕ) → f s ≡ Accepted m → Low s 0 (length s)) → (s : List ℕ) (m : ℕ) → f s ≡ Accepted m → ascii s ≡ true
low-ascii f low s m e = below_ascii s (λ i h. low s m e i (omega arith) h)

module _ (n : ℕ) where
  -- the kind k, or one after it
  line : (k : ℕ) → Suits RuleFirst k → (k + 1 ≤ n → Suits RuleFirst n) → k ≤ n → Suits RuleFirst n
  line k p f l = ⊎_elim (λ e. rw (← e) p) (λ u. f (omega arith)) (eq-or-lt_of_le l)

  pub rule_first : 2 ≤ n → n ≤ 10 → Suits RuleFirst n
  unfolding admission rule_of ◌and_then◌
  rule_first l h =
      line 2 (λ s. refl, low-ascii _ lei_low)
      (line 3 (λ s. refl, low-ascii _ bic_low)
      (line 4 (λ s. refl, low-ascii _ date_low)
      (line 5 (λ s. refl, low-ascii _ datetime_low)
      (line 6 (λ s. refl, low-ascii _ amount_low)
      (line 7 (λ s. refl, low-ascii _ country_low)
      (line 8 (λ s. refl, low-ascii _ currency_low)
      (line 9 (λ s. refl, low-ascii _ cents-low)
      (line 10 (λ s. refl, low-ascii _ lenient_low) (λ u. absurd (omega arith))))))))))
      l

-- every rule but the IBAN's
pub rule_suits : (r : Rule) → (r ≡ Iban → ⊥) → Suits RuleFirst (number_of r)
rule_suits Iban n = absurd (n refl)
rule_suits Lei n = rule_first 2 (omega arith) (omega arith)
rule_suits Bic n = rule_first 3 (omega arith) (omega arith)
rule_suits Date n = rule_first 4 (omega arith) (omega arith)
rule_suits Datetime n = rule_first 5 (omega arith) (omega arith)
rule_suits Amount n = rule_first 6 (omega arith) (omega arith)
rule_suits Country n = rule_first 7 (omega arith) (omega arith)
rule_suits Currency n = rule_first 8 (omega arith) (omega arith)
rule_suits Cents n = rule_first 9 (omega arith) (omega arith)
rule_suits CentsLenient n = rule_first 10 (omega arith) (omega arith)

pub iban_admitted_first : Suits AdmittedFirst 1
unfolding admission ◌and_then◌
iban_admitted_first s = refl

-- What the rule of a kind other than the IBAN's accepts is ASCII: an unknown kind's rule accepts nothing.
pub ruled : (n : ℕ) (s : List ℕ) (m : ℕ) → n ≢ 1 → rule_of n s ≡ Accepted m → ascii s ≡ true
unfolding rule_of ◌or_accept◌
ruled n s m other e = go (within 2 10 n) refl
  where
    go : (t : Bool) → within 2 10 n ≡ t → ascii s ≡ true
    go true t = let w = within-ends 2 10 n (rw t tt) in (rule_first n w.0 w.1).1 s m e
    go false t =
        let none : OneOf (map (λ k. k.number) kinds) n → ⊥ = λ o. let w = from_to n o in apart (within_yes 2 10 n (omega arith) w.1) t in
        let r = no_line kinds (Refused (UnknownKind n) 1) (λ k. k.rule s) n none in
        let z : ◌≡◌ {A = ℕ} 0 1 = cc in
        absurd (omega arith)
      where
        apart : within 2 10 n ≡ true → within 2 10 n ≡ false → ⊥
        apart p q = let z : ◌≡◌ {A = ℕ} 0 1 = cc in omega arith

-- a rule's answer, where a step is asked after a refusal
abbrev pub late : Step → Answer → Answer
late a (Accepted m) = Accepted m
late a (Err e) = a and_then Stop e.reason e.check or_accept 0

late_pass : (x : Answer) → late Pass x ≡ x
unfolding ◌and_then◌ ◌or_accept◌
late_pass (Accepted m) = refl
late_pass (Err e) = refl

late_step : (a u : Step) (x : Answer) → ((m : ℕ) → x ≡ Accepted m → u ≡ Pass) → answered a (late u x) ≡ answered (a and_then u) x
unfolding ◌and_then◌ ◌or_accept◌
late_step (Err e) u x h = refl
late_step Pass u (Accepted m) h = rw (h m refl)
late_step Pass Pass (Err e) h = refl
late_step Pass (Err e) (Err x) h = refl

-- each way that suits a kind gives its answers
pub any_order : (w : Way) (n : ℕ) (s : List ℕ) → Suits w n → answered (before_rule w s) (late (after_rule w s) (rule_of n s)) ≡ check_field n s
unfolding check_field
any_order RuleFirst n s h =
    rw (h.0 s) (late_step (limit_step s) (utf8_step s) (rule_of n s) (λ m e. rw (eq-eqb _ _ (ascii_prefix s (h.1 s m e)))))
any_order AdmittedFirst n s h = rw (h s, late_pass)
any_order Exempt n s h = rw (h s, late_pass)

-- a kind that no line of the table has
pub unknown_refuses : (n : ℕ) (s : List ℕ) → known n ≡ false → Refused (UnknownKind n) 1 ≡ check_field n s
unfolding check_field admission ◌and_then◌
unknown_refuses n s h = rw h

-- so the answer is the rule's where the steps before it pass, with the step after a refusal; and else that of the step that stopped
module _ (w : Way) (n : ℕ) (s : List ℕ) {b : Step} (h : Suits w n) (e : b ≡ before_rule w s) where
  pub refused : {x : Refusal} → b ≡ Err x → Err x ≡ check_field n s
  refused p = rw (← e, p) at (any_order w n s h)

  module _ {a : Answer} (p : b ≡ Pass) (q : a ≡ rule_of n s) where
    pub accepted : (m : ℕ) → a ≡ Accepted m → Accepted m ≡ check_field n s
    accepted m t = rw (← e, p, ← q, t) at (any_order w n s h)

    pub late_refused : {x y : Refusal} {u : Step} → a ≡ Err x → u ≡ after_rule w s → u ≡ Err y → Err y ≡ check_field n s
    unfolding ◌and_then◌ ◌or_accept◌
    late_refused t v z = rw (← e, p, ← q, t, ← v, z) at (any_order w n s h)

    pub rule_refused : {x : Refusal} {u : Step} → a ≡ Err x → u ≡ after_rule w s → u ≡ Pass → Err x ≡ check_field n s
    unfolding ◌and_then◌ ◌or_accept◌
    rule_refused t v z = rw (← e, p, ← q, t, ← v, z) at (any_order w n s h)
