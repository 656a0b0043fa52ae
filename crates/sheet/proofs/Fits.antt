-- A text that a sheet can hold: letters and digits that pass every step but the remainder. What is held of a field that passes them is one,
-- and a digit more at the places of the check digits leaves one.
use Prim.Native.Nat.{ℕ, zero, suc, ◌+◌, ◌-◌, ◌≤◌, ◌<◌}
use mathlib.Core.Path.{◌≡◌, refl, sym, ◌∙◌, ap, subst}
use mathlib.Core.Bool.{Bool, true, false, cond}
use mathlib.Core.List.{List}
use native.Mathlib.Nat.{add-zero}
use native.Mathlib.Omega.{arith}
use borrow.Author.Tests.{ltb-true, ltb-false, eqb-true, eqb-false}
use lib.Dec.{T, eqb, ltb}
use lib.ListN.{length, get_or, set, length-set}
use lib.Seq.{get_or-set_same, get_or-set_other}
use Rattle.answer.specs.Steps.{must, ◌and_then◌}
use Rattle.answer.specs.declared.Reason.{Reason}
use Rattle.answer.specs.declared.Reason.TheVariants.{Wrong}
use Rattle.answer.specs.Result.{Step, Pass}
use Rattle.answer.proofs.Laws.{passes, both_pass}
use Rattle.text.specs.Class.{class_of, holds, allowed, is_digit}
use Rattle.text.specs.Field.{length_is, wrong_from, first_wrong}
use Rattle.text.specs.declared.Class.{Class}
use Rattle.text.specs.declared.Class.TheVariants.{Digit, Capital, Small, Other}
use Rattle.text.specs.declared.Set.{Set}
use Rattle.text.specs.declared.Set.TheVariants.{Digits, Capitals, Letters, CapitalsDigits, LettersDigits}
use Rattle.text.proofs.Ranges.{within_yes, within-ends}
use Rattle.text.proofs.Fields.{all-allowed, allowed-inside}
use Rattle.text.proofs.Low.{length-held}
use Rattle.iban.specs.Electronic.{electronic, electronic_text}
use Rattle.iban.specs.Iban.{count_step, class_steps, step_in, iban_characters}
use Rattle.iban.proofs.Electronics.{length-text}
use Rattle.iban.proofs.Formats.{Passed, passed}
use Rattle.lei.specs.Lei.{lei_characters}
use Rattle.sheet.specs.Sheets.{sheet_kind, held_text, characters, digits_place}
use Rattle.sheet.proofs.Plain.{Plain, plain_set, plain_text, plain_step}

-- a step whose test holds passes, and so do two that pass
must_passes : (t : Bool) (r : Reason) (k : ℕ) → T t → must t r k ≡ Pass
must_passes true r k t = refl
must_passes false r k t = absurd t

pub passes_both : (a b : Step) → a ≡ Pass → b ≡ Pass → a and_then b ≡ Pass
passes_both a b p q = passes b p ∙ q

-- a search passes where each of the bytes is allowed
none_wrong : (set : Set) (s : List ℕ) (i n k : ℕ) → ((j : ℕ) → j < n → T (allowed set (get_or s (i + j) 0))) → wrong_from set s i n k ≡ Pass
unfolding wrong_from
none_wrong set s i zero k f = refl
none_wrong set s i (suc n) k f =
    passes_both (must (allowed set (get_or s i 0)) (Wrong i) k) (wrong_from set s (i + 1) n k)
    (must_passes (allowed set (get_or s i 0)) (Wrong i) k (rw add-zero at (f zero (omega arith))))
    (none_wrong set s (i + 1) n k (λ j h. let q : i + suc j ≡ i + 1 + j = omega arith in rw q at (f (suc j) (omega arith))))

-- .. and so it does after another byte is put at a place where it is allowed, or which is not looked at
wrong_set : (set₀ : Set) (t : List ℕ) (i n k p d : ℕ) → wrong_from set₀ t i n k ≡ Pass → (i ≤ p → p < i + n → T (allowed set₀ d)) → wrong_from set₀ (set t p d) i n k ≡ Pass
wrong_set set₀ t i n k p d e f = none_wrong set₀ (set t p d) i n k (λ j h. go j h (all-allowed set₀ t i n k e j h) (eqb (i + j) p) refl)
  where
    go : (j : ℕ) → j < n → T (allowed set₀ (get_or t (i + j) 0)) → (b : Bool) → eqb (i + j) p ≡ b → T (allowed set₀ (get_or (set t p d) (i + j) 0))
    go j h a true q =
        let at : i + j ≡ p = eqb-true (i + j) p q in
        let inside : i + j < length t = allowed-inside set₀ t (i + j) a in
        rw (at, get_or-set_same t p d 0 (omega arith)) (f (omega arith) (omega arith))
    go j h a false q = rw (get_or-set_other t p (i + j) d 0 (eqb-false (i + j) p q)) a

-- every set of bytes that a rule allows has letters and digits only, and digits are in each that has more than letters
wider : (set : Set) (c : Class) → T (holds set c) → T (holds LettersDigits c)
wider set Digit t = tt
wider set Capital t = tt
wider set Small t = tt
wider Digits Other t = t
wider Capitals Other t = t
wider Letters Other t = t
wider CapitalsDigits Other t = t
wider LettersDigits Other t = t

digit_is : (c : Class) → T (holds Digits c) → T (holds CapitalsDigits c)
digit_is Digit t = tt
digit_is Capital t = tt
digit_is Small t = t
digit_is Other t = t

-- letters and digits from one place up to another
abbrev PlainPart : List ℕ → ℕ → ℕ → Type 0
PlainPart t from to = (i : ℕ) → from ≤ i → i < to → T (allowed LettersDigits (get_or t i 0))

plain_part : (set : Set) (t : List ℕ) (from to k : ℕ) → first_wrong set t from to k ≡ Pass → PlainPart t from to
unfolding first_wrong
plain_part set t from to k e i h l =
    let q : from + (i - from) ≡ i = omega arith in
    wider set (class_of (get_or t i 0)) (rw q at (all-allowed set t from (to - from) k e (i - from) (omega arith)))

plain_join : (t : List ℕ) (a b c : ℕ) → PlainPart t a b → PlainPart t b c → PlainPart t a c
plain_join t a b c p q i h l = go (ltb i b) refl
  where
    go : (x : Bool) → ltb i b ≡ x → T (allowed LettersDigits (get_or t i 0))
    go true e = p i h (ltb-true i b e)
    go false e = q i (ltb-false i b e) l

-- a law of the two kinds
pub by_kind : (P : ℕ → Type 0) → P 1 → P 2 → (kind : ℕ) → T (sheet_kind kind) → P kind
by_kind P one two kind t = go (eqb kind 1) refl
  where
    go : (b : Bool) → eqb kind 1 ≡ b → P kind
    go true e = subst P (sym (eqb-true kind 1 e)) one
    go false e =
        let w = within-ends 1 2 kind t in
        let other : kind ≡ 2 = omega (arith, eqb-false kind 1 e) in
        subst P (sym other) two

pub record Fit (kind : ℕ) (t : List ℕ) : Type 0 where
  pub known : T (sheet_kind kind)
  pub plain : Plain t
  pub passes : characters kind t ≡ Pass

-- an IBAN: its class steps on a text of letters and digits, which is its own electronic format
class_plain : (t : List ℕ) → class_steps t ≡ Pass → Plain t
unfolding class_steps
class_plain t e i h =
    let p = both_pass _ _ e in
    let q = both_pass _ _ p.0 in
    plain_join t 0 4 (length t) (plain_join t 0 2 4 (plain_part _ t 0 2 _ q.0) (plain_part _ t 2 4 _ q.1)) (plain_part _ t 4 (length t) _ p.1) i (omega arith) h

class_digit : (t : List ℕ) (p d : ℕ) → class_steps t ≡ Pass → 2 ≤ p → T (is_digit d) → class_steps (set t p d) ≡ Pass
unfolding class_steps first_wrong
class_digit t p d e h digit =
    let x = both_pass _ _ e in
    let y = both_pass _ _ x.0 in
    rw (length-set t p d)
    (passes_both _ _
    (passes_both _ _ (wrong_set _ t 0 2 _ p d y.0 (λ a b. absurd (omega arith))) (wrong_set _ t 2 2 _ p d y.1 (λ a b. digit)))
    (wrong_set _ t 4 (length t - 4) _ p d x.1 (λ a b. wider Digits (class_of d) digit)))

module _ (t : List ℕ) (p : Plain t) where
  iban_passed : characters 1 t ≡ Pass → Passed t
  unfolding characters
  iban_passed e = rw (plain_text t p) at (passed t e)

  iban_passes : Passed t → characters 1 t ≡ Pass
  unfolding characters iban_characters count_step
  iban_passes o =
      let n : length (electronic t) ≡ length t = sym (length-text (electronic t)) ∙ ap length (plain_text t p) in
      passes_both _ _ (passes_both _ _ (plain_step t p) (rw (n, within_yes 5 34 (length t) o.low o.high)))
      (ap (λ (u : List ℕ). step_in (electronic t) (class_steps u)) (plain_text t p) ∙ ap (step_in (electronic t)) o.classes)

iban_held : (s : List ℕ) → characters 1 s ≡ Pass → Fit 1 (held_text 1 s)
unfolding characters held_text
iban_held s e =
    let o = passed s e in
    let p = class_plain (electronic_text s) o.classes in
    record { known = tt; plain = p; passes = iban_passes (electronic_text s) p o }

-- an LEI
pub lei_long : (t : List ℕ) → characters 2 t ≡ Pass → length t ≡ 20
unfolding characters lei_characters
lei_long t e = length-held 20 t 201 (both_pass _ _ (both_pass _ _ e).0).0

lei_held : (s : List ℕ) → characters 2 s ≡ Pass → Fit 2 (held_text 2 s)
unfolding characters held_text lei_characters
lei_held s e =
    let n = lei_long s e in
    record { known = tt; plain = λ i h. plain_part _ s 0 20 _ (both_pass _ _ (both_pass _ _ e).0).1 i (omega arith) (omega arith); passes = e }

lei_digit : (t : List ℕ) (p d : ℕ) → characters 2 t ≡ Pass → T (is_digit d) → characters 2 (set t p d) ≡ Pass
unfolding characters lei_characters length_is first_wrong
lei_digit t p d e digit =
    let x = both_pass _ _ e in
    let y = both_pass _ _ x.0 in
    passes_both _ _
    (passes_both _ _ (rw (length-set t p d) y.0) (wrong_set _ t 0 20 _ p d y.1 (λ a b. digit_is (class_of d) digit)))
    (wrong_set _ t 18 2 _ p d x.1 (λ a b. digit))

-- both kinds
pub held_fit : (kind : ℕ) (s : List ℕ) → T (sheet_kind kind) → characters kind s ≡ Pass → Fit kind (held_text kind s)
held_fit kind s t = by_kind (λ k. characters k s ≡ Pass → Fit k (held_text k s)) (iban_held s) (lei_held s) kind t

pub held_plain : (kind : ℕ) (t : List ℕ) → Plain t → held_text kind t ≡ t
unfolding held_text
held_plain kind t p = go (eqb kind 1)
  where
    go : (b : Bool) → cond b (electronic_text t) t ≡ t
    go true = plain_text t p
    go false = refl

module _ (kind : ℕ) (t : List ℕ) (f : Fit kind t) where
  pub fit_few : (5 ≤ length t) × (length t ≤ 34)
  fit_few =
      by_kind (λ k. characters k t ≡ Pass → (5 ≤ length t) × (length t ≤ 34))
      (λ e. let o = iban_passed t f.plain e in (o.low, o.high))
      (λ e. let n = lei_long t e in (omega arith, omega arith))
      kind f.known f.passes

  pub fit_digit : (p d : ℕ) → digits_place kind ≤ p → T (is_digit d) → Fit kind (set t p d)
  fit_digit p d h digit =
      let q = plain_set t p d f.plain (wider Digits (class_of d) digit) in
      record {
        known = f.known;
        plain = q;
        passes = by_kind (λ k. digits_place k ≤ p → characters k t ≡ Pass → characters k (set t p d) ≡ Pass)
            (λ l e. iban_passes (set t p d) q (after (iban_passed t f.plain e) l digit))
            (λ l e. lei_digit t p d e digit)
            kind f.known h f.passes;
      }
    where
      after : Passed t → 2 ≤ p → T (is_digit d) → Passed (set t p d)
      after o l digit = record { low = rw (length-set t p d) o.low; high = rw (length-set t p d) o.high; classes = class_digit t p d o.classes l digit }
