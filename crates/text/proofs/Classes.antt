-- Laws of the classes: a byte's class from its bounds, and its bounds from its class.
use Prim.Native.Nat.{ℕ, ◌≤◌, ◌<◌}
use mathlib.Core.Path.{◌≡◌}
use mathlib.Core.Bool.{Bool, true, false, cond}
use mathlib.Core.List.{[]}
use mathlib.Core.Logic.{◌⊎◌, inl, inr, ⊎_elim}
use native.Mathlib.Omega.{arith}
use lib.Dec.{T}
use Rattle.text.specs.Ranges.{within}
use Rattle.text.specs.Class.{classes, class_of, holds, allowed, is_digit, is_letter}
use Rattle.text.specs.declared.Class.{Class}
use Rattle.text.specs.declared.Class.TheVariants.{Digit, Capital, Small, Other}
use Rattle.text.specs.declared.Set.{Set}
use Rattle.text.specs.declared.Set.TheVariants.{Digits, Capitals, Letters, CapitalsDigits, LettersDigits}
use Rattle.text.proofs.Ranges.{is_false, within-ends, even, on, evenly}

-- the class of a byte in a range that no row splits
pub classed : (l h b : ℕ) → l ≤ b → b ≤ h → T (even [] l h classes) → class_of b ≡ on Other l h classes
unfolding class_of
classed l h b from to t = evenly [] l h b (λ e. e) from to Other classes t

pub is_digit_lem : (b : ℕ) → 48 ≤ b → b ≤ 57 → is_digit b ≡ true
is_digit_lem b h k = rw (classed 48 57 b h k tt)

-- the class that three tests give
abbrev tested : Bool → Bool → Bool → Class
tested p q r = cond p Digit (cond q Capital (cond r Small Other))

only_digit : (p q r : Bool) → T (holds Digits (tested p q r)) → T p
only_digit true q r t = tt
only_digit false true r t = t
only_digit false false true t = t
only_digit false false false t = t

only_capital : (p q r : Bool) → T (holds Capitals (tested p q r)) → T q
only_capital true q r t = absurd t
only_capital false true r t = tt
only_capital false false true t = t
only_capital false false false t = t

only_letter : (p q r : Bool) → T (holds Letters (tested p q r)) → T q ⊎ T r
only_letter true q r t = absurd t
only_letter false true r t = inl tt
only_letter false false true t = inr tt
only_letter false false false t = absurd t

pub digit_ends : (b : ℕ) → T (is_digit b) → (48 ≤ b) × (b ≤ 57)
unfolding class_of
digit_ends b t = within-ends 48 57 b (only_digit (within 48 57 b) (within 65 90 b) (within 97 122 b) t)

pub capital_ends : (b : ℕ) → T (allowed Capitals b) → (65 ≤ b) × (b ≤ 90)
unfolding class_of
capital_ends b t = within-ends 65 90 b (only_capital (within 48 57 b) (within 65 90 b) (within 97 122 b) t)

pub letter_ends : (b : ℕ) → T (is_letter b) → (65 ≤ b) × (b ≤ 122)
unfolding class_of
letter_ends b t =
    ⊎_elim (λ u. let e = within-ends 65 90 b u in omega arith) (λ u. let e = within-ends 97 122 b u in omega arith)
    (only_letter (within 48 57 b) (within 65 90 b) (within 97 122 b) t)

-- any set allows digits and letters only
digit_or_letter : (set : Set) (c : Class) → T (holds set c) → T (holds Digits c) ⊎ T (holds Letters c)
digit_or_letter Digits Digit t = inl tt
digit_or_letter Digits Capital t = absurd t
digit_or_letter Digits Small t = absurd t
digit_or_letter Digits Other t = absurd t
digit_or_letter Capitals Digit t = absurd t
digit_or_letter Capitals Capital t = inr tt
digit_or_letter Capitals Small t = absurd t
digit_or_letter Capitals Other t = absurd t
digit_or_letter Letters Digit t = absurd t
digit_or_letter Letters Capital t = inr tt
digit_or_letter Letters Small t = inr tt
digit_or_letter Letters Other t = absurd t
digit_or_letter CapitalsDigits Digit t = inl tt
digit_or_letter CapitalsDigits Capital t = inr tt
digit_or_letter CapitalsDigits Small t = absurd t
digit_or_letter CapitalsDigits Other t = absurd t
digit_or_letter LettersDigits Digit t = inl tt
digit_or_letter LettersDigits Capital t = inr tt
digit_or_letter LettersDigits Small t = inr tt
digit_or_letter LettersDigits Other t = absurd t

pub allowed-ends : (set : Set) (b : ℕ) → T (allowed set b) → (48 ≤ b) × (b ≤ 122)
allowed-ends set b t =
    ⊎_elim (λ u. let e = digit_ends b u in omega arith) (λ u. let e = letter_ends b u in omega arith)
    (digit_or_letter set (class_of b) t)

pub below_digits : (b : ℕ) → b < 48 → is_digit b ≡ false
below_digits b h = is_false (is_digit b) (λ t. let e = digit_ends b t in omega arith)

pub above_digits : (b : ℕ) → 57 < b → is_digit b ≡ false
above_digits b h = is_false (is_digit b) (λ t. let e = digit_ends b t in omega arith)
