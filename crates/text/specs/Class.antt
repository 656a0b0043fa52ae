-- The class of a byte, and the sets of bytes that the rules allow. SCOPE: "Letters and digits are ASCII throughout."
use Rattle.std.specs.Prelude.{ℕ, Bool, true, false, List, [], ◌∷◌}
use Rattle.text.specs.Ranges.{Span, span, find}
use Rattle.text.specs.declared.Class.{Class}
use Rattle.text.specs.declared.Class.TheVariants.{Digit, Capital, Small, Other}
use Rattle.text.specs.declared.Set.{Set}
use Rattle.text.specs.declared.Set.TheVariants.{Digits, Capitals, Letters, CapitalsDigits, LettersDigits}

abbrev pub classes : List (Span Class)
classes =
    span 0x30 0x39 Digit ∷  -- 0 to 9
    span 0x41 0x5A Capital ∷  -- A to Z
    span 0x61 0x7A Small ∷  -- a to z
    []

unfoldable pub class_of : ℕ → Class
class_of = find Other classes

-- which classes a set holds
abbrev pub holds : Set → Class → Bool
holds Digits Digit = true
holds Digits Capital = false
holds Digits Small = false
holds Digits Other = false
holds Capitals Digit = false
holds Capitals Capital = true
holds Capitals Small = false
holds Capitals Other = false
holds Letters Digit = false
holds Letters Capital = true
holds Letters Small = true
holds Letters Other = false
holds CapitalsDigits Digit = true
holds CapitalsDigits Capital = true
holds CapitalsDigits Small = false
holds CapitalsDigits Other = false
holds LettersDigits Digit = true
holds LettersDigits Capital = true
holds LettersDigits Small = true
holds LettersDigits Other = false

abbrev pub allowed : Set → ℕ → Bool
allowed set b = holds set (class_of b)

abbrev pub is_digit : ℕ → Bool
is_digit b = allowed Digits b

abbrev pub is_letter : ℕ → Bool
is_letter b = allowed Letters b
