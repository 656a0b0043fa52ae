-- Unicode's property White_Space (PropList.txt of the Unicode Character Database), the code points that SCOPE lists under kind 1.
use Rattle.std.specs.Prelude.{ℕ, Bool, true, false, List, [], ◌∷◌}
use Rattle.text.specs.Ranges.{Span, span, find}

abbrev pub spaces : List (Span Bool)
spaces =
    span 0x0009 0x000D true ∷
    span 0x0020 0x0020 true ∷
    span 0x0085 0x0085 true ∷
    span 0x00A0 0x00A0 true ∷
    span 0x1680 0x1680 true ∷
    span 0x2000 0x200A true ∷
    span 0x2028 0x2028 true ∷
    span 0x2029 0x2029 true ∷
    span 0x202F 0x202F true ∷
    span 0x205F 0x205F true ∷
    span 0x3000 0x3000 true ∷
    []

unfoldable pub white_space : ℕ → Bool
white_space = find false spaces
