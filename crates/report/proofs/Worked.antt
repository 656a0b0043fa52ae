-- Worked examples: SCOPE's text from its verdicts, the least and the greatest number, buffers just long enough and one byte shorter, arguments.
use Prim.Native.Nat.{ℕ, zero, suc, ◌-◌, ◌^◌}
use mathlib.Core.Path.{◌≡◌, refl}
use mathlib.Core.List.{List, [], ◌∷◌, ◌++◌, map}
use Rattle.std.proofs.Common.{Option, Some, None}
use Rattle.answer.specs.Result.{Accepted}
use Rattle.text.specs.Class.{class_of}
use Rattle.text.specs.Decimal.{decimal, number_written, fitted}
use Rattle.text.specs.Quote.{bytes_of}
use Rattle.verdict.specs.Verdict.{answer_bytes, verdict, read_verdict}
use Rattle.report.specs.Digits.{decimal_digits_in, decimal_digits}
use Rattle.report.specs.Text.{
  field,
  numbers_line,
  verdict_line,
  verdict_lines,
  heading,
  named,
  last_line,
  fitting,
  Rendering,
  rendered,
  Placed,
  placed,
  ended,
}
use Rattle.report.specs.Offset.{offset_of}

-- the verdicts of SCOPE's two records
abbrev verdicts : List ℕ
verdicts = verdict 7 0 (Accepted 0) ++ verdict 9 6 (Accepted 100050)

-- its whole text
abbrev whole : List ℕ
whole = heading ++ (verdict_lines 2 verdicts ++ last_line 0 2 17)

abbrev ends : List (List ℕ)
ends = decimal_digits 0 ∷ decimal_digits 18446744073709551615 ∷ []

-- n dots
abbrev dots : ℕ → List ℕ
dots zero = []
dots (suc n) = 46 ∷ dots n

abbrev rooms : List Rendering
rooms = map (λ n. rendered verdicts (dots n)) (57 ∷ 67 ∷ 68 ∷ [])

abbrev lasts : List Placed
lasts = map (λ n. ended (dots n) 0 2 17) (79 ∷ 80 ∷ [])

abbrev offsets : List (Option ℕ)
offsets =
    map (λ t. offset_of (bytes_of t))
    ("0" ∷ "0042" ∷ "18446744073709551615" ∷ "18446744073709551616" ∷ "" ∷ "+1" ∷ "-0" ∷ " 1" ∷ "1 " ∷ "12a" ∷ [])

pub worked : (whole ≡ bytes_of "offset kind answer place number\n0 7 0 0 0\n6 9 0 0 100050\nstop 0 judged 2 read 17\n")
    × (ends ≡ bytes_of "0" ∷ bytes_of "18446744073709551615" ∷ [])
    × (rooms
    ≡ record { verdicts = 0; written = 0; out = dots 57 }
    ∷ record { verdicts = 1; written = 10; out = bytes_of "0 7 0 0 0\n" ++ dots 57 }
    ∷ record { verdicts = 2; written = 25; out = bytes_of "0 7 0 0 0\n6 9 0 0 100050\n" ++ dots 43 }
    ∷ [])
    × (lasts ≡ placed 0 (dots 79) ∷ placed 24 (bytes_of "stop 0 judged 2 read 17\n" ++ dots 56) ∷ [])
    × (offsets ≡ Some 0 ∷ Some 42 ∷ Some (2 ^ 64 - 1) ∷ None ∷ None ∷ None ∷ None ∷ None ∷ None ∷ None ∷ [])
unfolding answer_bytes verdict read_verdict decimal_digits_in decimal_digits field numbers_line verdict_line verdict_lines heading named last_line fitting rendered ended offset_of class_of fitted number_written decimal
worked = (refl, refl, refl, refl, refl)
