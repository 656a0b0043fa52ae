-- Definitions that only inner functions of `repairs` cite: a reader of the promises can pass over them.
use Rattle.std.specs.Prelude.{ℕ, ◌<◌, ◌≡◌, ⊤, List, take, set, Result, MatchResult}
use Rattle.answer.specs.declared.Refusal.{Refusal}
use Rattle.checkdigit.specs.Sum.{exchanged}
use Rattle.checkdigit.specs.Fill.{check_digits, stamped}
use Rattle.sheet.specs.Sheets.{remainder_by, digits_place}
use Rattle.sheet.specs.Load.{refusal}
use Rattle.repairs.specs.Repairs.{repair_of}
use Rattle.repairs.specs.declared.Request.{Request}
use Rattle.repairs.specs.declared.Request.TheVariants.{Replace, Exchange, Fill}
use Rattle.sheet.specs.declared.Sheet.{Sheet}
use Rattle.sheet.specs.declared.Repaired.{Repaired}

-- a sheet's 34 bytes with the check digits filled in
unfoldable pub filled_bytes : Sheet → List ℕ
filled_bytes s =
    stamped s.text (digits_place s.kind) (check_digits (remainder_by s.kind (take s.length (stamped s.text (digits_place s.kind) 0))))

-- .. with a repair made as asked
unfoldable pub asked_bytes : Sheet → Request → List ℕ
asked_bytes s (Replace place byte) = set s.text place byte
asked_bytes s (Exchange i j) = exchanged s.text i j
asked_bytes s Fill = filled_bytes s

-- each place that a request gives is below n
abbrev pub Inside : ℕ → Request → Type 0
Inside n (Replace place byte) = place < n
Inside n (Exchange i j) = (i < n) × (j < n)
Inside n Fill = ⊤

-- what a request finds of a sheet: the repair, or its first refusal
abbrev pub Tried : Sheet → Request → Result Repaired Refusal → Type 0
Tried s q r = MatchResult r (λ x. x ≡ repair_of s q) (λ e. refusal s e.reason e.check ≡ repair_of s q)
