-- What each function of the C interface returns and leaves in the slices lent to it; 255 where one is too short, and then nothing is written.
use Rattle.std.specs.Prelude.{ℕ, Bool, ◌||◌, cond, List, [], ◌∷◌, ◌++◌, ltb, length, drop}
use Rattle.answer.specs.Table.{number_of}
use Rattle.answer.specs.Result.{Answer}
use Rattle.field.specs.Field.{check_field}
use Rattle.verdict.specs.Verdict.{answer_bytes}
use Rattle.batch.specs.Walk.{Outcome, call_of, stop_number}
use Rattle.sheet.specs.declared.Repaired.{Repaired}
use Rattle.stitchbarrow.specs.Sheets.{sheet_size, sheet_bytes}

-- the byte that is returned, and the answer's slice
pub record Reply : Type 0 where
  pub code : ℕ
  pub bytes : List ℕ

abbrev pub answer_size : ℕ
answer_size = 12

-- an answer in the first 12 bytes of a slice, the others as lent
unfoldable pub answer_reply : Answer → List ℕ → Reply
answer_reply a answer = record { code = number_of a; bytes = answer_bytes a ++ drop answer_size answer }

unfoldable pub check_reply : ℕ → List ℕ → List ℕ → Reply
check_reply kind value answer =
    cond (ltb (length answer) answer_size) (record { code = 255; bytes = answer }) (answer_reply (check_field kind value) answer)

-- the byte that is returned, the output and the counts
pub record RunReply : Type 0 where
  pub code : ℕ
  pub out : List ℕ
  pub counts : List ℕ

abbrev pub run_answered : Outcome → List ℕ → RunReply
run_answered r counts = record { code = stop_number r.stop; out = r.out; counts = (r.judged ∷ r.read ∷ r.written ∷ []) ++ drop 3 counts }

unfoldable pub run_reply : List ℕ → ℕ → List ℕ → ℕ → List ℕ → RunReply
run_reply batch offset out budget counts =
    cond (ltb (length counts) 3) (record { code = 255; out = out; counts = counts }) (run_answered (call_of batch offset out budget) counts)

-- the byte that is returned, the sheet's slice and the answer's
pub record SheetReply : Type 0 where
  pub code : ℕ
  pub sheet : List ℕ
  pub answer : List ℕ

-- a load's or a repair's sheet in the first 46 bytes of a slice and its answer in the first 12 of another, the others as lent
unfoldable pub handed : Repaired → List ℕ → List ℕ → SheetReply
handed r sheet answer =
    record {
      code = number_of r.answer;
      sheet = sheet_bytes r.sheet ++ drop sheet_size sheet;
      answer = answer_bytes r.answer ++ drop answer_size answer;
    }

-- one of the two slices, of these lengths, is too short
abbrev pub too_short : ℕ → ℕ → Bool
too_short sheet answer = ltb sheet sheet_size || ltb answer answer_size

unfoldable pub sheet_reply : Repaired → List ℕ → List ℕ → SheetReply
sheet_reply r sheet answer =
    cond (too_short (length sheet) (length answer)) (record { code = 255; sheet = sheet; answer = answer }) (handed r sheet answer)
