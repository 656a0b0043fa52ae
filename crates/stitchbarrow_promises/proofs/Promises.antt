-- What is promised of sheets that go through C as bytes.
use Prim.Native.Nat.{ℕ, ◌≤◌}
use mathlib.Core.Path.{◌≡◌, refl, ◌∙◌, ap}
use mathlib.Core.Bool.{true}
use mathlib.Core.List.{List, [], ◌∷◌, ◌++◌}
use mathlib.Core.Logic.{◌≢◌}
use lib.ListN.{length, drop}
use Rattle.iban.specs.Format.{padded}
use Rattle.record.specs.Number.{Bytes}
use Rattle.sheet.specs.Sheets.{empty_sheet}
use Rattle.sheet.specs.Load.{summed, load_of, standing}
use Rattle.repairs.specs.declared.Request.{Request}
use Rattle.repairs.specs.Repairs.{repair_of}
use Rattle.sheet_promises.specs.Calls.{calls_after}
use Rattle.sheet.specs.declared.Sheet.{Sheet}
use Rattle.sheet.specs.declared.Repaired.{Repaired}
use Rattle.sheet.proofs.Sheets.{stood}
use Rattle.sheet_promises.proofs.Promises.{load_keeps, repair_keeps, loaded_stands, repaired_stands}
use Rattle.stitchbarrow.specs.Sheets.{sheet_size, sheet_at, sheet_bytes}
use Rattle.stitchbarrow.specs.Reply.{sheet_reply}
use Rattle.stitchbarrow_promises.specs.Calls.{replies_after}
use Rattle.stitchbarrow_promises.proofs.Sheets.{sheet_back, lent_back}
use Rattle.stitchbarrow_promises.proofs.Replies.{refused_kept, next-call}

-- The sheet that any 46 bytes write has these bytes: what was not changed comes back as lent.
pub as_lent : (b : List ℕ) → Bytes b → sheet_size ≤ length b → sheet_bytes (sheet_at b) ++ drop sheet_size b ≡ b
as_lent = lent_back

-- A sheet that stands reads back from its bytes.
pub read_back : (s : Sheet) (more : List ℕ) → standing s ≡ true → sheet_at (sheet_bytes s ++ more) ≡ s
read_back s more e = sheet_back s (stood s e) more

-- The empty sheet is 46 zeros.
pub empty_is_zero : (more : List ℕ) → (sheet_bytes empty_sheet ≡ padded 46 []) × (sheet_at (padded 46 [] ++ more) ≡ empty_sheet)
unfolding sheet_bytes sheet_at empty_sheet padded
empty_is_zero more = (refl, refl)

-- Where a load or a repair returns other than 0 and 5, for whatever bytes were lent as a sheet, these bytes are as lent.
pub load_refused_stays : (kind : ℕ) (value sheet answer : List ℕ) → Bytes sheet
    → (sheet_reply (load_of kind value (sheet_at sheet)) sheet answer).code ≢ 0
    → (sheet_reply (load_of kind value (sheet_at sheet)) sheet answer).code ≢ 5
    → (sheet_reply (load_of kind value (sheet_at sheet)) sheet answer).sheet ≡ sheet
load_refused_stays kind value sheet answer b =
    refused_kept (load_of kind value (sheet_at sheet)) sheet answer b (load_keeps kind value (sheet_at sheet))

pub repair_refused_stays : (q : Request) (sheet answer : List ℕ) → Bytes sheet
    → (sheet_reply (repair_of (sheet_at sheet) q) sheet answer).code ≢ 0
    → (sheet_reply (repair_of (sheet_at sheet) q) sheet answer).code ≢ 5
    → (sheet_reply (repair_of (sheet_at sheet) q) sheet answer).sheet ≡ sheet
repair_refused_stays q sheet answer b =
    refused_kept (repair_of (sheet_at sheet) q) sheet answer b (repair_keeps (sheet_at sheet) q)

-- Any list of calls through C, each on the bytes that the one before it left, leaves what the list of calls by value gives: so the theorems
-- on lists of calls speak of calls through C as well.
pub calls_through : (r : Repaired) (qs : List Request) (sheet answer : List ℕ) → standing r.sheet ≡ true
    → replies_after (sheet_reply r sheet answer) qs ≡ sheet_reply (calls_after r qs) sheet answer
unfolding replies_after calls_after
calls_through r [] sheet answer e = refl
calls_through r (q ∷ qs) sheet answer e =
    ap (λ x. replies_after x qs) (next-call r (λ s. repair_of s q) sheet answer (stood r.sheet e))
    ∙ calls_through (repair_of r.sheet q) qs sheet answer (repaired_stands r.sheet q e)

pub calls_after_a_load : (kind : ℕ) (value : List ℕ) (qs : List Request) (sheet answer : List ℕ) → summed (load_of kind value (sheet_at sheet)).answer ≡ true
    → replies_after (sheet_reply (load_of kind value (sheet_at sheet)) sheet answer) qs ≡ sheet_reply (calls_after (load_of kind value (sheet_at sheet)) qs) sheet answer
calls_after_a_load kind value qs sheet answer e =
    calls_through (load_of kind value (sheet_at sheet)) qs sheet answer (loaded_stands kind value (sheet_at sheet) e)
