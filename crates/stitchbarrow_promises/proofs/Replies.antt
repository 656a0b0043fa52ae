-- Laws of the reply of a load or a repair: what is left where a slice is too short and where neither is, after a refusal, and for the next call.
use Prim.Native.Nat.{ℕ, ◌≤◌}
use mathlib.Core.Path.{◌≡◌, refl}
use mathlib.Core.Bool.{Bool, true, false, ◌||◌, cond}
use mathlib.Core.List.{List, ◌++◌}
use mathlib.Core.Logic.{◌≢◌}
use native.Mathlib.Omega.{arith}
use borrow.Author.Tests.{ltb-false, le-ltb, ne_eqb}
use lib.Dec.{ltb}
use lib.ListN.{length, drop, length-append, length-drop}
use lib.Seq.{drop_at}
use Rattle.answer.specs.Table.{number_of}
use Rattle.answer.specs.Result.{Answer}
use Rattle.record.specs.Number.{Bytes}
use Rattle.verdict.specs.Verdict.{answer_bytes}
use Rattle.sheet.specs.Load.{summed}
use Rattle.sheet.specs.declared.Sheet.{Sheet}
use Rattle.sheet.specs.declared.Repaired.{Repaired}
use Rattle.sheet.proofs.Sheets.{Stood}
use Rattle.stitchbarrow.specs.Sheets.{sheet_size, sheet_at, sheet_bytes}
use Rattle.stitchbarrow.specs.Reply.{answer_size, SheetReply, handed, too_short, sheet_reply}
use Rattle.stitchbarrow_promises.proofs.Sheets.{sheet_back, sheet_long, lent_back}

-- what is left, by whether a slice is too short
leaves : (r : Repaired) (sheet answer : List ℕ) (P : SheetReply → Type 0)
    → (too_short (length sheet) (length answer) ≡ true → P (record { code = 255; sheet = sheet; answer = answer }))
    → ((sheet_size ≤ length sheet) × (answer_size ≤ length answer) → P (handed r sheet answer))
    → P (sheet_reply r sheet answer)
unfolding sheet_reply
leaves r sheet answer P short long = go (ltb (length sheet) sheet_size) (ltb (length answer) answer_size) refl refl
  where
    go : (a b : Bool) → ltb (length sheet) sheet_size ≡ a → ltb (length answer) answer_size ≡ b
        → P (cond (a || b) (record { code = 255; sheet = sheet; answer = answer }) (handed r sheet answer))
    go true b e f = short (rw e)
    go false true e f = short (rw (e, f))
    go false false e f = long (ltb-false (length sheet) sheet_size e, ltb-false (length answer) answer_size f)

not_summed : (a : Answer) → number_of a ≢ 0 → number_of a ≢ 5 → summed a ≡ false
unfolding summed
not_summed a m n = rw (ne_eqb (number_of a) 0 m, ne_eqb (number_of a) 5 n)

-- where an answer other than 0 and 5 leaves the sheet, it leaves its bytes
pub refused_kept : (r : Repaired) (sheet answer : List ℕ) → Bytes sheet → (summed r.answer ≡ false → r.sheet ≡ sheet_at sheet)
    → (sheet_reply r sheet answer).code ≢ 0 → (sheet_reply r sheet answer).code ≢ 5 → (sheet_reply r sheet answer).sheet ≡ sheet
unfolding handed
refused_kept r sheet answer b keeps =
    leaves r sheet answer (λ x. x.code ≢ 0 → x.code ≢ 5 → x.sheet ≡ sheet)
    (λ e m n. refl)
    (λ l m n. rw (keeps (not_summed r.answer m n)) (lent_back sheet b l.0))

-- what stood in the first bytes does not matter, once they are read
over : (r : Repaired) (p q sheet answer : List ℕ) → length p ≡ sheet_size → length q ≡ answer_size → sheet_size ≤ length sheet → answer_size ≤ length answer
    → sheet_reply r (p ++ drop sheet_size sheet) (q ++ drop answer_size answer) ≡ sheet_reply r sheet answer
unfolding sheet_reply handed
over r p q sheet answer lp lq ls la =
    let s : length (p ++ drop sheet_size sheet) ≡ length sheet = omega (arith, length-append p (drop sheet_size sheet), length-drop sheet_size sheet) in
    let a : length (q ++ drop answer_size answer) ≡ length answer = omega (arith, length-append q (drop answer_size answer), length-drop answer_size answer) in
    rw (s, a, le-ltb (length sheet) sheet_size ls, le-ltb (length answer) answer_size la, drop_at p (drop sheet_size sheet) sheet_size lp, drop_at q (drop answer_size answer) answer_size lq)

-- where a slice is too short, it does not matter what was made
short-same : (r u : Repaired) (sheet answer : List ℕ) → too_short (length sheet) (length answer) ≡ true → sheet_reply r sheet answer ≡ sheet_reply u sheet answer
unfolding sheet_reply
short-same r u sheet answer e = rw e

answer_long : (a : Answer) → length (answer_bytes a) ≡ answer_size
unfolding answer_bytes
answer_long a = refl

-- a call on what the call before it left, where that wrote a sheet that stands
module _ (r : Repaired) (f : Sheet → Repaired) (sheet answer : List ℕ) (o : Stood r.sheet) where
  again : (sheet_size ≤ length sheet) × (answer_size ≤ length answer)
      → sheet_reply (f (sheet_at (handed r sheet answer).sheet)) (handed r sheet answer).sheet (handed r sheet answer).answer ≡ sheet_reply (f r.sheet) sheet answer
  unfolding handed
  again l =
      rw (sheet_back r.sheet o (drop sheet_size sheet))
      (over (f r.sheet) (sheet_bytes r.sheet) (answer_bytes r.answer) sheet answer (sheet_long r.sheet o) (answer_long r.answer) l.0 l.1)

  pub next-call : sheet_reply (f (sheet_at (sheet_reply r sheet answer).sheet)) (sheet_reply r sheet answer).sheet (sheet_reply r sheet answer).answer
      ≡ sheet_reply (f r.sheet) sheet answer
  next-call =
      leaves r sheet answer (λ x. sheet_reply (f (sheet_at x.sheet)) x.sheet x.answer ≡ sheet_reply (f r.sheet) sheet answer)
      (λ e. short-same (f (sheet_at sheet)) (f r.sheet) sheet answer e)
      again
