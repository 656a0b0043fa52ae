-- What is promised of the program's run: bytes come in and calls are made in any order, with any budgets and outputs; where the last call does not pause, all is as one call over the whole input gives it.
-- And of the text: it is a row for each record, of its offset, its kind and the three numbers of its field's answer.
use Prim.Native.Nat.{ℕ, ◌+◌, ◌^◌, ◌≤◌, ◌<◌}
use mathlib.Core.Path.{◌≡◌, sym, ap, ◌∙◌}
use mathlib.Core.Bool.{false}
use mathlib.Core.List.{List, ◌++◌}
use native.Mathlib.Omega.{arith}
use lib.ListN.{length, take}
use lib.Seq.{take-length}
use Rattle.record.specs.Number.{Bytes}
use Rattle.record.specs.Records.{records_of}
use Rattle.record.proofs.Records.{walks}
use Rattle.batch.specs.Verdicts.{verdicts_of}
use Rattle.batch.specs.Walk.{call_of}
use Rattle.batch.specs.declared.Stop.TheVariants.{Long}
use Rattle.batch.proofs.Verdicts.{length-verdicts_of}
use Rattle.batch_promises.specs.GoingOn.{Sum, sum_of, pauses, all_of, Call}
use Rattle.batch_promises.proofs.GoingOn.{did_call, did_all, all_in_one}
use Rattle.batch_promises.proofs.Ends.{long_all}
use Rattle.report.specs.Text.{verdict_lines, heading}
use Rattle.turn.specs.Turn.{call_lines}
use Rattle.turn_promises.specs.Stream.{Event, Stream, started, called, feed, input}
use Rattle.turn_promises.specs.Output.{last_of, output_of}
use Rattle.turn_promises.specs.Rows.{record_lines}
use Rattle.turn_promises.proofs.Cutting.{ended}
use Rattle.turn_promises.proofs.Rows.{text_rows}

module _ (batch : List ℕ) (offset : ℕ) (b : Bytes batch) (h : offset + length batch < 2 ^ 64) where
  -- the lines of a call are the rows of the records that it judged
  pub call_rows : (out : List ℕ) (budget : ℕ)
      → let r = call_of batch offset out budget in
      call_lines r ≡ record_lines (take r.judged (records_of batch offset))
  call_rows out budget =
      let r = call_of batch offset out budget in
      let d = (did_call batch offset out budget h).part in
      ap (verdict_lines r.judged) d.bytes ∙ text_rows (walks batch offset) b h r.judged d.most

  -- and those of all the records
  pub all_rows : verdict_lines (length (records_of batch offset)) (verdicts_of (records_of batch offset)) ≡ record_lines (records_of batch offset)
  all_rows =
      let es = records_of batch offset in
      rw take-length at (text_rows (walks batch offset) b h (length es) (omega arith))

  -- so these stand between the heading and the last line
  pub output_rows : output_of batch offset ≡ heading ++ (record_lines (records_of batch offset) ++ last_of (all_of batch offset))
  unfolding output_of
  output_rows = ap (λ (t : List ℕ). heading ++ (t ++ last_of (all_of batch offset))) all_rows

module _ (es : List Event) (c : Call) (offset : ℕ) (h : offset + length (input es) < 2 ^ 64) where
  abbrev run : Stream
  run = called c (feed es (started offset))

  module _ (p : pauses run.done.stop ≡ false) where
    -- the last stop, the totals and the verdicts are those of all the input's records
    pub all_done : run.done ≡ all_of (input es) offset
    all_done = did_all (input es) offset run.done (ended es c offset h).1 p

    -- the lines too
    pub all_lines : run.text ≡ verdict_lines (length (records_of (input es) offset)) (verdicts_of (records_of (input es) offset))
    all_lines = (ended es c offset h).0.lines ∙ ap (λ (s : Sum). verdict_lines s.judged s.bytes) all_done

    -- and so is all that is written, with the heading before and the last line after them
    pub same_output : heading ++ (run.text ++ last_of run.done) ≡ output_of (input es) offset
    unfolding output_of
    same_output =
        let es = records_of (input es) offset in
        ap (λ (t : List ℕ). heading ++ (t ++ last_of run.done)) all_lines
        ∙ ap (λ (s : Sum). heading ++ (verdict_lines (length es) (verdicts_of es) ++ last_of s)) all_done

    module _ (budget : ℕ) (out : List ℕ) (left : run.done.judged < budget) (room : length run.done.bytes ≤ length out) where
      -- so one call over the whole input, with room and budget for it, gives the same in sum
      pub same_sum : sum_of (call_of (input es) offset out budget) ≡ run.done
      same_sum =
          let l = length-verdicts_of (records_of (input es) offset) in
          all_in_one (input es) offset out budget h (omega (arith, left, ap (λ (s : Sum). s.judged) all_done))
          (omega (arith, room, l, ap (λ (s : Sum). length s.bytes) all_done))
          ∙ sym all_done

      -- and the same lines
      pub same_text : call_lines (call_of (input es) offset out budget) ≡ run.text
      same_text = ap (λ (s : Sum). verdict_lines s.judged s.bytes) same_sum ∙ sym (ended es c offset h).0.lines

  -- where the last stop is 35 that holds for any bytes that may follow, so the rest of the input need not be read
  pub at_long : run.done.stop ≡ Long → (rest : List ℕ) → run.done ≡ all_of (input es ++ rest) offset
  at_long e rest = sym (long_all (input es) offset run.done (ended es c offset h).1 e rest)
