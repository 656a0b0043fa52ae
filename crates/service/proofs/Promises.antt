-- What is promised of the program. `came` is all that reads gave, joined, and `wrote` all that was handed to writes after the heading:
-- specs/Run.antt says so turn by turn, of what stands in the buffers. That a read gives what is in the input and a write takes what it is handed is the system's.
-- Of a reader and a writer that say which bytes they have, the last theorem here, which is `run_from`'s contract, says that too.
use Prim.Native.Nat.{ℕ, ◌+◌, ◌-◌, ◌^◌, ◌<◌}
use mathlib.Core.Path.{◌≡◌, refl, sym, ap, subst, ◌∙◌}
use mathlib.Core.Bool.{true, false}
use mathlib.Core.List.{List, [], ◌++◌, append-nil}
use native.Mathlib.Omega.{arith}
use lib.ListN.{length, take, length-append}
use Rattle.std.specs.Prelude.{Option, None, Some, Ok}
use Rattle.std.specs.Io.KnownBytes.{Appends}
use Rattle.std.proofs.KnownBytes.{Appends-trans}
use Rattle.record.specs.declared.Head.{Head}
use Rattle.record.specs.declared.NoRecord.{NoRecord}
use Rattle.record.specs.declared.NoRecord.TheVariants.{End, Short, TooLong, CutShort}
use Rattle.std.specs.Prelude.{Result, Ok, Err}
use Rattle.batch.specs.Walk.{end_of}
use Rattle.batch.specs.declared.Stop.{Stop}
use Rattle.batch.specs.declared.Stop.TheVariants.{Finished, Budget, Room, Cut, Offset, Long}
use Rattle.record.specs.Records.{records_of}
use Rattle.batch.specs.Verdicts.{verdicts_of}
use Rattle.batch_promises.specs.GoingOn.{Sum, all_of, pauses}
use Rattle.report.specs.Text.{heading, verdict_lines}
use Rattle.turn_promises.specs.Stream.{Stream, started, called, feed, input}
use Rattle.turn_promises.specs.Output.{last_of, output_of}
use Rattle.turn_promises.proofs.Promises.{all_done, same_output, at_long}
use Rattle.turn_promises.proofs.Cutting.{Fed, fed_start, fed}
use Rattle.service.specs.declared.run.Run.{Run}
use Rattle.service.specs.Run.{reads_on, wrote_in, Reached, Called, First, Served, Passed, Closing, Answered, last_row}
use Rattle.service.proofs.Laws.{turns-led, turns_from}

module _ (came wrote : List ℕ) (s : Run) (k : Called came wrote s) (h : s.start + length came < 2 ^ 64) where
  abbrev run : Stream
  run = called k.last (feed k.events (started s.start))

  below : s.start + length (input k.events) < 2 ^ 64
  below = rw k.all h

  ends : pauses run.done.stop ≡ false
  ends = ap pauses k.is.stop ∙ k.ends

  same : run.done ≡ all_of came s.start
  same = all_done k.events k.last s.start below ends ∙ ap (λ (b : List ℕ). all_of b s.start) k.all

  -- the stop and the totals of the last line are those of one call over all the bytes that came
  pub last-numbers : (s.stop ≡ (all_of came s.start).stop) × (s.judged ≡ (all_of came s.start).judged) × (s.offset ≡ s.start + (all_of came s.start).read)
  last-numbers =
      (sym k.is.stop ∙ ap (λ (x : Sum). x.stop) same, sym k.is.judged ∙ ap (λ (x : Sum). x.judged) same, omega (arith, k.is.read, ap (λ (x : Sum). x.read) same))

  the_read : run.done.read ≡ s.offset - s.start
  the_read = omega (arith, k.is.read)

  -- the heading, all that was written after it and the last line are the whole output that SCOPE asks for the bytes that came
  pub whole_output : heading ++ (wrote ++ last_row s) ≡ output_of came s.start
  whole_output =
      rw (sym k.is.text, sym k.is.stop, sym k.is.judged, sym the_read)
      (same_output k.events k.last s.start below ends ∙ ap (λ (b : List ℕ). output_of b s.start) k.all)

  -- after stop 35 that is so whatever bytes would have followed
  pub whatever_follows : s.stop ≡ Long → (rest : List ℕ) → heading ++ (wrote ++ last_row s) ≡ output_of (came ++ rest) s.start
  unfolding output_of
  whatever_follows e rest =
      whole_output ∙ ap (λ (x : Sum). heading ++ (verdict_lines x.judged x.bytes ++ last_of x))
      (sym same ∙ at_long k.events k.last s.start below (k.is.stop ∙ e) rest ∙ ap (λ (b : List ℕ). all_of (b ++ rest) s.start) k.all)

-- at every moment, also where the program is ended from outside or fails: what was handed to writes are the lines of the first records of what came
module _ (came wrote : List ℕ) (s : Run) (k : Reached came wrote s) (h : s.start + length came < 2 ^ 64) where
  abbrev now : Stream
  now = feed k.events (started s.start)

  here : Fed s.start came now
  here =
      subst (λ (b : List ℕ). Fed s.start b now) k.all
      (fed s.start k.events [] (started s.start) (rw k.all h) (fed_start s.start))

  pub so_far : wrote ≡ verdict_lines s.judged (verdicts_of (take s.judged (records_of came s.start)))
  so_far =
      sym k.is.text ∙ here.lines ∙ ap (verdict_lines now.done.judged) here.part.bytes
      ∙ ap (λ (j : ℕ). verdict_lines j (verdicts_of (take j (records_of came s.start)))) k.is.judged

-- the program writes the heading, then turns follow each other from the start on, then it writes the last line, which stands in the text:
-- where the turns ended with it, all that is what SCOPE asks for the bytes that came
pub program_writes : (start : ℕ) (s r l : Run) (u : Unit {0}) → First start s → (v : Served s r (Ok u)) → Closing r l
    → start + length v.came < 2 ^ 64 → heading ++ (v.wrote ++ wrote_in l) ≡ output_of v.came start
program_writes start s r l u f v c h =
    let from : r.start ≡ start = turns_from v.turns ∙ f.start in
    ap (λ (t : List ℕ). heading ++ (v.wrote ++ t)) c
    ∙ whole_output v.came v.wrote r ((turns-led f v.turns).ended refl) (rw from h)
    ∙ ap (output_of v.came) from

pauses_not : true ≡ false → ⊥
pauses_not e = let z : ◌≡◌ {A = ℕ} 0 1 = cc in absurd (omega arith)

-- no batch ends with stop 34 by what stands in it
not_offset : (h : Result Head NoRecord) → end_of h ≡ Offset → ⊥
not_offset (Err End) e = let z : ◌≡◌ {A = ℕ} 0 1 = cc in absurd (omega arith)
not_offset (Err Short) e = let z : ◌≡◌ {A = ℕ} 0 1 = cc in absurd (omega arith)
not_offset (Err TooLong) e = let z : ◌≡◌ {A = ℕ} 0 1 = cc in absurd (omega arith)
not_offset (Err CutShort) e = let z : ◌≡◌ {A = ℕ} 0 1 = cc in absurd (omega arith)
not_offset (Ok a) e = let z : ◌≡◌ {A = ℕ} 0 1 = cc in absurd (omega arith)

-- what was written after the heading and the last line are all that SCOPE asks for the bytes that came and those that are left: none are
-- left, or the run was ended by a length above the limit, after which nothing is read
module _ (came wrote : List ℕ) (s : Run) (k : Called came wrote s) (rest : List ℕ) (h : s.start + length (came ++ rest) < 2 ^ 64)
    (r : reads_on s.stop ≡ true → rest ≡ []) where
  came_below : s.start + length came < 2 ^ 64
  came_below = omega (arith, h, length-append came rest)

  all_read : reads_on s.stop ≡ true → heading ++ (wrote ++ last_row s) ≡ output_of (came ++ rest) s.start
  all_read w =
      rw (r w, append-nil)
      (whole_output came wrote s k came_below)

  by_stop : (x : Stop) → s.stop ≡ x → heading ++ (wrote ++ last_row s) ≡ output_of (came ++ rest) s.start
  by_stop Finished e = all_read (ap reads_on e)
  by_stop Budget e = absurd (pauses_not (sym (ap pauses e) ∙ k.ends))
  by_stop Room e = absurd (pauses_not (sym (ap pauses e) ∙ k.ends))
  by_stop Cut e = all_read (ap reads_on e)
  by_stop Offset e = absurd (not_offset _ (sym (last-numbers came wrote s k came_below).0 ∙ e))
  by_stop Long e = whatever_follows came wrote s k came_below e rest

  pub with_rest : heading ++ (wrote ++ last_row s) ≡ output_of (came ++ rest) s.start
  with_rest = by_stop s.stop refl

-- so where all was written, and it is known which bytes the reader had and which the writer holds, the writer gained what SCOPE asks for them
pub answered : (start : ℕ) (left₀ left held₀ held₁ held₂ held₃ : Option (List ℕ)) (head : List ℕ) (s r l : Run) (u : Unit {0})
    → head ≡ heading → Appends held₀ held₁ head → First start s → Passed s left₀ left held₁ held₂ r (Ok u) → Closing r l
    → Appends held₂ held₃ (wrote_in l) → Answered left₀ start held₀ held₃
answered start None left held₀ held₁ held₂ held₃ head s r l u e a f p c b = tt
answered start (Some bytes) None held₀ held₁ held₂ held₃ head s r l u e a f p c b = absurd p.taken
answered start (Some bytes) (Some rest) held₀ held₁ held₂ held₃ head s r l u e a f p c b = λ h.
    let q : Called p.came p.wrote r = (turns-led f p.turns).ended refl in
    let i : r.start ≡ start = turns_from p.turns ∙ f.start in
    let g : bytes ≡ p.came ++ rest = p.taken in
    let w : heading ++ (p.wrote ++ last_row r) ≡ output_of (p.came ++ rest) r.start = with_rest p.came p.wrote r q rest (rw (i, ← g) h) p.end in
    let v : Appends held₀ held₃ (head ++ (p.wrote ++ wrote_in l)) =
    Appends-trans held₀ held₁ held₃ head (p.wrote ++ wrote_in l) a
    (Appends-trans held₁ held₂ held₃ p.wrote (wrote_in l) p.given b) in
    let z : head ++ (p.wrote ++ wrote_in l) ≡ output_of bytes start = rw (e, c, g, ← i) w in
    rw z at v
