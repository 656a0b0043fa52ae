-- Laws of the program's state: one call on what is held, bytes read in, and what has led to a state.
use Prim.Native.Nat.{ℕ, zero, suc, ◌+◌, ◌-◌, ◌^◌, ◌≤◌, ◌<◌}
use mathlib.Core.Path.{◌≡◌, refl, sym, ap, subst, ◌∙◌}
use mathlib.Core.Bool.{Bool, true, false}
use mathlib.Core.List.{List, [], ◌∷◌, ◌++◌, append-nil, append_assoc}
use native.Mathlib.Nat.{sub-zero, zero-sub, suc-sub-suc, sub-add-eq}
use native.Mathlib.Omega.{arith}
use lib.ListN.{length, take, drop, length-append, length-drop}
use lib.Seq.{length-take-le, drop-drop, take-nil, drop-nil, take_at, take-add, take-append-le, drop_at}
use lib.Dec.{ltb}
use borrow.Author.Tests.{ltb-false}
use borrow.Rule.Slice.PartMut.{put_mid, take_put}
use Rattle.std.specs.Prelude.{Result, Ok}
use Rattle.verdict.specs.Verdict.{verdict_size}
use Rattle.batch.specs.Walk.{Outcome, call_of}
use Rattle.batch_promises.specs.GoingOn.{pauses, Call}
use Rattle.report.specs.Text.{at_start, line_most}
use Rattle.turn.specs.declared.Turned.{Turned}
use Rattle.turn.specs.Turn.{room_of, call_lines, Turning, turn_of, turning_of}
use Rattle.turn_promises.specs.Stream.{Event, more, call, Stream, started, called, next, feed, input}
use Rattle.batch_promises.proofs.Sizes.{Sized, sized, goes}
use Rattle.turn.proofs.Laws.{room-least, room_in}
use Rattle.service.specs.declared.run.Run.{Run}
use Rattle.service.specs.Run.{waiting, Is, Reached, Called, Ahead, Led, came_in, wrote_in, TurnAdds, First, Turns, begin, then, last_ahead, Served}
use Rattle.service.specs.declared.run.Failed.{Failed}
use Rattle.service.specs.Inner.{records, call_with, Judging, Shifted, passed, More}

pub held-length : (s : Run) → length (waiting s) ≡ s.end - s.at
held-length s = length-take-le (s.end - s.at) (drop s.at s.buf) (omega (arith, length-drop s.at s.buf, s.order, s.within))

drop-take : (m n : ℕ) (l : List ℕ) → drop m (take n l) ≡ take (n - m) (drop m l)
drop-take zero n l = rw sub-zero
drop-take (suc m) zero l = rw (zero-sub, drop-nil)
drop-take (suc m) (suc n) [] = rw (drop-nil, take-nil)
drop-take (suc m) (suc n) (x ∷ l) = rw suc-sub-suc (drop-take m n l)

-- what is held after n bytes more are judged
left_held : (buf : List ℕ) (at end n : ℕ) → take (end - (at + n)) (drop (at + n) buf) ≡ drop n (take (end - at) (drop at buf))
left_held buf at end n = sym (drop-take n (end - at) (drop at buf) ∙ rw (drop-drop, sub-add-eq))

-- one call on what is held, from what `turn` ensures
module _ (s : Run) (t : Turned) (out₁ text₁ : List ℕ) (q : turning_of t out₁ text₁ ≡ turn_of (waiting s) s.offset s.out s.text records) where
  abbrev c : Call
  c = call_with s.out s.text

  abbrev o : Outcome
  o = call_of (waiting s) s.offset c.out c.budget

  z : Sized (waiting s) s.offset c.out o
  z = sized (waiting s) s.offset c.out c.budget

  the_stop : t.stop ≡ o.stop
  unfolding turn_of
  the_stop = ap (λ (x : Turning). x.stop) q

  the_judged : t.judged ≡ o.judged
  unfolding turn_of
  the_judged = ap (λ (x : Turning). x.judged) q

  the_read : t.read ≡ o.read
  unfolding turn_of
  the_read = ap (λ (x : Turning). x.read) q

  the_written : t.text ≡ length (call_lines o)
  unfolding turn_of
  the_written = ap (λ (x : Turning). x.written) q

  the_text : text₁ ≡ at_start (call_lines o) s.text
  unfolding turn_of
  the_text = ap (λ (x : Turning). x.text) q

  pub read-inside : s.at + t.read ≤ s.end
  read-inside = omega (arith, the_read, z.inside, held-length s, s.order)

  pub read_fits : s.offset < 2 ^ 64 → s.offset + t.read < 2 ^ 64
  read_fits h = rw the_read (z.fits h)

  pub few : t.judged ≤ t.read
  few = omega (arith, the_judged, the_read, z.few)

  pub lines-inside : t.text ≤ length text₁
  lines-inside =
      omega (arith, the_written, ap length the_text, length-append (call_lines o) (drop (length (call_lines o)) s.text))

  the_lines : take t.text text₁ ≡ call_lines o
  the_lines = rw (the_text, the_written) (take_at (call_lines o) (drop (length (call_lines o)) s.text) (length (call_lines o)) refl)

  -- and the state after it
  module _ (r : Run) (b : r.buf ≡ s.buf) (x : r.text ≡ text₁) (a : r.at ≡ s.at + t.read) (e : r.end ≡ s.end) (i : r.start ≡ s.start)
      (f : r.offset ≡ s.offset + t.read) (j : r.judged ≡ s.judged + t.judged) (p : r.stop ≡ t.stop) (w : r.wrote ≡ t.text) (n : r.came ≡ 0) where
    is-called : (S : Stream) (wrote : List ℕ) → Is S wrote s → Is (called c S) (wrote ++ wrote_in r) r
    is-called S wrote i' =
        let h : call_of S.held S.offset c.out c.budget ≡ o = rw (i'.bytes, i'.offset) in
        record {
          bytes = rw (h, i'.bytes, a, e, b, the_read) (sym (left_held s.buf s.at s.end o.read));
          offset = rw (h, i'.offset, f, the_read);
          judged = rw (h, i'.judged, j, the_judged);
          read = rw h (omega (arith, i'.read, the_read, i, f));
          stop = rw (h, p, the_stop);
          text = rw (h, i'.text, w, x, the_lines);
        }

    pub judging : verdict_size ≤ length s.out → line_most ≤ length s.text → passed r < 2 ^ 66 → Judging s r
    judging v l y =
        let m = room_of (length s.out) (length s.text) in
        let k : length c.out ≡ m = length-take-le m s.out (room_in (length s.out) (length s.text) m refl) in
        let g = room-least (length s.out) (length s.text) v l in
        record {
          is = is-called;
          start = i;
          came = n;
          none = λ d. omega (arith, z.none (sym the_stop ∙ (sym p ∙ d)), the_read, held-length s, s.order, a, e);
          short = λ d. omega (arith, z.short (sym the_stop ∙ (sym p ∙ d)), the_read, held-length s, s.order, a, e);
          later = omega (arith, f);
          total = omega (arith, read-inside, f, a, e);
          grew = λ d. omega (arith, f, few, the_judged, goes (waiting s) s.offset c.out c.budget (omega arith) (rw k g) (ap pauses (sym the_stop ∙ sym p) ∙ d));
          fits = y;
        }

-- one event more: the run goes on by it, and its bytes came after the others
feed-more : (es : List Event) (e : Event) (S : Stream) → feed (es ++ (e ∷ [])) S ≡ next e (feed es S)
unfolding feed
feed-more [] e S = refl
feed-more (d ∷ es) e S = feed-more es e (next d S)

input-more : (es : List Event) (e : Event) → input (es ++ (e ∷ [])) ≡ input es ++ input (e ∷ [])
unfolding input
input-more [] e = refl
input-more (more b ∷ es) e = rw append_assoc (ap (λ (l : List ℕ). b ++ l) (input-more es e))
input-more (call c ∷ es) e = input-more es e

input-bytes : (es : List Event) (b : List ℕ) → input (es ++ (more b ∷ [])) ≡ input es ++ b
unfolding input
input-bytes es b = input-more es (more b) ∙ rw append-nil

input-call : (es : List Event) (c : Call) → input (es ++ (call c ∷ [])) ≡ input es
unfolding input
input-call es c = input-more es (call c) ∙ rw append-nil

called-reached : (came wrote : List ℕ) (r : Run) → Called came wrote r → Reached came wrote r
called-reached came wrote r k =
    record {
      events = k.events ++ (call k.last ∷ []);
      all = input-call k.events k.last ∙ k.all;
      is = rw (feed-more k.events (call k.last) (started r.start)) k.is;
    }

-- no two cases of what follows are equal
pub last_is_turn : {x : Ahead} → x ≡ Ok false → x ≡ Ok true → ⊥
last_is_turn e f = let z : ◌≡◌ {A = Ahead} (Ok false) (Ok true) = sym e ∙ f in let y : ◌≡◌ {A = ℕ} 0 1 = cc in absurd (omega arith)

-- the same state, with other bytes past those that are held, and with n bytes more after these
module _ (s r : Run) (n : ℕ) (a : r.at ≡ 0) (e : r.end ≡ s.end - s.at + n) (h : take (s.end - s.at) r.buf ≡ waiting s)
    (i : r.start ≡ s.start) (f : r.offset ≡ s.offset) (j : r.judged ≡ s.judged) (p : r.stop ≡ s.stop) (w : wrote_in r ≡ wrote_in s)
    (c : r.came ≡ n) where
  d : r.end - r.came ≡ s.end - s.at
  d = omega (arith, e, c)

  held_more : waiting s ++ came_in r ≡ waiting r
  held_more = rw (← h, d, c, a, e, sub-zero, take-add) refl

  is-more : (S : Stream) (wrote : List ℕ) → Is S wrote s → Is (next (more (came_in r)) S) wrote r
  is-more S wrote k =
      record {
        bytes = rw k.bytes held_more;
        offset = k.offset ∙ sym f;
        judged = k.judged ∙ sym j;
        read = omega (arith, k.read, f, i);
        stop = k.stop ∙ sym p;
        text = k.text;
      }

  reached-more : (came wrote : List ℕ) → Reached came wrote s → Reached (came ++ came_in r) wrote r
  reached-more came wrote k =
      record {
        events = k.events ++ (more (came_in r) ∷ []);
        all = input-bytes k.events (came_in r) ∙ ap (λ (l : List ℕ). l ++ came_in r) k.all;
        is = rw (feed-more k.events (more (came_in r)) (started r.start))
            (subst (λ (x : ℕ). Is (next (more (came_in r)) (feed k.events (started x))) wrote r) (sym i) (is-more (feed k.events (started s.start)) wrote k.is));
      }

  none_more : n ≡ 0 → came_in r ≡ []
  none_more y = rw (c, y)

  still : n ≡ 0 → waiting s ≡ waiting r
  still y = sym (append-nil (waiting s)) ∙ ap (λ (l : List ℕ). waiting s ++ l) (sym (none_more y)) ∙ held_more

  is-still : n ≡ 0 → (S : Stream) (wrote : List ℕ) → Is S wrote s → Is S wrote r
  is-still y S wrote k =
      record {
        bytes = k.bytes ∙ still y;
        offset = k.offset ∙ sym f;
        judged = k.judged ∙ sym j;
        read = omega (arith, k.read, f, i);
        stop = k.stop ∙ sym p;
        text = k.text;
      }

  called-still : n ≡ 0 → (came wrote : List ℕ) → Called came wrote s → Called (came ++ came_in r) wrote r
  called-still y came wrote k =
      record {
        events = k.events;
        last = k.last;
        all = k.all ∙ sym (append-nil came) ∙ ap (λ (l : List ℕ). came ++ l) (sym (none_more y));
        is =
            subst (λ (x : ℕ). Is (called k.last (feed k.events (started x))) wrote r) (sym i)
            (is-still y (called k.last (feed k.events (started s.start))) wrote k.is);
        ends = rw p k.ends;
      }

  pub has_more : (x : Ahead) → (x ≡ Ok false → n ≡ 0) → More s r x
  has_more x y =
      record {
        led =
            λ came wrote k.
            record { reached = reached-more came wrote (called-reached came wrote s k); ended = λ d. called-still (y d) came wrote k };
        start = i;
        told = w;
      }

-- bytes read in past those that are held
module _ (buf part : List ℕ) (end k : ℕ) (h : end ≤ length buf) where
  still_held : take end (put_mid end k buf part) ≡ take end buf
  still_held = take_put end k buf part h

  -- they are the first of the part
  pub came_is : (n : ℕ) → n ≤ length part → take n (drop (end + n - n) (put_mid end k buf part)) ≡ take n part
  came_is n m =
      let d : end + n - n ≡ end = omega arith in
      rw (d, drop_at (take end buf) _ end (length-take-le end buf h)) (take-append-le n part _ m)

-- what was held stands at the front still
pub front_held : (s t : Run) (part : List ℕ) (k : ℕ) → Shifted s t → take (s.end - s.at) (put_mid t.end k t.buf part) ≡ waiting s
front_held s t part k h =
    let w : take t.end t.buf ≡ waiting t = rw (h.at, sub-zero) refl in
    ap (λ (n : ℕ). take n (put_mid t.end k t.buf part)) (sym h.end) ∙ still_held t.buf part t.end k t.within ∙ w ∙ h.same

pub none_read : {E : Type 0} (n : ℕ) → ◌≡◌ {A = Result Bool E} (Ok (ltb 0 n)) (Ok false) → n ≡ 0
none_read n e = let b : ltb 0 n ≡ false = cc in omega (arith, ltb-false 0 n b)

-- a turn whose call leads from s to r
module _ (s r : Run) (j : Judging s r) where
  module _ (came wrote : List ℕ) (k : Reached came wrote s) where
    here : Is (called (call_with s.out s.text) (feed k.events (started r.start))) (wrote ++ wrote_in r) r
    here =
        subst (λ (x : ℕ). Is (called (call_with s.out s.text) (feed k.events (started x))) (wrote ++ wrote_in r) r) (sym j.start)
        (j.is (feed k.events (started s.start)) wrote k.is)

    judged-called : pauses r.stop ≡ false → Called came (wrote ++ wrote_in r) r
    judged-called p = record { events = k.events; last = call_with s.out s.text; all = k.all; is = here; ends = p }

    judged-reached : Reached came (wrote ++ wrote_in r) r
    judged-reached =
        record {
          events = k.events ++ (call (call_with s.out s.text) ∷ []);
          all = input-call k.events (call_with s.out s.text) ∙ k.all;
          is = rw (feed-more k.events (call (call_with s.out s.text)) (started r.start)) here;
        }

  no_byte : (came : List ℕ) → came ++ came_in r ≡ came
  no_byte came = rw (j.came, append-nil)

  -- it reads nothing
  pub turned_call : (x : Ahead) → (x ≡ Ok false → pauses r.stop ≡ false) → TurnAdds s r x
  turned_call x p =
      record {
        led =
            λ came wrote k.
            rw (no_byte came)
            (record { reached = judged-reached came wrote k; ended = λ e. judged-called came wrote k (p e) });
        start = j.start;
      }

  -- or reads on
  pub turned_more : (m : Run) (x : Ahead) → pauses r.stop ≡ false → More r m x → TurnAdds s m x
  turned_more m x p g =
      record {
        led = λ came wrote k. rw g.told (g.led came (wrote ++ wrote_in r) (judged-called came wrote k p));
        start = g.start ∙ j.start;
      }

-- the loop of turns
pub record Going (s r : Run) : Type 0 where
  pub came : List ℕ
  pub wrote : List ℕ
  pub turns : Turns s came wrote r (Ok true)

abbrev pub going_start : (s : Run) → Going s s
going_start s = record { came = []; wrote = []; turns = begin }

module _ (s r : Run) (t : Going s r) (m : Run) (x : Ahead) (a : TurnAdds r m x) where
  abbrev pub going_on : x ≡ Ok true → Going s m
  going_on e =
      record {
        came = t.came ++ came_in m;
        wrote = t.wrote ++ wrote_in m;
        turns = subst (λ (y : Ahead). Turns s (t.came ++ came_in m) (t.wrote ++ wrote_in m) m y) e (then m x t.turns a);
      }

  pub going_over : (y : Result (Unit {0}) Failed) → x ≡ last_ahead y → Served s m y
  going_over y e =
      record {
        came = t.came ++ came_in m;
        wrote = t.wrote ++ wrote_in m;
        turns = subst (λ (y : Ahead). Turns s (t.came ++ came_in m) (t.wrote ++ wrote_in m) m y) e (then m x t.turns a);
      }

-- turns lead from the start to where they are
led-start : (start : ℕ) (r : Run) → First start r → Led [] [] r (Ok true)
unfolding feed input
led-start start r f =
    record {
      reached =
          record {
            events = [];
            all = refl;
            is =
                record {
                  bytes = rw (f.at, f.end);
                  offset = f.start ∙ sym f.offset;
                  judged = sym f.judged;
                  read = omega (arith, f.start, f.offset);
                  stop = sym f.stop;
                  text = refl;
                };
          };
      ended = λ e. absurd (last_is_turn e refl);
    }

pub turns-led : {start : ℕ} {s : Run} {came wrote : List ℕ} {r : Run} {x : Ahead} → First start s → Turns s came wrote r x → Led came wrote r x
turns-led {start = start} {s = s} f begin = led-start start s f
turns-led f (then {came} {wrote} m x t g) = g.led came wrote (turns-led f t).reached

pub turns_from : {s : Run} {came wrote : List ℕ} {r : Run} {x : Ahead} → Turns s came wrote r x → r.start ≡ s.start
turns_from begin = refl
turns_from (then m x t g) = g.start ∙ turns_from t
