-- Laws of the lines: one line more, lines of verdicts and then of others, the longest line, how many have room, and the loop that writes them.
use Prim.Native.Nat.{ℕ, zero, suc, ◌+◌, ◌-◌, ◌*◌, ◌/◌, ◌≤◌, ◌<◌}
use mathlib.Core.Path.{◌≡◌, refl, sym, ap, ◌∙◌}
use mathlib.Core.Bool.{Bool, true, false, cond}
use mathlib.Core.List.{List, [], ◌∷◌, ◌++◌, append_assoc, append-nil}
use native.Mathlib.Nat.{zero-add, sub-zero}
use native.Mathlib.Numerals.{add-one}
use native.Mathlib.Omega.{arith}
use borrow.Author.Tests.{lt-ltb, le-ltb}
use borrow.Rule.Slice.PartMut.{put_mid}
use lib.Dec.{ltb}
use lib.ListN.{length, take, drop, length-append, length-drop}
use lib.Seq.{take_at, drop_at, drop-append-le, drop-drop}
use Rattle.std.proofs.lemmas.List.{nil_from_length}
use Rattle.record.specs.Number.{Bytes}
use Rattle.record.proofs.Numbers.{bytes_drop}
use Rattle.verdict.specs.Verdict.{verdict_size, read_verdict}
use Rattle.verdict.specs.declared.Verdict.{Verdict}
use Rattle.verdict.proofs.Verdicts.{read-front, read-most}
use Rattle.report.specs.declared.Rendered.{Rendered}
use Rattle.report.specs.Text.{
  numbers,
  field,
  numbers_line,
  verdict_line,
  verdict_lines,
  last_line,
  at_start,
  line_most,
  last_most,
  fitting,
  Rendering,
  rendering,
  rendered,
  rendering_of,
  Placed,
  placed,
  ended,
}
use Rattle.report.specs.Inner.{Put}
use Rattle.report.proofs.Digits.{most}
use Rattle.report.proofs.Puts.{length-field, length-put, rest_of, next-room, next}

pub text_snoc : (k : ℕ) (v : List ℕ) → verdict_lines (suc k) v ≡ verdict_lines k v ++ verdict_line (drop (verdict_size * k) v)
unfolding verdict_lines
text_snoc zero v = append-nil (verdict_line v)
text_snoc (suc k) v =
    let e : verdict_size + verdict_size * k ≡ verdict_size * suc k = omega arith in
    ap (λ (l : List ℕ). verdict_line v ++ l) (text_snoc k (drop verdict_size v)) ∙ simp (append_assoc, drop-drop, e)

-- a line needs its verdict only
pub line_front : (v w : List ℕ) → verdict_size ≤ length v → verdict_line (v ++ w) ≡ verdict_line v
unfolding verdict_line
line_front v w h = rw (read-front v w h)

-- the lines of verdicts and then of others
pub text-append : (j k : ℕ) (v w : List ℕ) → length v ≡ verdict_size * j → verdict_lines (j + k) (v ++ w) ≡ verdict_lines j v ++ verdict_lines k w
unfolding verdict_lines
text-append zero k v w h = rw (zero-add, nil_from_length v (omega arith))
text-append (suc j) k v w h =
    let e : suc j + k ≡ suc (j + k) = omega arith in
    rw (
      e,
      line_front v w (omega arith),
      drop-append-le verdict_size v w (omega arith),
      text-append j k (drop verdict_size v) w (omega (arith, length-drop verdict_size v)),
    )
    (simp append_assoc)

length-row : (a b c d e : ℕ)
    → length (numbers_line (a ∷ b ∷ c ∷ d ∷ e ∷ []))
    ≡ length (field a 32) + (length (field b 32) + (length (field c 32) + (length (field d 32) + length (field e 10))))
unfolding numbers_line
length-row a b c d e = simp length-append

pub line_most_lem : (v : List ℕ) → Bytes v → length (verdict_line v) ≤ line_most
unfolding verdict_line
line_most_lem v b =
    let d = read_verdict v in
    let m = read-most v b in
    omega (
      arith,
      length-row d.offset d.kind d.answer d.place d.number,
      length-field d.offset 32,
      length-field d.kind 32,
      length-field d.answer 32,
      length-field d.place 32,
      length-field d.number 10,
      most 19 d.offset (omega (arith, m.offset)),
      most 4 d.kind (omega (arith, m.kind)),
      most 2 d.answer (omega (arith, m.answer)),
      most 4 d.place (omega (arith, m.place)),
      most 19 d.number (omega (arith, m.number)),
    )

-- how many lines have room
pub fit_none : (n room : ℕ) (v : List ℕ) → room < line_most → fitting n room v ≡ 0
unfolding fitting
fit_none zero room v h = refl
fit_none (suc n) room v h = rw (lt-ltb room line_most h)

pub fit_on : (n room : ℕ) (v : List ℕ) → line_most ≤ room
    → fitting (suc n) room v ≡ suc (fitting n (room - length (verdict_line v)) (drop verdict_size v))
unfolding fitting
fit_on n room v h = rw (le-ltb room line_most h)

-- where there is room for the longest lines, all are written
pub fit_all : (n room : ℕ) (v : List ℕ) → Bytes v → line_most * n ≤ room → fitting n room v ≡ n
unfolding fitting
fit_all zero room v b h = refl
fit_all (suc n) room v b h =
    fit_on n room v (omega arith)
    ∙ ap suc (fit_all n (room - length (verdict_line v)) (drop verdict_size v) (bytes_drop v verdict_size b) (omega (arith, line_most_lem v b)))

pub rendered-all : (j : ℕ) (v out : List ℕ) → Bytes v → length v ≡ verdict_size * j → line_most * j ≤ length out → rendered v out ≡ rendering j v out
unfolding rendered
rendered-all j v out b h f =
    let e : length v / verdict_size ≡ j = omega arith in
    rw (e, fit_all j (length out) v b f)

-- a text at the start of a buffer stands at its front, and inside it where the buffer has kept its length
start-front : (t out : List ℕ) → take (length t) (at_start t out) ≡ t
start-front t out = take_at t (drop (length t) out) (length t) refl

start-inside : (t out₀ out : List ℕ) → out ≡ at_start t out₀ → length out ≡ length out₀ → length t ≤ length out
start-inside t out₀ out e h =
    omega (arith, ap length e, length-append t (drop (length t) out₀), length-drop (length t) out₀)

-- what a call of `lines` has left, from its contract
module _ (r : Rendered) (v out₀ out : List ℕ) (is : rendering_of r out ≡ rendered v out₀) where
  abbrev lines_text : List ℕ
  lines_text = verdict_lines (fitting (length v / verdict_size) (length out₀) v) v

  pub lines_front : take r.written out ≡ verdict_lines r.verdicts v
  unfolding rendered
  lines_front =
      rw (ap (λ (x : Rendering). x.verdicts) is, ap (λ (x : Rendering). x.written) is, ap (λ (x : Rendering). x.out) is)
      (start-front lines_text out₀)

  pub lines_inside : length out ≡ length out₀ → r.written ≤ length out
  unfolding rendered
  lines_inside h =
      rw (ap (λ (x : Rendering). x.written) is) (start-inside lines_text out₀ out (ap (λ (x : Rendering). x.out) is) h)

-- and a call of `last_line`
module _ (r stop judged read : ℕ) (out₀ out : List ℕ) (is : placed r out ≡ ended out₀ stop judged read) where
  pub last-front : last_most ≤ length out₀ → take r out ≡ last_line stop judged read
  unfolding ended
  last-front h =
      let e : placed r out ≡ placed (length (last_line stop judged read)) (at_start (last_line stop judged read) out₀) =
      rw (le-ltb (length out₀) last_most h) at is in
      rw (ap (λ (x : Placed). x.written) e, ap (λ (x : Placed). x.out) e) (start-front (last_line stop judged read) out₀)

  pub last-inside : length out ≡ length out₀ → r ≤ length out
  unfolding ended
  last-inside h = go (ltb (length out₀) last_most) is
    where
      go : (b : Bool)
          → placed r out
          ≡ cond b (placed 0 out₀) (placed (length (last_line stop judged read)) (at_start (last_line stop judged read) out₀)) → r ≤ length out
      go true e = omega (arith, ap (λ (x : Placed). x.written) e)
      go false e =
          rw (ap (λ (x : Placed). x.written) e)
          (start-inside (last_line stop judged read) out₀ out (ap (λ (x : Placed). x.out) e) h)

-- the loop of `lines`: the first k lines are written, and of the verdicts that are left as many more will be as have room after them
pub record Lining (v out₀ out : List ℕ) (k at : ℕ) (left : List ℕ) : Type 0 where
  pub is : left ≡ drop (verdict_size * k) v
  pub within : verdict_size * k ≤ length v
  pub room : at ≤ length out₀
  pub wrote : Put (verdict_lines k v) out₀ out at
  pub rest : fitting (length v / verdict_size) (length out₀) v
      ≡ k + fitting (length v / verdict_size - k) (length out₀ - at) left

pub start_lines : (v out : List ℕ) → Lining v out out 0 0 v
unfolding verdict_lines
start_lines v out =
    record {
      is = refl;
      within = omega arith;
      room = omega arith;
      wrote = record { end = refl; is = refl };
      rest = simp (sub-zero, zero-add);
    }

module _ (v out₀ out left : List ℕ) (k at : ℕ) (g : Lining v out₀ out k at left) where
  end_lines : fitting (length v / verdict_size - k) (length out₀ - at) left ≡ 0
      → rendering_of (record { verdicts = k; written = at }) out ≡ rendered v out₀
  unfolding rendered
  end_lines z =
      let e : fitting (length v / verdict_size) (length out₀) v ≡ k = omega (arith, g.rest) in
      rw (e, g.wrote.end, g.wrote.is)

  left_length : length left ≡ length v - verdict_size * k
  left_length = ap length g.is ∙ length-drop (verdict_size * k) v

  pub same_length : length out ≡ length out₀
  same_length = length-put (omega (arith, g.wrote.end, g.room)) g.wrote

  -- no whole verdict is left
  pub no_more : length left < verdict_size → rendering_of (record { verdicts = k; written = at }) out ≡ rendered v out₀
  unfolding fitting
  no_more h =
      let e : length v / verdict_size - k ≡ 0 = omega (arith, left_length) in
      end_lines (rw e)

  -- there is no room for a line
  pub no_room : length out - at < line_most → rendering_of (record { verdicts = k; written = at }) out ≡ rendered v out₀
  no_room h = end_lines (fit_none _ _ left (omega (arith, same_length)))

  -- the next verdict has a line, and there is room for it
  module _ (bytes : Bytes v) (x next_left : List ℕ) (cut : left ≡ x ++ next_left) (len : length x ≡ verdict_size) (d : Verdict)
      (says : d ≡ read_verdict x) (free : line_most ≤ length out - at) where
    row : List ℕ
    row = numbers_line (numbers d)

    row_line : row ≡ verdict_line left
    unfolding row verdict_line
    row_line = rw (says, cut, line_front x next_left (omega (arith, len)))

    fits : length (verdict_lines k v ++ row) ≤ length out₀
    fits =
        omega (
          arith,
          length-append (verdict_lines k v) row,
          ap length row_line,
          rw (← g.is) at (line_most_lem (drop (verdict_size * k) v) (bytes_drop v (verdict_size * k) bytes)),
          g.wrote.end,
          same_length,
        )

    pub line-requires : length (numbers_line (numbers d)) ≤ length (rest_of at out)
    unfolding row
    line-requires = next-room (verdict_lines k v) row fits g.wrote

    pub line_again : (last : List ℕ) (r : ℕ) → Put (numbers_line (numbers d)) (rest_of at out) last r
        → Lining v out₀ (put_mid at (length out - at) out last) (k + 1) (at + r) next_left
    unfolding row
    line_again last r p =
        let n = length v / verdict_size in
        let a : n - k ≡ suc (n - (k + 1)) = omega (arith, left_length, ap length cut, length-append x next_left) in
        let e : drop verdict_size left ≡ next_left = rw cut (drop_at x next_left verdict_size len) in
        let b : length out₀ - at - length (verdict_line left) ≡ length out₀ - (at + r) = omega (arith, ap length row_line, p.end) in
        let f = fit_on (n - (k + 1)) (length out₀ - at) left (omega (arith, same_length)) in
        record {
          is =
              sym e ∙ ap (λ (l : List ℕ). drop verdict_size l) g.is ∙ drop-drop verdict_size (verdict_size * k) v
              ∙ ap (λ (m : ℕ). drop m v) (omega arith);
          within = omega (arith, left_length, ap length cut, length-append x next_left);
          room = omega (arith, p.end, fits, length-append (verdict_lines k v) row, g.wrote.end);
          wrote = rw (add-one, text_snoc, ← g.is, ← row_line) (next (verdict_lines k v) row fits g.wrote p);
          rest = g.rest ∙ rw (a, f, b, e) (omega arith);
        }

-- where a line has room, and where none has
pub ruleset rooms = (line-requires, no_room)
