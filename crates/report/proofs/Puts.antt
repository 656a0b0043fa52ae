-- Laws of what is written at the start of a buffer: a number and its byte, a text in the rest after another, a row, a named number.
use Prim.Native.Nat.{ℕ, suc, ◌+◌, ◌-◌, ◌^◌, ◌≤◌, ◌<◌}
use mathlib.Core.Path.{◌≡◌, refl, sym, ap, ◌∙◌}
use mathlib.Core.List.{List, [], ◌∷◌, ◌++◌, append_assoc, append-nil}
use native.Mathlib.Numerals.{add-one}
use native.Mathlib.Omega.{arith}
use borrow.Author.Tests.{lt-ltb, le-ltb}
use borrow.Rule.Slice.PartMut.{put_mid}
use lib.ListN.{length, get_or, take, drop, set, length-append, length-drop, drop_of_length-le}
use lib.Seq.{take_at, drop_at, set_at, drop-cons, drop-drop, take-length}
use Rattle.std.specs.Fmt.{decimal}
use Rattle.std.proofs.lemmas.List.{set-get_or}
use Rattle.text.specs.Quote.{bytes_of}
use Rattle.report.specs.Digits.{decimal_digits}
use Rattle.verdict.specs.declared.Verdict.{Verdict}
use Rattle.report.specs.Text.{field, numbers, numbers_line, named, last_line, at_start, last_most, placed, ended}
use Rattle.report.specs.Inner.{Put}
use Rattle.report.proofs.Digits.{most, written}

pub length-put : {t out₀ out : List ℕ} {n : ℕ} → length t ≤ length out₀ → Put t out₀ out n → length out ≡ length out₀
length-put {t} {out₀} h p = ap length p.is ∙ simp (length-append, length-drop) (omega arith)

pub put_start : {t out₀ out : List ℕ} {n : ℕ} → Put t out₀ out n → placed n out ≡ placed (length t) (at_start t out₀)
put_start p = rw (p.end, p.is)

pub length-field : (x after : ℕ) → length (field x after) ≡ length (decimal_digits x) + 1
unfolding field
length-field x after = length-append (decimal_digits x) (after ∷ [])

pub field-most : (x after : ℕ) → x < 2 ^ 64 → length (field x after) ≤ 21
field-most x after h = omega (arith, length-field x after, most 19 x (omega arith))

pub written_length : (x : ℕ) → x < 2 ^ 64 → length (decimal x) ≡ length (decimal_digits x)
written_length x h = ap length (written x h)

-- a number's digits, which end at their length, and the byte after them
module _ (x after : ℕ) (out₀ out : List ℕ) (w r : ℕ) (small : x < 2 ^ 64) (fits : length (field x after) ≤ length out₀)
    (width : w ≡ length (decimal_digits x)) (start : r + length (decimal x) ≡ w) (is : drop r out ≡ decimal x ++ drop w out₀) where
  digits_put : out ≡ at_start (decimal_digits x) out₀
  digits_put =
      let z : r ≡ 0 = omega (arith, ap length (written x small)) in
      rw z at is ∙ rw (written x small, width)

  pub field_put : Put (field x after) out₀ (set out w after) (w + 1)
  unfolding field
  field_put =
      let l = length-field x after in
      let c : drop w out₀ ≡ get_or out₀ w 0 ∷ drop (suc w) out₀ = drop-cons out₀ w 0 (omega arith) in
      let o : out ≡ decimal_digits x ++ (get_or out₀ w 0 ∷ drop (suc w) out₀) = digits_put ∙ rw (← width, c) in
      record {
        end = omega (arith, l, width);
        is =
            ap (λ (o : List ℕ). set o w after) o ∙ set_at (decimal_digits x) _ _ after w (sym width)
            ∙ simp (append_assoc, length-append, ← width, add-one);
      }

  -- the same where a byte is written once more as it stands: no body does, and with it the edit digit_one_more is refused for its digit and not for its form
  pub field_again : (i b : ℕ) → b ≡ get_or (set out w after) i 0 → Put (field x after) out₀ (set (set out w after) i b) (w + 1)
  field_again i b e = rw (e, set-get_or (set out w after) i 0) field_put

-- a field's length and its writing
pub ruleset fields = (length-field, written_length, field_put, field_again)

-- what is left of a buffer, as `&mut out[n..]` lends it
abbrev pub rest_of : ℕ → List ℕ → List ℕ
rest_of n out = take (length out - n) (drop n out)

pub front : (s t : List ℕ) {n : ℕ} → length (s ++ t) ≤ n → length s ≤ n
front s t h = omega (arith, length-append s t)

-- a text in the rest after another
module _ (s t : List ℕ) {out₀ out : List ℕ} {n : ℕ} (fits : length (s ++ t) ≤ length out₀) (p : Put s out₀ out n) where
  same : length out ≡ length out₀
  same = length-put (front s t fits) p

  rest_is : rest_of n out ≡ drop (length s) out₀
  rest_is =
      let d : drop n out ≡ drop (length s) out₀ = rw (p.end, p.is) (drop_at s (drop (length s) out₀) (length s) refl) in
      let k : length out - n ≡ length (drop (length s) out₀) = omega (arith, same, length-drop (length s) out₀, p.end) in
      rw (d, k) (take-length (drop (length s) out₀))

  pub next-room : length t ≤ length (rest_of n out)
  next-room = rw rest_is (omega (arith, length-append s t, length-drop (length s) out₀))

  pub next : {last : List ℕ} {r : ℕ} → Put t (rest_of n out) last r → Put (s ++ t) out₀ (put_mid n (length out - n) out last) (n + r)
  next {last} {r} q =
      let f : take n out ≡ s = rw (p.is, p.end) (take_at s (drop (length s) out₀) (length s) refl) in
      let z : drop (length out - n) (drop n out) ≡ [] = simp drop-drop (drop_of_length-le out (omega arith)) in
      record {
        end = omega (arith, p.end, q.end, length-append s t);
        is = rw (f, q.is, z, rest_is) (simp (append_assoc, append-nil, drop-drop, length-append));
      }

-- a verdict's row is its fields, the last in the rest after the others
pub row_is : (v : Verdict) (kind answer place : ℕ) → kind ≡ v.kind → answer ≡ v.answer → place ≡ v.place
    → numbers_line (numbers v)
    ≡ (((field v.offset 32 ++ field kind 32) ++ field answer 32) ++ field place 32) ++ field v.number 10
unfolding numbers_line
row_is v kind answer place k a p = rw (k, a, p) (simp append_assoc)

-- a word that was copied
pub put_word : (word out last : List ℕ) → last ≡ word → Put word out (last ++ drop (length word) out) (length word)
put_word word out last e = record { end = refl; is = rw e }

-- the last line, where it has no room, and its three parts where it has
module _ (stop judged read : ℕ) (out : List ℕ) where
  pub no_last : length out < last_most → placed 0 out ≡ ended out stop judged read
  unfolding ended
  no_last h = rw (lt-ltb (length out) last_most h)

  pub last_put : {out₁ : List ℕ} {r : ℕ} → last_most ≤ length out
      → Put ((named (bytes_of "stop ") stop 32 ++ named (bytes_of "judged ") judged 32) ++ named (bytes_of "read ") read 10) out out₁ r
      → placed r out₁ ≡ ended out stop judged read
  unfolding ended last_line
  last_put h p =
      rw (le-ltb (length out) last_most h)
      (rw (append_assoc (named (bytes_of "stop ") stop 32) (named (bytes_of "judged ") judged 32) (named (bytes_of "read ") read 10)) at (put_start p))

-- a word and the number after it
pub ruleset parts = (field-most, put_word, next-room, next)
