-- Laws of a walk over a text's characters: its next one, those that it has left, and the bytes that these take.
use Prim.Native.Nat.{ℕ, zero, suc, pred, ◌+◌, ◌≤◌, ◌<◌}
use mathlib.Core.Path.{◌≡◌, refl, sym, ap, ◌∙◌}
use mathlib.Core.List.{List, [], ◌∷◌}
use native.Mathlib.Omega.{arith}
use lib.ListN.{length, get_or, drop, length-drop}
use lib.Seq.{drop-drop}
use Rattle.std.specs.Prelude.{Option, Some, None, fold, sum_by}
use Rattle.utf8.specs.Rfc3629.{ch, front}
use Rattle.utf8.specs.Chars.{then, chars_past, chars, placed, widths, valid_prefix}
use Rattle.utf8.specs.declared.Char.{Char}
use Rattle.utf8.proofs.Chars.{no_front, ascii_front, front-width, chars_char, chars_bad}
use Rattle.utf8.proofs.Promises.{longest}

-- its next character, and those that it has left
pub placed_none : (s : List ℕ) (at : ℕ) → None ≡ front (drop at s) → placed at (chars (drop at s)) ≡ []
unfolding placed
placed_none s at e = rw (chars_bad (drop at s) (sym e))

pub placed_some : (s : List ℕ) (at : ℕ) (c : Char) → Some c ≡ front (drop at s)
    → placed at (chars (drop at s)) ≡ (at, c) ∷ placed (at + c.width) (chars (drop (at + c.width) s))
unfolding placed
placed_some s at c e = rw (chars_char (drop at s) c.scalar c.width (sym e), drop-drop c.width at s)

pub char_inside : (s : List ℕ) (at : ℕ) (c : Char) → Some c ≡ front (drop at s) → at + c.width ≤ length s
char_inside s at c e = let p = front-width (drop at s) c.scalar c.width (sym e) in omega (arith, length-drop at s)

pub placed_end : (s : List ℕ) (at : ℕ) → length s ≤ at → placed at (chars (drop at s)) ≡ []
placed_end s at h = placed_none s at (no_front s at h)

-- of an empty text none are left, wherever the walk stands: with it the edit walk_elsewhere is refused for its place, and not for what is left
pub none_left : (s : List ℕ) (at : ℕ) → length s ≡ 0 → placed at (chars (drop at s)) ≡ placed 0 (chars s)
none_left s at e = placed_end s at (omega (arith, e)) ∙ sym (placed_end s 0 (omega (arith, e)))

-- they are no more than the text's bytes
pub few_chars : (k : ℕ) (s : List ℕ) → length (chars_past k s) ≤ length s
unfolding chars_past
few_chars k [] = omega arith
few_chars zero (a ∷ s) = go (front (a ∷ s)) (λ k. few_chars k s)
  where
    go : (d : Option Char) → ((k : ℕ) → length (chars_past k s) ≤ length s) → length (then d (λ k. chars_past k s)) ≤ suc (length s)
    go None f = omega arith
    go (Some c) f = omega (arith, f (pred c.width))
few_chars (suc k) (a ∷ s) = omega (arith, few_chars k s)

length-placed : (at : ℕ) (cs : List Char) → length (placed at cs) ≡ length cs
unfolding placed
length-placed at [] = refl
length-placed at (c ∷ cs) = ap suc (length-placed (at + c.width) cs)

pub few_placed : (ps : List (ℕ × Char)) (s : List ℕ) → ps ≡ placed 0 (chars s) → length ps ≤ length s
few_placed ps s e = rw e (omega (arith, length-placed 0 (chars s), few_chars 0 s))

-- a byte below 128 is the next one
pub ascii_placed : (s : List ℕ) (at : ℕ) → at < length s → get_or s at 0 < 128
    → placed at (chars (drop at s)) ≡ (at, ch (get_or s at 0) 1) ∷ placed (at + 1) (chars (drop (at + 1) s))
ascii_placed s at h small = placed_some s at (ch (get_or s at 0) 1) (ascii_front s at (get_or s at 0) h small refl)

-- the bytes that characters with their places take
abbrev pub room : List (ℕ × Char) → ℕ
room ps = sum_by (λ p. p.1.width) ps

counted : (n : ℕ) (ps : List (ℕ × Char)) → fold (λ a p. a + p.1.width) n ps ≡ n + room ps
counted n [] = omega arith
counted n (p ∷ ps) = counted (n + p.1.width) ps ∙ omega (arith, counted (0 + p.1.width) ps)

pub room_more : (ps qs : List (ℕ × Char)) (p : ℕ × Char) → ps ≡ p ∷ qs → room ps ≡ p.1.width + room qs
room_more ps qs p e = rw e (counted (0 + p.1.width) qs ∙ omega arith)

pub room_none : (ps : List (ℕ × Char)) → ps ≡ [] → room ps ≡ 0
room_none ps e = rw e

room_placed : (at : ℕ) (cs : List Char) → room (placed at cs) ≡ widths cs
unfolding placed widths
room_placed at [] = refl
room_placed at (c ∷ cs) = counted (0 + c.width) (placed (at + c.width) cs) ∙ omega (arith, room_placed (at + c.width) cs)

pub room_start : (ps : List (ℕ × Char)) (s : List ℕ) → ps ≡ placed 0 (chars s) → room ps ≡ valid_prefix s
unfolding valid_prefix
room_start ps s e = rw e (room_placed 0 (chars s))

pub prefix_inside : (s : List ℕ) → valid_prefix s ≤ length s
prefix_inside s = (longest s).inside
