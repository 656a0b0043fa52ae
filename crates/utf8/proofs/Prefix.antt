-- Laws of the prefix: a character is decided by its own bytes, so that the prefix is well formed, and each well-formed prefix is within it.
use Prim.Native.Nat.{ℕ, zero, suc, ◌+◌, ◌*◌, ◌%◌, ◌-◌, ◌≤◌}
use mathlib.Core.Path.{◌≡◌, refl, sym, ap, ◌∙◌}
use mathlib.Core.Bool.{Bool, true, false, ◌||◌, cond}
use mathlib.Core.List.{List, [], ◌∷◌}
use native.Mathlib.Omega.{arith}
use borrow.Author.Tests.{ltb-false, eqb-true, eqb-false}
use lib.Dec.{ltb, eqb}
use lib.ListN.{length, get_or, take, drop, length-take, length-drop}
use lib.Seq.{get_or-take, take-nil, take-add, drop_at, length-take-le}
use Rattle.text.specs.Ranges.{within}
use Rattle.utf8.specs.Rfc3629.{lead_of, needed, well_formed, scalar_of, ch, by_row, char_of, front}
use Rattle.utf8.specs.Chars.{widths, valid_prefix}
use Rattle.utf8.specs.Octets.{Octets}
use Rattle.utf8.specs.Octets.Octets.{none, more}
use Rattle.utf8.specs.declared.Lead.{Lead}
use Rattle.utf8.specs.declared.Char.{Char}
use Rattle.std.specs.Prelude.{Option, Some, None}
use Rattle.utf8.proofs.Chars.{front-width, found, chars_char, chars_bad}

-- only the bytes that the width asks for count
needed-same : (k w lo hi x y : ℕ) → (k ≤ w → x ≡ y) → needed k w lo hi x ≡ needed k w lo hi y
unfolding needed
needed-same k w lo hi x y h = go (ltb w k) refl
  where
    go : (b : Bool) → ltb w k ≡ b → (b || within lo hi x) ≡ (b || within lo hi y)
    go true e = refl
    go false e = rw (h (ltb-false w k e))

well_formed-same : (l : Lead) (b c d b' c' d' : ℕ) → (2 ≤ l.width → b ≡ b') → (3 ≤ l.width → c ≡ c') → (4 ≤ l.width → d ≡ d')
    → well_formed l b c d ≡ well_formed l b' c' d'
unfolding well_formed
well_formed-same l b c d b' c' d' p q r =
    rw (needed-same 2 l.width l.low l.high b b' p, needed-same 3 l.width 0x80 0xBF c c' q, needed-same 4 l.width 0x80 0xBF d d' r)

scalar-same : (w a b c d b' c' d' : ℕ) → 1 ≤ w → (2 ≤ w → b ≡ b') → (3 ≤ w → c ≡ c') → (4 ≤ w → d ≡ d')
    → scalar_of w a b c d ≡ scalar_of w a b' c' d'
unfolding scalar_of
scalar-same w a b c d b' c' d' some p q r = go (eqb w 1) (eqb w 2) (eqb w 3) refl refl refl
  where
    go : (x y z : Bool) → eqb w 1 ≡ x → eqb w 2 ≡ y → eqb w 3 ≡ z
        → cond x a (cond y (a % 32 * 64 + b % 64) (cond z (a % 16 * 4096 + b % 64 * 64 + c % 64) (a % 8 * 262144 + b % 64 * 4096 + c % 64 * 64 + d % 64)))
        ≡ cond x a (cond y (a % 32 * 64 + b' % 64) (cond z (a % 16 * 4096 + b' % 64 * 64 + c' % 64) (a % 8 * 262144 + b' % 64 * 4096 + c' % 64 * 64 + d' % 64)))
    go true y z e f g = refl
    go false true z e f g = rw (p (omega (arith, eqb-true w 2 f)))
    go false false true e f g = rw (p (omega (arith, eqb-true w 3 g)), q (omega (arith, eqb-true w 3 g)))
    go false false false e f g =
        let four : 4 ≤ w = omega (arith, eqb-false w 1 e, eqb-false w 2 f, eqb-false w 3 g) in
        rw (p (omega arith), q (omega arith), r four)

-- a character stays where bytes past it change
row_same : (r : Option Lead) (a b c d b' c' d' x w : ℕ) → by_row r a b c d ≡ Some (ch x w) → 1 ≤ w → (2 ≤ w → b ≡ b') → (3 ≤ w → c ≡ c')
    → (4 ≤ w → d ≡ d') → by_row r a b' c' d' ≡ Some (ch x w)
row_same None a b c d b' c' d' x w e some p q r = e
row_same (Some l) a b c d b' c' d' x w e some p q r =
    let v = l.width in
    let same : v ≡ w = (found (well_formed l b c d) (scalar_of v a b c d) v x w e).1 in
    let p' : 2 ≤ v → b ≡ b' = λ h. p (omega arith) in
    let q' : 3 ≤ v → c ≡ c' = λ h. q (omega arith) in
    let r' : 4 ≤ v → d ≡ d' = λ h. r (omega arith) in
    rw (← well_formed-same l b c d b' c' d' p' q' r', ← scalar-same v a b c d b' c' d' (omega arith) p' q' r') e

char_same : (a b c d b' c' d' x w : ℕ) → char_of a b c d ≡ Some (ch x w) → 1 ≤ w → (2 ≤ w → b ≡ b') → (3 ≤ w → c ≡ c') → (4 ≤ w → d ≡ d')
    → char_of a b' c' d' ≡ Some (ch x w)
unfolding char_of
char_same a b c d b' c' d' x w e some p q r = row_same (lead_of a) a b c d b' c' d' x w e some p q r

-- the first character of a text is that of each prefix that has its bytes, and the other way round
front-take : (n : ℕ) (s : List ℕ) (c w : ℕ) → w ≤ n → front s ≡ Some (ch c w) → front (take n s) ≡ Some (ch c w)
unfolding front
front-take n [] c w h e = let z : ◌≡◌ {A = ℕ} 0 1 = cc in absurd (omega arith)
front-take zero (a ∷ s) c w h e = let p = front-width (a ∷ s) c w e in absurd (omega arith)
front-take (suc n) (a ∷ s) c w h e =
    let p = front-width (a ∷ s) c w e in
    char_same a (get_or s 0 0) (get_or s 1 0) (get_or s 2 0) (get_or (take n s) 0 0) (get_or (take n s) 1 0) (get_or (take n s) 2 0) c w e p.0
    (λ k. sym (get_or-take n s 0 0 (omega arith))) (λ k. sym (get_or-take n s 1 0 (omega arith))) (λ k. sym (get_or-take n s 2 0 (omega arith)))

front-whole : (n : ℕ) (s : List ℕ) (c w : ℕ) → front (take n s) ≡ Some (ch c w) → front s ≡ Some (ch c w)
unfolding front
front-whole n [] c w e = rw take-nil at e
front-whole zero (a ∷ s) c w e = let z : ◌≡◌ {A = ℕ} 0 1 = cc in absurd (omega arith)
front-whole (suc n) (a ∷ s) c w e =
    let p = front-width (a ∷ take n s) c w e in
    let m : w ≤ suc n = omega (arith, p.1, length-take n s) in
    char_same a (get_or (take n s) 0 0) (get_or (take n s) 1 0) (get_or (take n s) 2 0) (get_or s 0 0) (get_or s 1 0) (get_or s 2 0) c w e p.0
    (λ k. get_or-take n s 0 0 (omega arith)) (λ k. get_or-take n s 1 0 (omega arith)) (λ k. get_or-take n s 2 0 (omega arith))

drop-take : (w v : ℕ) (s : List ℕ) → w ≤ length s → drop w (take (w + v) s) ≡ take v (drop w s)
drop-take w v s h = rw (take-add w v s) (drop_at (take w s) (take v (drop w s)) w (length-take-le w s h))

pub prefix_char : (s : List ℕ) (c w : ℕ) → front s ≡ Some (ch c w) → valid_prefix s ≡ w + valid_prefix (drop w s)
unfolding valid_prefix widths
prefix_char s c w e = rw (chars_char s c w e)

pub prefix_bad : (s : List ℕ) → front s ≡ None → valid_prefix s ≡ 0
unfolding valid_prefix widths
prefix_bad s e = rw (chars_bad s e)

-- the prefix is within the text, and is made of characters
abbrev pub Inside : List ℕ → Type 0
Inside s = (valid_prefix s ≤ length s) × Octets (take (valid_prefix s) s)

inside_by : (s : List ℕ) → ((c w : ℕ) → front s ≡ Some (ch c w) → Inside (drop w s)) → (d : Option Char) → front s ≡ d → Inside s
inside_by s ih None e = rw (prefix_bad s e) (omega arith, none)
inside_by s ih (Some x) e =
    let c = x.scalar in
    let w = x.width in
    let p = front-width s c w e in
    let v = valid_prefix (drop w s) in
    let r = ih c w e in
    rw (prefix_char s c w e)
    (omega (arith, r.0, length-drop w s), more (take (w + v) s) c w (front-take (w + v) s c w (omega arith) e) (rw (drop-take w v s p.1) r.1))

pub inside : (n : ℕ) (s : List ℕ) → length s ≤ n → Inside s
inside zero s h = inside_by s (λ c w e. absurd (let p = front-width s c w e in omega arith)) (front s) refl
inside (suc n) s h = inside_by s (λ c w e. inside n (drop w s) (let p = front-width s c w e in omega (arith, length-drop w s))) (front s) refl

-- a prefix that is made of characters is within it
pub most : {t : List ℕ} → Octets t → (s : List ℕ) (m : ℕ) → t ≡ take m s → m ≤ length s → m ≤ valid_prefix s
most none s m e h = omega (arith, ap length e, length-take m s)
most (more t c w f o) s m e h =
    let p = front-width t c w f in
    let small : w ≤ m = omega (arith, ap length e, length-take m s) in
    let k = m - w in
    let whole : front s ≡ Some (ch c w) = front-whole m s c w (rw e at f) in
    let split : m ≡ w + k = omega arith in
    let cut : drop w t ≡ take k (drop w s) = ap (drop w) (e ∙ ap (λ (n : ℕ). take n s) split) ∙ drop-take w k s (omega arith) in
    let r : k ≤ valid_prefix (drop w s) = most o (drop w s) k cut (omega (arith, length-drop w s)) in
    omega (arith, prefix_char s c w whole)
