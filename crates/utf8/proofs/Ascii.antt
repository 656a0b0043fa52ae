-- Laws of ASCII texts: what one turn of a loop over their bytes does, each byte's bound, and their characters, which are their bytes.
use Prim.Native.Nat.{ℕ, zero, suc, ◌+◌, ◌*◌, ◌/◌, ◌-◌, ◌≤◌, ◌<◌}
use mathlib.Core.Path.{◌≡◌, refl, sym, ap, ◌∙◌}
use mathlib.Core.Bool.{Bool, true, false, ◌&&◌}
use mathlib.Core.List.{List, [], ◌∷◌, ◌++◌, map}
use native.Mathlib.Omega.{arith}
use borrow.Author.Tests.{ltb-true, ltb-false, lt-ltb, le-ltb}
use lib.Bits.{bit_or, or_add_and, and_le_l, and_le_r, or_lt}
use lib.Dec.{ltb, ltb→lt}
use lib.ListN.{length, get_or, take, drop, take-append-drop}
use lib.Seq.{take-take, take-add}
use Rattle.std.specs.List.{fold, list_all}
use Rattle.std.specs.Simd.{first_chunks}
use Rattle.text.proofs.Ranges.{is_true, both_parts}
use Rattle.utf8.specs.declared.Char.{Char}
use Rattle.utf8.specs.Rfc3629.{ch}
use Rattle.utf8.specs.Chars.{chars, chars_past, widths, valid_prefix, ascii}
use Rattle.utf8.proofs.Chars.{ascii-at, chars_char}

-- two numbers are below 128 where the bits of either one are
bits_below : (a b : ℕ) → ltb (bit_or a b) 128 ≡ (ltb a 128 && ltb b 128)
bits_below a b = go (ltb a 128) (ltb b 128) refl refl
  where
    least : a ≤ bit_or a b
    least = omega (arith, or_add_and a b, and_le_r a b)

    least_2 : b ≤ bit_or a b
    least_2 = omega (arith, or_add_and a b, and_le_l a b)

    go : (p q : Bool) → ltb a 128 ≡ p → ltb b 128 ≡ q → ltb (bit_or a b) 128 ≡ (p && q)
    go true true e f = lt-ltb (bit_or a b) 128 (or_lt 7 a b (ltb-true a 128 e) (ltb-true b 128 f))
    go true false e f = le-ltb (bit_or a b) 128 (omega (arith, least_2, ltb-false b 128 f))
    go false q e f = le-ltb (bit_or a b) 128 (omega (arith, least, ltb-false a 128 e))

both_assoc : (a b c : Bool) → ((a && b) && c) ≡ (a && (b && c))
both_assoc true b c = refl
both_assoc false b c = refl

both_true : (a : Bool) → (a && true) ≡ a
both_true true = refl
both_true false = refl

-- the bits that are set in any byte of a text say whether it is ASCII
bits_of : (n : ℕ) (s : List ℕ) → ltb (fold bit_or n s) 128 ≡ (ltb n 128 && ascii s)
unfolding ascii
bits_of n [] = sym (both_true (ltb n 128))
bits_of n (a ∷ s) = bits_of (bit_or n a) s ∙ rw (bits_below n a) (both_assoc (ltb n 128) (ltb a 128) (ascii s))

pub few_bits : (s : List ℕ) (n : ℕ) → n ≡ fold bit_or 0 s → ltb n 128 ≡ ascii s
few_bits s n e = ap (λ (m : ℕ). ltb m 128) e ∙ bits_of 0 s

-- a text in two parts is ASCII where both are
ascii_append : (s t : List ℕ) → ascii (s ++ t) ≡ (ascii s && ascii t)
unfolding ascii
ascii_append [] t = refl
ascii_append (a ∷ s) t = rw (ascii_append s t) (sym (both_assoc (ltb a 128) (ascii s) (ascii t)))

ascii_cut : (s : List ℕ) (i : ℕ) → ascii s ≡ (ascii (take i s) && ascii (drop i s))
ascii_cut s i = ap ascii (sym (take-append-drop i s)) ∙ ascii_append (take i s) (drop i s)

-- where the bytes before a place are not ASCII the text is not, and where they are a last part that begins before it decides
ascii_not : (s : List ℕ) (i : ℕ) → ascii (take i s) ≡ false → ascii s ≡ false
ascii_not s i e = ascii_cut s i ∙ rw e

ascii-last : (s : List ℕ) (k i : ℕ) → k ≤ i → ascii (take i s) ≡ true → ascii s ≡ ascii (drop k s)
ascii-last s k i h e =
    let p = both_parts (ascii (take k (take i s))) (ascii (drop k (take i s))) (rw (← ascii_cut (take i s) k, e) tt) in
    ascii_cut s k ∙ rw (← take-take k i s h, is_true (ascii (take k (take i s))) p.0)

-- eight bytes at a time, and the last eight
eights : (k : ℕ) (s : List ℕ) → list_all ascii (first_chunks 8 k s) ≡ ascii (take (k * 8) s)
unfolding ascii
eights zero s = refl
eights (suc k) s =
    let more : suc k * 8 ≡ 8 + k * 8 = omega arith in
    rw (eights k (drop 8 s), more, take-add 8 (k * 8) s) (sym (ascii_append (take 8 s) (take (k * 8) (drop 8 s))))

module _ (s : List ℕ) (t : Bool) (e : t ≡ list_all ascii (first_chunks 8 (length s / 8) s)) where
  pub eights_not : t ≡ false → false ≡ ascii s
  eights_not f = sym (ascii_not s (length s / 8 * 8) (sym (eights (length s / 8) s) ∙ sym e ∙ f))

  pub eights_last : t ≡ true → ascii (drop (length s - 8) s) ≡ ascii s
  eights_last f = sym (ascii-last s (length s - 8) (length s / 8 * 8) (omega arith) (sym (eights (length s / 8) s) ∙ sym e ∙ f))

-- a text is ASCII exactly where every byte is below 128
pub ascii_below : (s : List ℕ) → ascii s ≡ true → (i : ℕ) → i < length s → get_or s i 0 < 128
unfolding ascii
ascii_below [] e i h = absurd (omega arith)
ascii_below (a ∷ s) e zero h = ltb→lt a 128 (both_parts (ltb a 128) (ascii s) (rw e tt)).0
ascii_below (a ∷ s) e (suc i) h = ascii_below s (is_true (ascii s) (both_parts (ltb a 128) (ascii s) (rw e tt)).1) i (omega arith)

pub below_ascii : (s : List ℕ) → ((i : ℕ) → i < length s → get_or s i 0 < 128) → ascii s ≡ true
unfolding ascii
below_ascii [] f = refl
below_ascii (a ∷ s) f = rw (lt-ltb a 128 (f zero (omega arith))) (below_ascii s (λ i h. f (suc i) (omega arith)))

-- the characters of an ASCII text are its bytes one by one
pub ascii-chars : (s : List ℕ) → ascii s ≡ true → chars s ≡ map (λ b. ch b 1) s
unfolding ascii chars_past
ascii-chars [] e = refl
ascii-chars (a ∷ s) e =
    let p = both_parts (ltb a 128) (ascii s) (rw e tt) in
    chars_char (a ∷ s) a 1 (sym (ascii-at (a ∷ s) 0 a a (omega arith) refl (ltb→lt a 128 p.0) refl))
    ∙ ap (λ (l : List Char). ch a 1 ∷ l) (ascii-chars s (is_true (ascii s) p.1))

singles : (s : List ℕ) → widths (map (λ b. ch b 1) s) ≡ length s
unfolding widths
singles [] = refl
singles (a ∷ s) = rw (singles s) (omega arith)

-- and it is its own longest well-formed prefix
pub ascii_prefix : (s : List ℕ) → ascii s ≡ true → valid_prefix s ≡ length s
unfolding valid_prefix
ascii_prefix s e = rw (ascii-chars s e) (singles s)
