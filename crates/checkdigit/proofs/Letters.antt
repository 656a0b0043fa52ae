-- All that the proofs use of a letter's value and of a slip: a letter's value is small, tells letters apart, and so a slip changes the value
-- of a character and not the count of its digits.
use mathlib.Core.Path.{◌≡◌}
use mathlib.Core.Bool.{Bool, true, false, ◌&&◌, cond}
use mathlib.Core.List.{[], ◌∷◌}
use mathlib.Core.Logic.{◌≢◌, ⊎_elim}
use Prim.Native.Nat.{ℕ, ◌+◌, ◌*◌, ◌^◌, ◌<◌}
use native.Mathlib.Omega.{arith}
use lib.Dec.{T}
use Rattle.text.specs.Class.{is_digit, is_letter}
use Rattle.text.specs.Decimal.{digit_of}
use Rattle.text.proofs.Ranges.{both_parts, either_parts}
use Rattle.text.proofs.Classes.{is_digit_lem, above_digits, digit_ends, letter_ends}
use Rattle.checkdigit.specs.Letter.{letter_value, Slip}
use Rattle.checkdigit.specs.Sum.{character_value, number_after}
use Rattle.checkdigit.proofs.Digits.{count, char_count, after_one}

byte_value : (b : ℕ) → b < 256 → letter_value b < 256
unfolding letter_value
byte_value b h = omega arith

-- a byte's digits after a number's
module _ (b : ℕ) (byte : b < 256) where
  value-most : character_value b < 256
  unfolding character_value
  value-most = go (is_digit b)
    where
      go : (d : Bool) → cond d (digit_of b) (letter_value b) < 256
      go true = omega arith
      go false = byte_value b byte

  pub after_most : (n : ℕ) → number_after n (b ∷ []) < n * 100 + 256
  after_most n = rw (← after_one n b, char_count b) (go (is_digit b))
    where
      go : (d : Bool) → n * 10 ^ cond d 1 2 + character_value b < n * 100 + 256
      go true = omega (arith, value-most)
      go false = omega (arith, value-most)

letter_low : (b : ℕ) → T (is_letter b) → letter_value b < 97
unfolding letter_value
letter_low b t = let e = letter_ends b t in omega arith

letter_tells : (a b : ℕ) → T (is_letter a) → T (is_letter b) → letter_value a ≡ letter_value b → a ≡ b
unfolding letter_value
letter_tells a b s t e = let p = letter_ends a s in let q = letter_ends b t in omega arith

-- two characters written with as many digits, whose values are different remainders
pub record Kin (a b : ℕ) : Type 0 where
  pub digits : count a ≡ count b
  pub low : character_value a < 97
  pub low' : character_value b < 97
  pub apart : character_value a ≢ character_value b

kin_digits : (a b : ℕ) → T (is_digit a) → T (is_digit b) → a ≢ b → Kin a b
unfolding character_value
kin_digits a b s t n =
    let h = digit_ends a s in
    let k = digit_ends b t in
    let p : is_digit a ≡ true = is_digit_lem a h.0 h.1 in
    let q : is_digit b ≡ true = is_digit_lem b k.0 k.1 in
    record { digits = rw (char_count a, char_count b, p, q); low = rw p (omega arith); low' = rw q (omega arith); apart = rw (p, q) (λ e. n (omega arith)) }

kin_letters : (a b : ℕ) → T (is_letter a) → T (is_letter b) → a ≢ b → Kin a b
unfolding character_value
kin_letters a b s t n =
    let h = letter_ends a s in
    let k = letter_ends b t in
    let p : is_digit a ≡ false = above_digits a (omega arith) in
    let q : is_digit b ≡ false = above_digits b (omega arith) in
    record {
      digits = rw (char_count a, char_count b, p, q);
      low = rw p (letter_low a s);
      low' = rw q (letter_low b t);
      apart = rw (p, q) (λ e. n (letter_tells a b s t e));
    }

pub kin : {a b : ℕ} → Slip a b → Kin a b
kin {a} {b} s =
    ⊎_elim (λ t. let p = both_parts (is_digit a) (is_digit b) t in kin_digits a b p.0 p.1 s.other)
    (λ t. let p = both_parts (is_letter a) (is_letter b) t in kin_letters a b p.0 p.1 s.other)
    (either_parts (is_digit a && is_digit b) (is_letter a && is_letter b) s.kind)
