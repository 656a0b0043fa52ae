-- Laws of the expansion and of its number, once over the length: texts in two parts, and one character more.
use mathlib.Core.Path.{◌≡◌, refl, sym, ◌∙◌, ap}
use mathlib.Core.Bool.{Bool, true, false, cond}
use mathlib.Core.List.{List, [], ◌∷◌, ◌++◌, append_assoc, append-nil}
use Prim.Native.Nat.{ℕ, ◌+◌, ◌*◌, ◌/◌, ◌%◌, ◌^◌, ◌<◌, ◌≤◌}
use native.Mathlib.Nat.{zero-add, zero-mul}
use native.Mathlib.Numerals.{add-one}
use native.Mathlib.Omega.{arith}
use lib.Pow.{pow-add}
use lib.ListN.{length, take, get_or, length-append}
use lib.Seq.{take-suc}
use Rattle.text.specs.Class.{is_digit}
use Rattle.text.specs.Decimal.{decimal}
use Rattle.text.proofs.Decimals.{decimal-append}
use Rattle.checkdigit.specs.Sum.{
  character_value,
  character_digits,
  expand,
  number,
  remainder_of,
  number_after,
  continued,
}
use Rattle.checkdigit.proofs.Mod.{mod_step}

expand-append : (s t : List ℕ) → expand (s ++ t) ≡ expand s ++ expand t
unfolding expand
expand-append [] t = refl
expand-append (b ∷ s) t = rw (expand-append s t) (sym (append_assoc (character_digits b) (expand s) (expand t)))

-- how many digits a text and a character are written with
abbrev pub width : List ℕ → ℕ
width t = length (expand t)

abbrev pub count : ℕ → ℕ
count b = length (character_digits b)

-- the digits of a value v, one where the test holds and else two
abbrev written : Bool → ℕ → List ℕ
written t v = cond t (v ∷ []) (v / 10 ∷ v % 10 ∷ [])

value_written : (t : Bool) (v : ℕ) → decimal (written t v) ≡ v
unfolding decimal
value_written true v = omega arith
value_written false v = omega arith

count_written : (t : Bool) (v : ℕ) → length (written t v) ≡ cond t 1 2
count_written true v = refl
count_written false v = refl

char_value : (b : ℕ) → decimal (character_digits b) ≡ character_value b
unfolding character_digits
char_value b = value_written (is_digit b) (character_value b)

pub char_count : (b : ℕ) → count b ≡ cond (is_digit b) 1 2
unfolding character_digits
char_count b = count_written (is_digit b) (character_value b)

one_or_two : (t : Bool) → (1 ≤ cond t 1 2) × (cond t 1 2 ≤ 2)
one_or_two true = (omega arith, omega arith)
one_or_two false = (omega arith, omega arith)

pub count_ends : (b : ℕ) → (1 ≤ count b) × (count b ≤ 2)
count_ends b = rw (char_count b) (one_or_two (is_digit b))

pub width-append : (s t : List ℕ) → width (s ++ t) ≡ width s + width t
width-append s t = simp (expand-append, length-append)

pub width-cons : (b : ℕ) (t : List ℕ) → width (b ∷ t) ≡ count b + width t
unfolding expand
width-cons b t = simp length-append

pub width-most : (t : List ℕ) → width t ≤ 2 * length t
unfolding expand
width-most [] = omega arith
width-most (b ∷ t) = rw (width-cons b t) (omega (arith, width-most t, (count_ends b).1))

pub number_append : (s t : List ℕ) → number (s ++ t) ≡ number s * 10 ^ width t + number t
number_append s t = simp (expand-append, decimal-append)

pub number-cons : (b : ℕ) (t : List ℕ) → number (b ∷ t) ≡ character_value b * 10 ^ width t + number t
unfolding expand
number-cons b t = simp (decimal-append, char_value)

pub after-append : (n : ℕ) (s t : List ℕ) → number_after (number_after n s) t ≡ number_after n (s ++ t)
unfolding number_after
after-append n s t = rw (number_append, width-append, pow-add 10 (width s) (width t)) (omega arith)

-- a number that is reduced first leaves the same remainder
pub reduced : (n : ℕ) (t : List ℕ) → continued (n % 97) t ≡ continued n t
unfolding continued number_after
reduced n t = mod_step 97 n (10 ^ width t) (number t)

pub continued-append : (r : ℕ) (s t : List ℕ) → continued (continued r s) t ≡ continued r (s ++ t)
unfolding continued
continued-append r s t = reduced (number_after r s) t ∙ ap (λ (n : ℕ). n % 97) (after-append r s t)

pub continued_none : (r : ℕ) → r < 97 → r ≡ continued r []
unfolding continued number_after expand decimal
continued_none r h = omega arith

pub from_nothing : (t : List ℕ) → continued 0 t ≡ remainder_of t
unfolding continued number_after remainder_of
from_nothing t = simp (zero-mul, zero-add)

-- the running remainder takes one character more
pub more : (r : ℕ) (t : List ℕ) (i x n : ℕ) → i < length t → x ≡ continued r (take i t) → n ≡ number_after x (get_or t i 0 ∷ [])
    → n % 97 ≡ continued r (take (i + 1) t)
unfolding continued
more r t i x n h p q =
    let b = get_or t i 0 in
    ap (λ (m : ℕ). m % 97) (q ∙ ap (λ (m : ℕ). number_after m (b ∷ [])) p)
    ∙ continued-append r (take i t) (b ∷ [])
    ∙ ap (continued r) (sym (take-suc t i 0 h) ∙ ap (λ (m : ℕ). take m t) (sym (add-one i)))

pub after_one : (n b : ℕ) → n * 10 ^ count b + character_value b ≡ number_after n (b ∷ [])
unfolding number_after expand
after_one n b = simp (append-nil, char_value)

pub remainder_low : (t : List ℕ) → remainder_of t < 97
unfolding remainder_of
remainder_low t = omega arith
