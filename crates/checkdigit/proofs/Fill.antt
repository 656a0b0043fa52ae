-- Laws of check digits: 98 less the remainder with 00 in their place makes the remainder 1 where they end a text, and they end an LEI and
-- an IBAN rearranged.
use mathlib.Core.Path.{◌≡◌, sym, ◌∙◌, ap}
use mathlib.Core.Bool.{true}
use mathlib.Core.List.{List, ◌++◌, append_assoc, append-nil}
use Prim.Native.Nat.{ℕ, ◌+◌, ◌*◌, ◌/◌, ◌%◌, ◌<◌, ◌≤◌}
use native.Mathlib.Numerals.{add-one}
use native.Mathlib.Omega.{arith}
use lib.ListN.{length, take, drop, length-append, length-take}
use lib.Seq.{sets-eq, drop-length, take_at, drop_at}
use Rattle.text.specs.Class.{is_digit}
use Rattle.text.specs.Decimal.{decimal}
use Rattle.text.proofs.Classes.{is_digit_lem}
use Rattle.checkdigit.specs.Sum.{character_value, character_digits, expand, number, remainder_of, rearranged}
use Rattle.checkdigit.specs.Fill.{check_digits, two_characters, stamped}
use Rattle.checkdigit.proofs.Digits.{width, number_append}

pub check-digits-ends : (r : ℕ) → (2 ≤ check_digits r) × (check_digits r ≤ 98)
check-digits-ends r = (omega arith, omega arith)

-- the two characters written are digits
pub tens_digit : (d : ℕ) → d < 100 → is_digit (48 + d / 10) ≡ true
tens_digit d h = is_digit_lem (48 + d / 10) (omega arith) (omega arith)

pub ones_digit : (d : ℕ) → is_digit (48 + d % 10) ≡ true
ones_digit d = is_digit_lem (48 + d % 10) (omega arith) (omega arith)

two_number : (d : ℕ) → d < 100 → number (two_characters d) ≡ d
unfolding character_value character_digits expand decimal
two_number d h = rw (tens_digit d h, ones_digit d) (omega arith)

two_width : (d : ℕ) → d < 100 → width (two_characters d) ≡ 2
unfolding character_value character_digits expand
two_width d h = rw (tens_digit d h, ones_digit d)

ending : (p : List ℕ) (d : ℕ) → d < 100 → remainder_of (p ++ two_characters d) ≡ (number p * 100 + d) % 97
unfolding remainder_of
ending p d h = rw (number_append p (two_characters d), two_number d h, two_width d h)

filled : (p : List ℕ) → remainder_of (p ++ two_characters (check_digits (remainder_of (p ++ two_characters 0)))) ≡ 1
filled p =
    let r = remainder_of (p ++ two_characters 0) in
    let q : r ≡ (number p * 100 + 0) % 97 = ending p 0 (omega arith) in
    ending p (check_digits r) (omega arith) ∙ omega arith

-- so it is for any text that ends with them
pub at-end : (p : List ℕ) (t : ℕ → List ℕ) → ((d : ℕ) → t d ≡ p ++ two_characters d) → remainder_of (t (check_digits (remainder_of (t 0)))) ≡ 1
at-end p t e = rw (e (check_digits (remainder_of (t 0))), e 0) (filled p)

stamp_is : (t : List ℕ) (i d : ℕ) → i + 2 ≤ length t → stamped t i d ≡ take i t ++ two_characters d ++ drop (i + 2) t
stamp_is t i d h = rw (add-one i) (sets-eq (two_characters d) t i h)

-- as a text does whose last two places are theirs
pub end-stamped : (t : List ℕ) (n : ℕ) → length t ≡ n + 2 → (d : ℕ) → stamped t n d ≡ take n t ++ two_characters d
end-stamped t n h d = stamp_is t n d (omega arith) ∙ rw (← h, drop-length t) (append-nil (take n t ++ two_characters d))

-- and an IBAN rearranged
pub iban_stamped : (t : List ℕ) → 4 ≤ length t → (d : ℕ) → rearranged (stamped t 2 d) ≡ drop 4 t ++ take 2 t ++ two_characters d
unfolding rearranged
iban_stamped t h d =
    let front = take 2 t ++ two_characters d in
    let four : length front ≡ 4 = simp (length-append, length-take) (omega arith) in
    ap rearranged (stamp_is t 2 d h)
    ∙ rw (drop_at front (drop 4 t) 4 four, take_at front (drop 4 t) 4 four) (sym (append_assoc (drop 4 t) (take 2 t) (two_characters d)))
