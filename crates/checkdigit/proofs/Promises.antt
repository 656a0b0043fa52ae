-- Demand 3, for the text as it stands and for an IBAN's rearranged one: a slip, and an exchange of two unequal characters of a kind, change
-- the remainder, and check digits that are filled in make it 1.
use mathlib.Core.Path.{◌≡◌, sym, ◌∙◌}
use mathlib.Core.Logic.{◌≢◌}
use mathlib.Core.List.{List, ◌++◌}
use Prim.Native.Nat.{ℕ, ◌+◌, ◌<◌, ◌≤◌}
use lib.ListN.{length, take, drop, set, get_or}
use Rattle.checkdigit.specs.Letter.{Slip}
use Rattle.checkdigit.specs.Sum.{remainder_of, rearranged, iban_remainder, exchanged}
use Rattle.checkdigit.specs.Fill.{check_digits, stamped}
use Rattle.checkdigit.proofs.Letters.{kin}
use Rattle.checkdigit.proofs.Errors.{replaced_at, exchanged-at}
use Rattle.checkdigit.proofs.Iban.{iban_replaced_at, iban_exchanged_at}
use Rattle.checkdigit.proofs.Fill.{at-end, end-stamped, iban_stamped}

-- what had remainder 1 and has another does not have 1 now
no_longer_one : {x y : ℕ} → x ≢ y → y ≡ 1 → x ≢ 1
no_longer_one differ was is = differ (is ∙ sym was)

-- one character replaced by another of its kind
module _ (t : List ℕ) (i c : ℕ) (in-text : i < length t) (slip : Slip (get_or t i 0) c) where
  pub replaced_caught : remainder_of (set t i c) ≢ remainder_of t
  replaced_caught = replaced_at t i c in-text (kin slip)

  pub replaced_not_one : remainder_of t ≡ 1 → remainder_of (set t i c) ≢ 1
  replaced_not_one = no_longer_one replaced_caught

  pub iban_replaced_caught : iban_remainder (set t i c) ≢ iban_remainder t
  iban_replaced_caught = iban_replaced_at t i c in-text (kin slip)

  pub iban_replaced_not_one : iban_remainder t ≡ 1 → iban_remainder (set t i c) ≢ 1
  iban_replaced_not_one = no_longer_one iban_replaced_caught

-- two unequal characters of a kind exchanged; of 49 letters, the first and the last are 96 digits apart, and 10^96 leaves 1
module _ (t : List ℕ) (i j : ℕ) (in-text : i < length t) (in-text' : j < length t) (short : length t ≤ 48) (slip : Slip (get_or t i 0) (get_or t j 0)) where
  pub exchanged_caught : remainder_of (exchanged t i j) ≢ remainder_of t
  exchanged_caught = exchanged-at t i j in-text in-text' short (kin slip)

  pub exchanged_not_one : remainder_of t ≡ 1 → remainder_of (exchanged t i j) ≢ 1
  exchanged_not_one = no_longer_one exchanged_caught

  pub iban_exchanged_caught : iban_remainder (exchanged t i j) ≢ iban_remainder t
  iban_exchanged_caught = iban_exchanged_at t i j in-text in-text' short (kin slip)

  pub iban_exchanged_not_one : iban_remainder t ≡ 1 → iban_remainder (exchanged t i j) ≢ 1
  iban_exchanged_not_one = no_longer_one iban_exchanged_caught

-- check digits filled in at the end of a text, as an LEI's, and at places 2 and 3 of an IBAN
pub filled_one : (t : List ℕ) (n : ℕ) → length t ≡ n + 2 → remainder_of (stamped t n (check_digits (remainder_of (stamped t n 0)))) ≡ 1
filled_one t n h = at-end (take n t) (stamped t n) (end-stamped t n h)

pub iban_filled_one : (t : List ℕ) → 4 ≤ length t → iban_remainder (stamped t 2 (check_digits (iban_remainder (stamped t 2 0)))) ≡ 1
unfolding iban_remainder
iban_filled_one t h = at-end (drop 4 t ++ take 2 t) (λ d. rearranged (stamped t 2 d)) (iban_stamped t h)
