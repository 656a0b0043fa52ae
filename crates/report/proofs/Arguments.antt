-- Laws of the program's argument: which bytes are digits, how large a number they write, and what the argument is where there are only digits.
use Prim.Native.Nat.{ℕ, ◌≤◌, ◌<◌, ◌^◌}
use mathlib.Core.Path.{◌≡◌, refl, sym}
use mathlib.Core.Bool.{Bool, true, false, ◌&&◌}
use mathlib.Core.List.{List, [], ◌∷◌, map}
use native.Mathlib.Omega.{arith}
use borrow.Author.Tests.{lt-ltb, leb-true, leb-false}
use lib.Dec.{T, leb, le→leb}
use lib.ListN.{length, length-map}
use Rattle.std.specs.Char.{is_ascii_digit}
use Rattle.std.specs.List.{list_all}
use Rattle.text.specs.Class.{is_digit}
use Rattle.text.specs.Decimal.{digit_of, number_written, fitted}
use Rattle.text.proofs.Classes.{digit_ends, is_digit_lem, below_digits, above_digits}
use Rattle.text.proofs.Decimals.{decimal-most}
use Rattle.text.proofs.Ranges.{every, is_true, both_parts, both_of}
use Rattle.report.specs.Offset.{digits_only, offset_of}

-- the kit's digits are SCOPE's
same_digit : (b : ℕ) → is_ascii_digit b ≡ is_digit b
same_digit b = go (leb 48 b) (leb b 57) refl refl
  where
    go : (l h : Bool) → leb 48 b ≡ l → leb b 57 ≡ h → (l && h) ≡ is_digit b
    go true true p q = sym (is_digit_lem b (leb-true 48 b p) (leb-true b 57 q))
    go true false p q = sym (above_digits b (leb-false b 57 q))
    go false h p q = sym (below_digits b (leb-false 48 b p))

pub all_digits : (t : List ℕ) → list_all is_ascii_digit t ≡ digits_only t
all_digits [] = refl
all_digits (b ∷ t) = rw (same_digit b, all_digits t)

small : (t : List ℕ) → T (digits_only t) → T (every (λ d. leb d 9) (map digit_of t))
small [] p = tt
small (b ∷ t) p =
    let q = both_parts (is_digit b) (digits_only t) p in
    let e = digit_ends b q.0 in
    both_of (leb (digit_of b) 9) (every (λ d. leb d 9) (map digit_of t)) (le→leb (digit_of b) 9 (omega arith)) (small t q.1)

-- digits write a number that their count bounds
pub only_most : (t : List ℕ) → T (digits_only t) → number_written t < 10 ^ length t
unfolding number_written
only_most t p = rw length-map at (decimal-most (map digit_of t) (small t p))

-- and are an argument
pub given : (t : List ℕ) → 1 ≤ length t → T (digits_only t) → offset_of t ≡ fitted (number_written t)
unfolding offset_of
given t h p = rw (lt-ltb 0 (length t) (omega arith), is_true (digits_only t) p)
