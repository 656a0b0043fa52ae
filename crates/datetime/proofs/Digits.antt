-- Laws of a row of digits: how long the library's search finds it, and that it has digits only.
use Prim.Native.Nat.{ℕ, suc, ◌+◌, ◌-◌, ◌<◌}
use mathlib.Core.Path.{◌≡◌, refl, ◌∙◌}
use mathlib.Core.Bool.{Bool, true, false}
use mathlib.Core.List.{List, [], ◌∷◌}
use native.Mathlib.Omega.{arith}
use borrow.Author.Tests.{le-leb, lt-leb, leb-true, leb-false}
use lib.Dec.{T, leb}
use lib.ListN.{length, get_or, take}
use Rattle.std.specs.List.{prefix_len}
use Rattle.std.proofs.lemmas.List.Folds.{length-prefix_len}
use Rattle.std.proofs.lemmas.List.Sums.{prefix_len_passes}
use Rattle.text.specs.Class.{is_digit}
use Rattle.datetime.specs.Datetime.{digit_run}

one_more : (n : ℕ) → 1 + n ≡ suc n
one_more n = omega arith

run_prefix : (s : List ℕ) → prefix_len is_digit s ≡ digit_run s
unfolding digit_run
run_prefix [] = refl
run_prefix (b ∷ s) = rw (run_prefix s, one_more (digit_run s)) refl

-- a row is as long as the front of the text that the library takes while its bytes are digits
pub run_is : (s : List ℕ) → length (take (prefix_len is_digit s) s) ≡ digit_run s
run_is s = length-prefix_len is_digit s ∙ run_prefix s

pub run_digits : (s : List ℕ) (j : ℕ) → j < digit_run s → T (is_digit (get_or s j 0))
run_digits s j h = let e = prefix_len_passes is_digit s j 0 (omega (arith, run_prefix s)) in rw e tt

-- five bytes stand from a place on
pub five_there : (t : Bool) (at n : ℕ) → leb 5 (n - at) ≡ t → leb (at + 5) n ≡ t
five_there true at n e = le-leb (at + 5) n (omega (arith, leb-true 5 (n - at) e))
five_there false at n e = lt-leb (at + 5) n (omega (arith, leb-false 5 (n - at) e))
