-- A number's digits write the number, are the fewest that do, and have no leading zero but for 0 itself; the argument reads them back.
-- A verdict's line shows its offset, its kind and its answer's three numbers.
use Prim.Native.Nat.{ℕ, ◌+◌, ◌/◌, ◌%◌, ◌^◌, ◌≤◌, ◌<◌}
use mathlib.Core.Path.{◌≡◌, ◌∙◌}
use mathlib.Core.List.{List, [], ◌∷◌, ◌++◌}
use native.Mathlib.Omega.{arith}
use lib.Dec.{T}
use lib.ListN.{length, get_or, get_or-append}
use Rattle.std.proofs.Common.{Some}
use Rattle.answer.specs.Table as answer
use Rattle.answer.specs.Result.{Answer}
use Rattle.text.specs.Class.{is_digit}
use Rattle.text.specs.Decimal.{decimal, number_written}
use Rattle.text.proofs.Classes.{is_digit_lem}
use Rattle.text.proofs.Decimals.{number_append, fits}
use Rattle.text.proofs.Near.{Small}
use Rattle.text.proofs.Ranges.{both_parts, both_of}
use Rattle.verdict.specs.Verdict.{verdict, read_verdict, saying}
use Rattle.verdict.proofs.Verdicts.{read-verdict}
use Rattle.report.specs.Digits.{decimal_digits}
use Rattle.report.specs.Offset.{digits_only, offset_of}
use Rattle.report.specs.Text.{numbers_line, verdict_line}
use Rattle.report.proofs.Digits.{small, more, by_tens, least, most}
use Rattle.report.proofs.Arguments.{only_most, given}

one_digit : (d : ℕ) → number_written ((48 + d) ∷ []) ≡ d
unfolding number_written decimal
one_digit d = omega arith

pub reads_back : (x : ℕ) → number_written (decimal_digits x) ≡ x
reads_back =
    by_tens (λ x. number_written (decimal_digits x) ≡ x) (λ x h. rw (small x h) (one_digit x))
    (λ x h i. rw (more x h, number_append (decimal_digits (x / 10)) ((48 + x % 10) ∷ []), i, one_digit (x % 10)) (omega arith))

only_append : (s t : List ℕ) → T (digits_only s) → T (digits_only t) → T (digits_only (s ++ t))
only_append [] t p q = q
only_append (b ∷ s) t p q =
    let r = both_parts (is_digit b) (digits_only s) p in
    both_of (is_digit b) (digits_only (s ++ t)) r.0 (only_append s t r.1 q)

only_one : (d : ℕ) → d < 10 → T (digits_only ((48 + d) ∷ []))
only_one d h = rw (is_digit_lem (48 + d) (omega arith) (omega arith)) tt

pub digits_only_lem : (x : ℕ) → T (digits_only (decimal_digits x))
digits_only_lem =
    by_tens (λ x. T (digits_only (decimal_digits x))) (λ x h. rw (small x h) (only_one x h))
    (λ x h i. rw (more x h) (only_append (decimal_digits (x / 10)) ((48 + x % 10) ∷ []) i (only_one (x % 10) (omega arith))))

-- there is no leading zero but for 0 itself
pub no_zero : (x : ℕ) → 0 < x → 48 < get_or (decimal_digits x) 0 0
no_zero =
    by_tens (λ x. 0 < x → 48 < get_or (decimal_digits x) 0 0) (λ x h p. rw (small x h) (omega arith))
    (λ x h i p. rw (more x h, get_or-append (decimal_digits (x / 10)) ((48 + x % 10) ∷ []) 0 0 (omega (arith, least (x / 10)))) (i (omega arith)))

-- and no digits that write a number are fewer
pub fewest : (t : List ℕ) → T (digits_only t) → 1 ≤ length t → length (decimal_digits (number_written t)) ≤ length t
fewest [] p h = absurd (omega arith)
fewest (b ∷ t) p h = most (length t) (number_written (b ∷ t)) (only_most (b ∷ t) p)

-- the argument that a number's digits are is that number
pub argument : (x : ℕ) → x < 2 ^ 64 → offset_of (decimal_digits x) ≡ Some x
argument x h =
    given (decimal_digits x) (least x) (digits_only_lem x)
    ∙ rw (reads_back x, ← fits x h)

-- the line of a verdict that says these numbers
pub line_reads : (v : List ℕ) (kind offset : ℕ) (a : Answer) → read_verdict v ≡ saying kind offset a
    → verdict_line v ≡ numbers_line (offset ∷ kind ∷ answer.number_of a ∷ answer.place_of a ∷ answer.value_of a ∷ [])
unfolding verdict_line
line_reads v kind offset a e = rw e

pub line_says : (kind offset : ℕ) (a : Answer) (rest : List ℕ) → kind < 2 ^ 16 → offset < 2 ^ 64 → Small a
    → verdict_line (verdict kind offset a ++ rest) ≡ numbers_line (offset ∷ kind ∷ answer.number_of a ∷ answer.place_of a ∷ answer.value_of a ∷ [])
line_says kind offset a rest f g h =
    line_reads (verdict kind offset a ++ rest) kind offset a (read-verdict kind offset a rest f g h.place h.value)
