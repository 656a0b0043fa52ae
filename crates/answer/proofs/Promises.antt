-- Equal numbers mean equal answers: nothing that an answer says is lost in SCOPE's table and the check number.
use Prim.Native.Nat.{ℕ}
use mathlib.Core.Path.{◌≡◌, refl, sym, ap, ◌∙◌}
use lib.Dec.{eqb}
use mathlib.Core.Bool.{cond}
use Rattle.answer.specs.Table.{row_of, numbers_of, check_of}
use Rattle.std.specs.Prelude.{Err}
use Rattle.answer.specs.declared.Numbers.{Numbers}
use Rattle.answer.specs.declared.Reason.{Reason}
use Rattle.answer.specs.declared.Reason.TheVariants.{NotUtf8, Length, Wrong, Range, Remainder, NotListed, NotPositive, Missing, TooLarge, Trailing, TooLong, UnknownKind, NoSheet, NoPlace, Unfit}
use Rattle.answer.specs.Result.{Answer, Accepted, Refused}

-- the reason that a line of the table is the line of
reason_of : Numbers → Reason
reason_of l =
    cond (eqb l.number 1) (NotUtf8 l.place)
    (cond (eqb l.number 2) (Length l.place l.value)
    (cond (eqb l.number 3) (Wrong l.place)
    (cond (eqb l.number 4) (Range l.place l.value)
    (cond (eqb l.number 5) (Remainder l.value)
    (cond (eqb l.number 6) NotListed
    (cond (eqb l.number 7) NotPositive
    (cond (eqb l.number 8) (Missing l.place)
    (cond (eqb l.number 9) TooLarge
    (cond (eqb l.number 10) (Trailing l.place)
    (cond (eqb l.number 11) (TooLong l.value)
    (cond (eqb l.number 12) (UnknownKind l.value)
    (cond (eqb l.number 20) NoSheet
    (cond (eqb l.number 21) (NoPlace l.value)
    (Unfit l.place))))))))))))))

answer_of : Numbers → ℕ → Answer
answer_of n k = cond (eqb n.number 0) (Accepted n.value) (Refused (reason_of n) k)

back_at : (r : Reason) (k : ℕ) → answer_of (row_of r) k ≡ Refused r k
unfolding answer_of reason_of
back_at (NotUtf8 p) k = refl
back_at (Length p n) k = refl
back_at (Wrong p) k = refl
back_at (Range p n) k = refl
back_at (Remainder n) k = refl
back_at NotListed k = refl
back_at NotPositive k = refl
back_at (Missing p) k = refl
back_at TooLarge k = refl
back_at (Trailing p) k = refl
back_at (TooLong n) k = refl
back_at (UnknownKind n) k = refl
back_at NoSheet k = refl
back_at (NoPlace n) k = refl
back_at (Unfit p) k = refl

back : (a : Answer) → answer_of (numbers_of a) (check_of a) ≡ a
unfolding answer_of reason_of
back (Accepted n) = refl
back (Err e) = back_at e.reason e.check

pub equal_numbers : (a b : Answer) → numbers_of a ≡ numbers_of b → check_of a ≡ check_of b → a ≡ b
equal_numbers a b e f = sym (back a) ∙ ap (λ n. answer_of n (check_of a)) e ∙ ap (answer_of (numbers_of b)) f ∙ back b
