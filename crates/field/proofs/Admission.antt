-- Laws of the admission of a field, for callers.
use Prim.Native.Nat.{ℕ, ◌≤◌}
use mathlib.Core.Path.{◌≡◌, refl}
use mathlib.Core.Bool.{Bool, true, false, ◌||◌}
use mathlib.Core.List.{List}
use borrow.Author.Tests.{le-leb, eq-eqb}
use lib.Dec.{T, leb, eqb}
use lib.ListN.{length}
use Rattle.answer.specs.Steps.{must, ◌and_then◌}
use Rattle.answer.specs.declared.Reason.TheVariants.{NotUtf8, TooLong, UnknownKind}
use Rattle.answer.specs.Result.{Step, Pass, Stop}
use Rattle.text.proofs.Ranges.{is_true}
use Rattle.utf8.specs.Chars.{valid_prefix}
use Rattle.field.specs.Field.{field_limit, known, exempt, unknown_step, admission}

-- A field of a known kind that is within the limit and UTF-8 is admitted. Of a kind that the table lists, as 1, T (known 1) is shown by tt.
pub admitted : (n : ℕ) (s : List ℕ) → T (known n) → length s ≤ field_limit → valid_prefix s ≡ length s → admission n s ≡ Pass
unfolding admission ◌and_then◌
admitted n s k fits e = rw (is_true (known n) k, le-leb (length s) field_limit fits, eq-eqb _ _ e) (go (exempt n))
  where
    go : (b : Bool) → must (b || true) (NotUtf8 (valid_prefix s)) 3 ≡ Pass
    go true = refl
    go false = refl

-- An admission passes, or stops for one of its three reasons.
pub admission_cases : (P : Step → Type 0) (n : ℕ) (s : List ℕ)
    → P Pass → P (unknown_step n) → P (Stop (TooLong (length s)) 2) → P (Stop (NotUtf8 (valid_prefix s)) 3) → P (admission n s)
unfolding admission ◌and_then◌
admission_cases P n s p u l v = go (known n) (leb (length s) field_limit) (exempt n || eqb (valid_prefix s) (length s))
  where
    go : (a b c : Bool) → P (must a (UnknownKind n) 1 and_then must b (TooLong (length s)) 2 and_then must c (NotUtf8 (valid_prefix s)) 3)
    go false b c = u
    go true false c = l
    go true true false = v
    go true true true = p
