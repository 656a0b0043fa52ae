-- Laws of the verdicts of records: how many bytes they have, and that they are written one after another.
use Prim.Native.Nat.{◌*◌}
use mathlib.Core.Path.{◌≡◌, refl, sym}
use mathlib.Core.List.{List, [], ◌∷◌, ◌++◌, append_assoc}
use native.Mathlib.Omega.{arith}
use lib.ListN.{length, length-append}
use Rattle.record.specs.Records.{RecordAt}
use Rattle.verdict.specs.Verdict.{verdict_size}
use Rattle.verdict.proofs.Verdicts.{length_verdict}
use Rattle.batch.specs.Verdicts.{verdict_of, verdicts_of}

pub length-verdict_of : (e : RecordAt) → length (verdict_of e) ≡ verdict_size
unfolding verdict_of
length-verdict_of e = length_verdict _ _ _

pub verdicts_of-none : verdicts_of [] ≡ []
unfolding verdicts_of
verdicts_of-none = refl

pub verdicts_of-more : (e : RecordAt) (es : List RecordAt) → verdicts_of (e ∷ es) ≡ verdict_of e ++ verdicts_of es
unfolding verdicts_of
verdicts_of-more e es = refl

pub length-verdicts_of : (es : List RecordAt) → length (verdicts_of es) ≡ verdict_size * length es
unfolding verdicts_of
length-verdicts_of [] = refl
length-verdicts_of (e ∷ es) = omega (arith, length-append (verdict_of e) (verdicts_of es), length-verdict_of e, length-verdicts_of es)

pub verdicts_of-append : (es fs : List RecordAt) → verdicts_of (es ++ fs) ≡ verdicts_of es ++ verdicts_of fs
unfolding verdicts_of
verdicts_of-append [] fs = refl
verdicts_of-append (e ∷ es) fs = rw (verdicts_of-append es fs) (sym (append_assoc (verdict_of e) (verdicts_of es) (verdicts_of fs)))
