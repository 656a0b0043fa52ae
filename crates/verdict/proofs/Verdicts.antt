-- Laws of a verdict's bytes: how many there are, and what is read back from them. Whoever reads verdicts knows them by these.
use Prim.Native.Nat.{ℕ, ◌^◌, ◌≤◌, ◌<◌}
use mathlib.Core.Path.{◌≡◌, refl, ◌∙◌}
use mathlib.Core.Bool.{Bool, true, false, cond}
use mathlib.Core.List.{List, ◌++◌}
use native.Mathlib.Omega.{arith}
use lib.Dec.{ltb}
use lib.ListN.{length, get_or, length-append, get_or-append}
use borrow.Author.Tests.{le-ltb}
use Rattle.answer.specs.Table.{place_of, value_of}
use Rattle.answer.specs.Result.{Answer}
use Rattle.record.specs.Number.{little_at, Bytes}
use Rattle.record.proofs.Numbers.{number_append, number-most, read_back}
use Rattle.verdict.specs.Verdict.{verdict_size, answer_bytes, verdict, read_verdict, saying}
use Rattle.verdict.specs.declared.Verdict.{Verdict}

pub length_verdict : (kind offset : ℕ) (a : Answer) → length (verdict kind offset a) ≡ verdict_size
unfolding verdict answer_bytes
length_verdict kind offset a = refl

-- the numbers of a whole verdict, at their places
abbrev at : List ℕ → Verdict
at v = record { offset = little_at v 4 8; kind = little_at v 2 2; answer = get_or v 12 0; place = little_at v 14 2; number = little_at v 16 8 }

read_whole : (v : List ℕ) → verdict_size ≤ length v → read_verdict v ≡ at v
unfolding read_verdict
read_whole v h = simp (le-ltb (length v) verdict_size h)

-- bytes that follow a verdict do not change it
pub read-front : (v more : List ℕ) → verdict_size ≤ length v → read_verdict (v ++ more) ≡ read_verdict v
read-front v more h =
    rw (read_whole v h, read_whole (v ++ more) (omega (arith, length-append v more)))
    (rw (
      number_append v more 4 8 (omega arith),
      number_append v more 2 2 (omega arith),
      get_or-append v more 0 12 (omega arith),
      number_append v more 14 2 (omega arith),
      number_append v more 16 8 (omega arith),
    ))

-- the greatest numbers that a verdict can hold
pub record Most (v : Verdict) : Type 0 where
  pub offset : v.offset < 2 ^ 64
  pub kind : v.kind < 2 ^ 16
  pub answer : v.answer < 2 ^ 8
  pub place : v.place < 2 ^ 16
  pub number : v.number < 2 ^ 64

pub read-most : (v : List ℕ) → Bytes v → Most (read_verdict v)
unfolding read_verdict
read-most v b = go (ltb (length v) verdict_size)
  where
    go : (t : Bool) → Most (cond t (record { offset = 0; kind = 0; answer = 0; place = 0; number = 0 }) (at v))
    go true = record { offset = omega arith; kind = omega arith; answer = omega arith; place = omega arith; number = omega arith }
    go false =
        record {
          offset = number-most v b 4 8;
          kind = number-most v b 2 2;
          answer = b 12;
          place = number-most v b 14 2;
          number = number-most v b 16 8;
        }

-- what was written is read back: nothing is lost of numbers that the bytes hold
pub read-verdict : (kind offset : ℕ) (a : Answer) (more : List ℕ) → kind < 2 ^ 16 → offset < 2 ^ 64 → place_of a < 2 ^ 16 → value_of a < 2 ^ 64
    → read_verdict (verdict kind offset a ++ more) ≡ saying kind offset a
unfolding verdict answer_bytes
read-verdict kind offset a more f g p n =
    read_whole (verdict kind offset a ++ more) (omega arith)
    ∙ rw (read_back 8 offset g, read_back 2 kind f, read_back 2 (place_of a) p, read_back 8 (value_of a) n)

-- the offset by itself, whatever the other numbers are
pub read-offset : (kind offset : ℕ) (a : Answer) (more : List ℕ) → offset < 2 ^ 64 → (read_verdict (verdict kind offset a ++ more)).offset ≡ offset
unfolding verdict answer_bytes
read-offset kind offset a more h = rw (read_whole (verdict kind offset a ++ more) (omega arith)) (read_back 8 offset h)
