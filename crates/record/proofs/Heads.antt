-- What a record's head says of the bytes, case by case, and back: with these two laws nothing else has to unfold `head_of`.
use Prim.Native.Nat.{ℕ, ◌+◌, ◌≤◌, ◌<◌}
use mathlib.Core.Path.{◌≡◌, refl, sym, subst, ◌∙◌}
use mathlib.Core.Bool.{Bool, true, false, cond}
use mathlib.Core.List.{List, ◌++◌}
use native.Mathlib.Omega.{arith}
use lib.Dec.{ltb, eqb}
use lib.ListN.{length, take, drop, length-append, length-take, length-drop}
use lib.Seq.{take-append-le, drop-append-le, length-take-le}
use borrow.Author.Tests.{ltb-true, ltb-false, lt-ltb, le-ltb, eqb-true, eqb-false, eq-eqb, ne_eqb}
use Rattle.record.specs.Number.{little_at}
use Rattle.std.specs.Prelude.{Result, Ok, Err}
use Rattle.record.specs.Head.{head_limit, Record, head_of}
use Rattle.record.specs.Records.{record_at}
use Rattle.record.specs.declared.Head.{Head}
use Rattle.record.specs.declared.NoRecord.{NoRecord}
use Rattle.record.specs.declared.NoRecord.TheVariants.{End, Short, TooLong, CutShort}
use Rattle.record.proofs.Numbers.{number_append, number-take}

-- what a whole record at the start of a batch has
pub record Whole (s : List ℕ) (k n : ℕ) : Type 0 where
  pub kind : k ≡ little_at s 2 2
  pub is : n ≡ little_at s 0 2
  pub legal : n ≤ head_limit
  pub fits : 4 + n ≤ length s

-- what each head says of the bytes at whose start it stands
abbrev pub Says : List ℕ → Result Head NoRecord → Type 0
Says s (Err End) = length s ≡ 0
Says s (Err Short) = (0 < length s) × (length s < 4)
Says s (Err TooLong) = (4 ≤ length s) × (head_limit < little_at s 0 2)
Says s (Err CutShort) = (4 ≤ length s) × (little_at s 0 2 ≤ head_limit) × (length s < 4 + little_at s 0 2)
Says s (Ok h) = Whole s h.kind h.length

here : (s : List ℕ) → Says s (head_of s)
unfolding head_of
here s = go (eqb (length s) 0) refl (ltb (length s) 4) refl (ltb head_limit (little_at s 0 2)) refl (ltb (length s) (4 + little_at s 0 2)) refl
  where
    go : (b1 : Bool) → eqb (length s) 0 ≡ b1 → (b2 : Bool) → ltb (length s) 4 ≡ b2 → (b3 : Bool) → ltb head_limit (little_at s 0 2) ≡ b3
        → (b4 : Bool) → ltb (length s) (4 + little_at s 0 2) ≡ b4
        → Says s (cond b1 (Err End) (cond b2 (Err Short) (cond b3 (Err TooLong) (cond b4 (Err CutShort) (Record (little_at s 2 2) (little_at s 0 2))))))
    go true e1 b2 e2 b3 e3 b4 e4 = eqb-true _ _ e1
    go false e1 true e2 b3 e3 b4 e4 = let f = eqb-false (length s) 0 e1 in (omega arith, ltb-true _ _ e2)
    go false e1 false e2 true e3 b4 e4 = (ltb-false _ _ e2, ltb-true _ _ e3)
    go false e1 false e2 false e3 true e4 = (ltb-false _ _ e2, ltb-false _ _ e3, ltb-true _ _ e4)
    go false e1 false e2 false e3 false e4 =
        record { kind = refl; is = refl; legal = ltb-false _ _ e3; fits = ltb-false _ _ e4 }

pub says : (s : List ℕ) (h : Result Head NoRecord) → head_of s ≡ h → Says s h
says s h e = subst (Says s) e (here s)

-- and back
pub head_is : (s : List ℕ) (h : Result Head NoRecord) → Says s h → head_of s ≡ h
unfolding head_of
head_is s (Err End) w = simp (eq-eqb (length s) 0 w)
head_is s (Err Short) w = simp (ne_eqb (length s) 0 (λ z. omega (arith, w.0)), lt-ltb (length s) 4 w.1)
head_is s (Err TooLong) w =
    simp (ne_eqb (length s) 0 (λ z. omega (arith, w.0)), le-ltb (length s) 4 w.0, lt-ltb head_limit (little_at s 0 2) w.1)
head_is s (Err CutShort) w =
    simp (
      ne_eqb (length s) 0 (λ z. omega (arith, w.0)),
      le-ltb (length s) 4 w.0,
      le-ltb head_limit (little_at s 0 2) w.1,
      lt-ltb (length s) (4 + little_at s 0 2) w.2,
    )
head_is s (Ok h) w =
    simp (
      ne_eqb (length s) 0 (λ z. omega (arith, w.fits)),
      le-ltb (length s) 4 (omega (arith, w.fits)),
      le-ltb head_limit (little_at s 0 2) (omega (arith, w.is, w.legal)),
      le-ltb (length s) (4 + little_at s 0 2) (omega (arith, w.is, w.fits)),
      ← w.kind,
      ← w.is,
    )

-- whether a whole record stands there
abbrev pub stands : Result Head NoRecord → Bool
stands (Err e) = false
stands (Ok h) = true

pub whole : (s : List ℕ) (k n : ℕ) → head_of s ≡ Record k n → Whole s k n
whole s k n e = says s (Record k n) e

-- its value is as long as the head says
pub value_long : (s : List ℕ) (o k n : ℕ) → head_of s ≡ Record k n → length (record_at s o k n).value ≡ n
value_long s o k n e = length-take-le n (drop 4 s) (omega (arith, (whole s k n e).fits, length-drop 4 s))

-- a length above the limit is one whatever bytes follow
pub long_on : (s more : List ℕ) → head_of s ≡ Err TooLong → head_of (s ++ more) ≡ Err TooLong
long_on s more e =
    let w = says s (Err TooLong) e in
    head_is (s ++ more) (Err TooLong) (omega (arith, w.0, length-append s more), rw (number_append s more 0 2 (omega (arith, w.0))) w.1)

-- a whole record is one and the same whatever bytes follow
module _ (s more : List ℕ) (k n : ℕ) (e : head_of s ≡ Record k n) where
  w : Whole s k n
  w = whole s k n e

  pub longer : head_of (s ++ more) ≡ Record k n
  longer =
      head_is (s ++ more) (Record k n)
      (record {
        kind = w.kind ∙ sym (number_append s more 2 2 (omega (arith, w.fits)));
        is = w.is ∙ sym (number_append s more 0 2 (omega (arith, w.fits)));
        legal = w.legal;
        fits = omega (arith, w.fits, length-append s more);
      })

  pub same_record : (o : ℕ) → record_at (s ++ more) o k n ≡ record_at s o k n
  same_record o =
      rw (drop-append-le 4 s more (omega (arith, w.fits)), take-append-le n (drop 4 s) more (omega (arith, w.fits, length-drop 4 s)))

  pub same_rest : drop (4 + n) (s ++ more) ≡ drop (4 + n) s ++ more
  same_rest = drop-append-le (4 + n) s more w.fits

-- and in a part of the bytes that holds it
module _ (s : List ℕ) (k n m : ℕ) (e : head_of s ≡ Record k n) (h : 4 + n ≤ m) where
  pub shorter : head_of (take m s) ≡ Record k n
  shorter =
      let w = whole s k n e in
      let l : 4 + n ≤ length (take m s) = simp length-take (omega (arith, w.fits)) in
      head_is (take m s) (Record k n)
      (record {
        kind = w.kind ∙ sym (number-take s m 2 2 (omega arith));
        is = w.is ∙ sym (number-take s m 0 2 (omega arith));
        legal = w.legal;
        fits = l;
      })
