-- The sum and its errors for an IBAN, whose first four characters stand at the end: a place of the text is a place of the rearranged text.
use mathlib.Core.Path.{◌≡◌, refl, sym, ◌∙◌, ap}
use mathlib.Core.Logic.{◌≢◌}
use mathlib.Core.List.{List, [], ◌∷◌, ◌++◌}
use Prim.Native.Nat.{ℕ, zero, suc, ◌+◌, ◌<◌, ◌≤◌, ◌-◌}
use native.Mathlib.Nat.{zero-add, suc-add, le_of_suc-le-suc, le_of_eq, not-suc-le-zero}
use native.Mathlib.Omega.{arith}
use native.Mathlib.Decide.{dec_lt}
use lib.ListN.{length, take, drop, set, get_or, length-append, length-take, length-drop, length-set, get_or-append}
use lib.Seq.{
  take_all,
  drop-nil,
  take-set-lt,
  take-set-le,
  drop-set-lt,
  drop-set-add,
  set-append_left,
  get_or-take,
  get_or-drop,
  get_or-append-add,
}
use Rattle.checkdigit.specs.Sum.{continued, exchanged, remainder_of, rearranged, iban_remainder}
use Rattle.checkdigit.proofs.Digits.{remainder_low, continued-append, from_nothing}
use Rattle.checkdigit.proofs.Letters.{Kin}
use Rattle.checkdigit.proofs.Errors.{replaced_at, exchanged-at}

pub iban_low : (t : List ℕ) → iban_remainder t < 97
unfolding iban_remainder
iban_low t = remainder_low (rearranged t)

pub length-rearranged : (t : List ℕ) → length (rearranged t) ≡ length t
unfolding rearranged
length-rearranged t = simp (length-append, length-drop, length-take) (omega arith)

drop_all : (n : ℕ) (l : List ℕ) → length l ≤ n → drop n l ≡ []
drop_all n [] h = drop-nil n
drop_all zero (a ∷ l) h = absurd (not-suc-le-zero h)
drop_all (suc n) (a ∷ l) h = drop_all n l (le_of_suc-le-suc h)

-- a text of fewer than four characters stays as it is
pub short_stays : (t : List ℕ) → length t < 4 → rearranged t ≡ t
unfolding rearranged
short_stays t h = rw (drop_all 4 t (omega arith), take_all 4 t (omega arith))

pub short_sum : (t : List ℕ) → length t < 4 → remainder_of t ≡ iban_remainder t
unfolding iban_remainder
short_sum t h = ap remainder_of (sym (short_stays t h))

-- the rest of the text first, and then its first four characters
pub moved_sum : (r : ℕ) (t : List ℕ) → r ≡ continued 0 (take (length t - 4) (drop 4 t)) → continued r (take 4 t) ≡ iban_remainder t
unfolding iban_remainder rearranged
moved_sum r t p =
    ap (λ (n : ℕ). continued n (take 4 t)) (p ∙ ap (continued 0) (take_all (length t - 4) (drop 4 t) (le_of_eq (length-drop 4 t))))
    ∙ continued-append 0 (drop 4 t) (take 4 t)
    ∙ from_nothing (drop 4 t ++ take 4 t)

set-append-add : (xs ys : List ℕ) (i c : ℕ) → set (xs ++ ys) (length xs + i) c ≡ xs ++ set ys i c
set-append-add [] ys i c = rw zero-add
set-append-add (x ∷ xs) ys i c = rw suc-add (ap (λ (l : List ℕ). x ∷ l) (set-append-add xs ys i c))

-- where place i of a text of n characters goes
record Moved (n i : ℕ) : Type 0 where
  to : ℕ
  below : to < n
  sets : (u : List ℕ) → length u ≡ n → (c : ℕ) → rearranged (set u i c) ≡ set (rearranged u) to c
  gets : (u : List ℕ) → length u ≡ n → get_or (rearranged u) to 0 ≡ get_or u i 0

rest : (u : List ℕ) (n : ℕ) → length u ≡ n → length (drop 4 u) ≡ n - 4
rest u n e = length-drop 4 u ∙ ap (λ (x : ℕ). x - 4) e

to_end : (n i : ℕ) → 4 ≤ n → i < 4 → Moved n i
unfolding rearranged
to_end n i h l =
    record {
      to = n - 4 + i;
      below = omega arith;
      sets = λ u e c.
          rw (drop-set-lt 4 u i c l, take-set-lt 4 u i c l, ← rest u n e) (sym (set-append-add (drop 4 u) (take 4 u) i c));
      gets = λ u e. rw (← rest u n e) (get_or-append-add (drop 4 u) (take 4 u) i 0 ∙ get_or-take 4 u i 0 l);
    }

to_front : (n i : ℕ) → 4 ≤ i → i < n → Moved n i
unfolding rearranged
to_front n i l k =
    let q : 4 + (i - 4) ≡ i = omega arith in
    record {
      to = i - 4;
      below = omega arith;
      sets = λ u e c.
          rw (rw q at (drop-set-add 4 u (i - 4) c), take-set-le 4 u i c l)
          (sym (set-append_left (drop 4 u) (take 4 u) (i - 4) c (omega (arith, rest u n e))));
      gets = λ u e.
          get_or-append (drop 4 u) (take 4 u) 0 (i - 4) (omega (arith, rest u n e))
          ∙ get_or-drop 4 u (i - 4) 0 ∙ ap (λ (x : ℕ). get_or u x 0) q;
    }

stays : (n i : ℕ) → n < 4 → i < n → Moved n i
stays n i h k =
    record {
      to = i;
      below = k;
      sets = λ u e c.
          short_stays (set u i c) (omega (arith, length-set u i c)) ∙ ap (λ (v : List ℕ). set v i c) (sym (short_stays u (omega arith)));
      gets = λ u e. ap (λ (v : List ℕ). get_or v i 0) (short_stays u (omega arith));
    }

moved : (n i : ℕ) → i < n → Moved n i
moved n i k = by (dec_lt n 4) (dec_lt i 4)
  where
    by : Dec (n < 4) → Dec (i < 4) → Moved n i
    by (yes h) _ = stays n i h k
    by (no h) (yes l) = to_end n i (omega arith) l
    by (no h) (no l) = to_front n i (omega arith) k

pub iban_replaced_at : (t : List ℕ) (i c : ℕ) → i < length t → Kin (get_or t i 0) c → iban_remainder (set t i c) ≢ iban_remainder t
unfolding iban_remainder
iban_replaced_at t i c l k e =
    let m = moved (length t) i l in
    let g = m.gets t refl in
    replaced_at (rearranged t) m.to c (rw (length-rearranged t) m.below) (rw g k) (ap remainder_of (sym (m.sets t refl c)) ∙ e)

pub iban_exchanged_at : (t : List ℕ) (i j : ℕ) → i < length t → j < length t → length t ≤ 48 → Kin (get_or t i 0) (get_or t j 0)
    → iban_remainder (exchanged t i j) ≢ iban_remainder t
unfolding iban_remainder
iban_exchanged_at t i j l r w k e =
    let m = moved (length t) i l in
    let o = moved (length t) j r in
    let a = m.gets t refl in
    let b = o.gets t refl in
    let s : rearranged (exchanged t i j) ≡ exchanged (rearranged t) m.to o.to =
    rw (a, b) (o.sets (set t i (get_or t j 0)) (length-set t i (get_or t j 0)) (get_or t i 0) ∙ ap (λ (u : List ℕ). set u o.to (get_or t i 0)) (m.sets t refl (get_or t j 0))) in
    exchanged-at (rearranged t) m.to o.to (rw (length-rearranged t) m.below) (rw (length-rearranged t) o.below) (omega (arith, length-rearranged t))
    (rw (a, b) k) (ap remainder_of (sym s) ∙ e)
