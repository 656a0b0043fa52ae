-- Errors that the remainder catches, once over the place and the length, as facts of Place: one character replaced by a kin, two kin
-- exchanged.
use mathlib.Core.Path.{◌≡◌, sym, ◌∙◌, ap}
use mathlib.Core.Logic.{◌≢◌}
use mathlib.Core.List.{List, [], ◌∷◌, ◌++◌}
use Prim.Native.Nat.{ℕ, zero, suc, ◌+◌, ◌*◌, ◌^◌, ◌<◌, ◌≤◌}
use native.Mathlib.Nat.{le_of_suc-le-suc, not-suc-le-zero}
use native.Mathlib.Omega.{arith}
use native.Mathlib.Decide.{dec_lt}
use lib.Pow.{pow-add}
use lib.ListN.{length, take, drop, set, get_or, length-append}
use lib.Seq.{split_at, set_split, set-get_or, set_comm}
use Rattle.checkdigit.specs.Sum.{character_value, number, remainder_of, exchanged}
use Rattle.checkdigit.proofs.Digits.{width, count, number_append, number-cons, width-append, width-cons, width-most, count_ends}
use Rattle.checkdigit.proofs.Letters.{Kin}
use Rattle.checkdigit.proofs.Place.{place, swap}

-- one place
one : (p s : List ℕ) (a : ℕ) → number (p ++ a ∷ s) ≡ character_value a * 10 ^ width s + (number s + number p * 10 ^ (count a + width s))
one p s a = rw (number_append p (a ∷ s), number-cons, width-cons) (omega arith)

replaced : (p s : List ℕ) (a b : ℕ) → Kin a b → remainder_of (p ++ a ∷ s) ≢ remainder_of (p ++ b ∷ s)
unfolding remainder_of
replaced p s a b k e =
    k.apart
    (place (width s) (character_value a) (character_value b) (number s + number p * 10 ^ (count b + width s)) k.low k.low'
    (rw (one p s a, one p s b, k.digits) at e))

-- two places
two : (p m s : List ℕ) (a b : ℕ) → number (p ++ (a ∷ (m ++ (b ∷ s))))
    ≡ (character_value a * 10 ^ (width m + count b) + character_value b) * 10 ^ width s
    + (number s + number m * 10 ^ (count b + width s) + number p * 10 ^ (count a + (width m + (count b + width s))))
two p m s a b =
    rw (
      number_append p (a ∷ (m ++ (b ∷ s))),
      number-cons a (m ++ (b ∷ s)),
      width-cons a (m ++ (b ∷ s)),
      number_append m (b ∷ s),
      width-append m (b ∷ s),
      number-cons b s,
      width-cons b s,
      pow-add 10 (width m) (count b + width s),
      pow-add 10 (width m) (count b),
      pow-add 10 (count b) (width s),
    )
    (omega arith)

swapped : (p m s : List ℕ) (a b : ℕ) → Kin a b → width m + count b ≤ 95
    → remainder_of (p ++ (a ∷ (m ++ (b ∷ s)))) ≢ remainder_of (p ++ (b ∷ (m ++ (a ∷ s))))
unfolding remainder_of
swapped p m s a b k w e =
    k.apart
    (swap (width m + count b) (width s) (character_value a) (character_value b)
    (number s + number m * 10 ^ (count b + width s) + number p * 10 ^ (count b + (width m + (count b + width s))))
    (omega (arith, (count_ends b).0)) w k.low k.low'
    (rw (two p m s a b, two p m s b a, k.digits) at e))

-- a text taken apart at two places, whatever stands there
record Apart (t : List ℕ) (i j : ℕ) : Type 0 where
  before : List ℕ
  between : List ℕ
  behind : List ℕ
  is : (x y : ℕ) → set (set t i x) j y ≡ before ++ (x ∷ (between ++ (y ∷ behind)))

apart : (t : List ℕ) (i j : ℕ) → i < j → j < length t → Apart t i j
apart [] i j h k = absurd (not-suc-le-zero k)
apart (c ∷ t) zero zero h k = absurd (not-suc-le-zero h)
apart (c ∷ t) zero (suc j) h k =
    record { before = []; between = take j t; behind = drop (suc j) t; is = λ x y. ap (λ (l : List ℕ). x ∷ l) (set_split t j y (le_of_suc-le-suc k)) }
apart (c ∷ t) (suc i) zero h k = absurd (not-suc-le-zero h)
apart (c ∷ t) (suc i) (suc j) h k =
    let r = apart t i j (le_of_suc-le-suc h) (le_of_suc-le-suc k) in
    record { before = c ∷ r.before; between = r.between; behind = r.behind; is = λ x y. ap (λ (l : List ℕ). c ∷ l) (r.is x y) }

-- in a text of at most 48 characters two places are at most 95 digits apart
near : (p m s : List ℕ) (a b : ℕ) → length (p ++ (a ∷ (m ++ (b ∷ s)))) ≤ 48 → width m + count b ≤ 95
near p m s a b h = omega (arith, width-most m, (count_ends b).1, simp length-append at h)

-- one character replaced
pub replaced_at : (t : List ℕ) (i c : ℕ) → i < length t → Kin (get_or t i 0) c → remainder_of (set t i c) ≢ remainder_of t
replaced_at t i c h k e =
    replaced (take i t) (drop (suc i) t) (get_or t i 0) c k
    (ap remainder_of (sym (split_at t i 0 h)) ∙ sym e ∙ ap remainder_of (set_split t i c h))

exchanged_lt : (t : List ℕ) (i j : ℕ) → i < j → j < length t → length t ≤ 48 → Kin (get_or t i 0) (get_or t j 0)
    → remainder_of (exchanged t i j) ≢ remainder_of t
exchanged_lt t i j h l w k e =
    let a = get_or t i 0 in
    let b = get_or t j 0 in
    let r = apart t i j h l in
    let here : t ≡ r.before ++ (a ∷ (r.between ++ (b ∷ r.behind))) =
    sym (ap (λ (u : List ℕ). set u j b) (set-get_or t i 0) ∙ set-get_or t j 0) ∙ r.is a b in
    swapped r.before r.between r.behind a b k (near r.before r.between r.behind a b (rw (← here) w))
    (ap remainder_of (sym here) ∙ sym e ∙ ap remainder_of (r.is b a))

kin_sym : {a b : ℕ} → Kin a b → Kin b a
kin_sym k = record { digits = sym k.digits; low = k.low'; low' = k.low; apart = λ e. k.apart (sym e) }

-- two characters exchanged
pub exchanged-at : (t : List ℕ) (i j : ℕ) → i < length t → j < length t → length t ≤ 48 → Kin (get_or t i 0) (get_or t j 0)
    → remainder_of (exchanged t i j) ≢ remainder_of t
exchanged-at t i j h l w k e = by (dec_lt i j) (dec_lt j i)
  where
    by : Dec (i < j) → Dec (j < i) → ⊥
    by (yes q) _ = exchanged_lt t i j q l w k e
    by (no q) (yes r) =
        exchanged_lt t j i r h w (kin_sym k) (ap remainder_of (set_comm t j i (get_or t i 0) (get_or t j 0) (λ (p : j ≡ i). omega arith)) ∙ e)
    by (no q) (no r) = k.apart (ap (λ (m : ℕ). character_value (get_or t m 0)) (omega arith))
