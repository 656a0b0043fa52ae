-- Laws of the tests on numbers, and of tables of ranges.
use Prim.Native.Nat.{ℕ, ◌≤◌}
use mathlib.Core.Path.{◌≡◌, refl, subst}
use mathlib.Core.Bool.{Bool, true, false, ◌&&◌, ◌||◌, cond}
use mathlib.Core.List.{List, [], ◌∷◌}
use mathlib.Core.Logic.{◌⊎◌, inl, inr, ⊎_elim}
use native.Mathlib.Omega.{arith}
use lib.Dec.{T, leb, ltb, eqb, leb→le, le→leb, ltb→lt, eqb→eq}
use types.Run.{OneOf}
use Rattle.text.specs.Ranges.{within, Span, find}

pub is_true : (b : Bool) → T b → b ≡ true
is_true true t = refl
is_true false t = absurd t

pub is_false : (b : Bool) → (T b → ⊥) → b ≡ false
is_false true n = absurd (n tt)
is_false false n = refl

pub both_parts : (a b : Bool) → T (a && b) → T a × T b
both_parts true b t = (tt, t)
both_parts false b t = absurd t

pub both_of : (a b : Bool) → T a → T b → T (a && b)
both_of true b t u = u
both_of false b t u = t

pub either_parts : (a b : Bool) → T (a || b) → T a ⊎ T b
either_parts true b t = inl tt
either_parts false b t = inr t

pub within_yes : (lo hi x : ℕ) → lo ≤ x → x ≤ hi → within lo hi x ≡ true
within_yes lo hi x l h = is_true (within lo hi x) (both_of (leb lo x) (leb x hi) (le→leb lo x l) (le→leb x hi h))

pub within-ends : (lo hi x : ℕ) → T (within lo hi x) → (lo ≤ x) × (x ≤ hi)
within-ends lo hi x t = let p = both_parts (leb lo x) (leb x hi) t in (leb→le lo x p.0, leb→le x hi p.1)

-- k is among ks
abbrev among : List ℕ → ℕ → Bool
among [] k = false
among (m ∷ ks) k = eqb k m || among ks k

-- over l to h, less the numbers ks, the row's range is missed
abbrev missed : List ℕ → ℕ → ℕ → ℕ → ℕ → Bool
missed ks l h lo hi = ltb hi l || (ltb h lo || (eqb lo hi && among ks lo))

-- and each row is either missed or holds all of it
abbrev pub even : {A : Type 0} → List ℕ → ℕ → ℕ → List (Span A) → Bool
even ks l h [] = true
even ks l h (r ∷ rs) = (leb r.lo l && leb h r.hi) || (missed ks l h r.lo r.hi && even ks l h rs)

-- what the table says there
abbrev pub on : {A : Type 0} → A → ℕ → ℕ → List (Span A) → A
on d l h [] = d
on d l h (r ∷ rs) = cond (leb r.lo l && leb h r.hi) r.is (on d l h rs)

among_one : (ks : List ℕ) (k : ℕ) → T (among ks k) → OneOf ks k
among_one [] k t = t
among_one (m ∷ []) k t = ⊎_elim (λ u. eqb→eq k m u) (λ u. absurd u) (either_parts (eqb k m) false t)
among_one (m ∷ n ∷ ks) k t = ⊎_elim (λ u. inl (eqb→eq k m u)) (λ u. inr (among_one (n ∷ ks) k u)) (either_parts (eqb k m) (among (n ∷ ks) k) t)

module _ (ks : List ℕ) (l h x : ℕ) (not_key : OneOf ks x → ⊥) (from : l ≤ x) (to : x ≤ h) where
  misses : (lo hi : ℕ) → T (missed ks l h lo hi) → T (within lo hi x) → ⊥
  misses lo hi m w =
      let e = within-ends lo hi x w in
      ⊎_elim (λ u. omega (arith, ltb→lt hi l u))
      (λ u. ⊎_elim (λ v. omega (arith, ltb→lt h lo v))
      (λ v. let p = both_parts (eqb lo hi) (among ks lo) v in
      let same : lo ≡ x = omega (arith, eqb→eq lo hi p.0) in
      not_key (subst (OneOf ks) same (among_one ks lo p.1)))
      (either_parts (ltb h lo) (eqb lo hi && among ks lo) u))
      (either_parts (ltb hi l) (ltb h lo || (eqb lo hi && among ks lo)) m)

  holds : (lo hi : ℕ) → T (leb lo l && leb h hi) → within lo hi x ≡ true
  holds lo hi t =
      let p = both_parts (leb lo l) (leb h hi) t in
      within_yes lo hi x (omega (arith, leb→le lo l p.0)) (omega (arith, leb→le h hi p.1))

  row_step : {A : Type 0} (lo hi : ℕ) (v a b : A) (u : Bool) (all : Bool) → (T all → T (leb lo l && leb h hi)) → T (all || (missed ks l h lo hi && u))
      → (T u → a ≡ b) → cond (within lo hi x) v a ≡ cond all v b
  row_step lo hi v a b u true f t ih = rw (holds lo hi (f tt))
  row_step lo hi v a b u false f t ih =
      let p = both_parts (missed ks l h lo hi) u t in
      rw (is_false (within lo hi x) (misses lo hi p.0)) (ih p.1)

  -- A table says one thing over a range that none of its rows splits, less the numbers ks.
  pub evenly : {A : Type 0} (d : A) (rs : List (Span A)) → T (even ks l h rs) → find d rs x ≡ on d l h rs
  evenly d [] t = refl
  evenly d (r ∷ rs) t =
      row_step r.lo r.hi r.is (find d rs x) (on d l h rs) (even ks l h rs) (leb r.lo l && leb h r.hi) (λ u. u) t (evenly d rs)

abbrev pub every : (ℕ → Bool) → List ℕ → Bool
every f [] = true
every f (k ∷ ks) = f k && every f ks

-- What holds of each key holds of one of them.
pub of_keys : (f : ℕ → Bool) (ks : List ℕ) (x : ℕ) → T (every f ks) → OneOf ks x → f x ≡ true
of_keys f [] x t o = absurd o
of_keys f (k ∷ []) x t o = rw o (is_true (f k) (both_parts (f k) true t).0)
of_keys f (k ∷ m ∷ ks) x t o =
    let p = both_parts (f k) (every f (m ∷ ks)) t in
    ⊎_elim (λ e. rw e (is_true (f k) p.0)) (λ u. of_keys f (m ∷ ks) x p.1 u) o

picked : {A : Type 0} (f : A → Bool) (t : Bool) (a b : A) → T (f a) → T (f b) → T (f (cond t a b))
picked f true a b p q = p
picked f false a b p q = q

abbrev pub all_rows : {A : Type 0} → (A → Bool) → List (Span A) → Bool
all_rows f [] = true
all_rows f (r ∷ rs) = f r.is && all_rows f rs

-- What holds of each row's value, and of the default, holds of what is found.
pub find-all : {A : Type 0} (f : A → Bool) (d : A) (rs : List (Span A)) (x : ℕ) → T (f d) → T (all_rows f rs) → T (f (find d rs x))
find-all f d [] x t u = t
find-all f d (r ∷ rs) x t u =
    let p = both_parts (f r.is) (all_rows f rs) u in
    picked f (within r.lo r.hi x) r.is (find d rs x) p.0 (find-all f d rs x t p.1)
