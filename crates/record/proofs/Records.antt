-- Laws of the whole records of a batch: they are walked head by head, lie inside it, stand at rising offsets, and go on wherever the walk is cut.
use Prim.Native.Nat.{ℕ, zero, suc, ◌+◌, ◌*◌, ◌≤◌, ◌<◌}
use mathlib.Core.Path.{◌≡◌, refl, ap, subst, ◌∙◌}
use mathlib.Core.Bool.{false}
use mathlib.Core.List.{List, [], ◌∷◌, ◌++◌}
use native.Mathlib.Omega.{arith}
use native.Mathlib.Nat.{add-zero, add_assoc}
use lib.ListN.{length, get_or, take, drop, length-drop}
use lib.Seq.{drop-nil, drop-drop, drop_at, take-add, take-take, length-take-le}
use Rattle.std.specs.Prelude.{Result, Ok, Err}
use Rattle.record.specs.Head.{Record, head_of}
use Rattle.record.specs.Records.{RecordAt, record_at, records_by, records_past, records_of, sizes, offsets_of, Increasing}
use Rattle.record.specs.declared.Head.{Head}
use Rattle.record.specs.declared.NoRecord.{NoRecord}
use Rattle.record.specs.declared.NoRecord.TheVariants.{End}
use Rattle.record.proofs.Heads.{head_is, whole, value_long, longer, same_record, same_rest, shorter, stands}

past : (n : ℕ) (s : List ℕ) (o : ℕ) → records_past n s o ≡ records_of (drop n s) (o + n)
unfolding records_past
past n [] o = rw (drop-nil n)
past zero (b ∷ s) o = rw add-zero
past (suc n) (b ∷ s) o = past n s (suc o) ∙ ap (records_of (drop n s)) (omega arith)

-- the records of a batch: none where none stands at its start, else the first, and those past it
pub nothing : (s : List ℕ) (o : ℕ) → stands (head_of s) ≡ false → records_of s o ≡ []
unfolding records_past
nothing [] o e = refl
nothing (b ∷ s) o e = go (head_of (b ∷ s)) e
  where
    go : (h : Result Head NoRecord) → stands h ≡ false → records_by h (b ∷ s) o (λ n. records_past n s (suc o)) ≡ []
    go (Err x) e = refl
    go (Ok h) e = let z : ◌≡◌ {A = ℕ} 0 1 = cc in absurd (omega arith)

pub first : (s : List ℕ) (o k n : ℕ) → head_of s ≡ Record k n
    → records_of s o ≡ record_at s o k n ∷ records_of (drop (4 + n) s) (o + (4 + n))
unfolding records_past
first [] o k n e = absurd (omega (arith, (whole [] k n e).fits))
first (b ∷ s) o k n e =
    let q : 4 + n ≡ suc (3 + n) = omega arith in
    let r : suc o + (3 + n) ≡ o + suc (3 + n) = omega arith in
    rw (e, past (3 + n) s (suc o), q, r)

-- the records es of a batch s at the offset o, head by head
pub data Walks : List ℕ → ℕ → List RecordAt → Type 0 where
  none : {s : List ℕ} {o : ℕ} → stands (head_of s) ≡ false → Walks s o []
  one : {s : List ℕ} {o : ℕ} (k n : ℕ) (es : List RecordAt) → head_of s ≡ Record k n → Walks (drop (4 + n) s) (o + (4 + n)) es
      → Walks s o (record_at s o k n ∷ es)

by_head : (s : List ℕ) (o : ℕ) (h : Result Head NoRecord) → head_of s ≡ h
    → ((k n : ℕ) → h ≡ Record k n → Walks (drop (4 + n) s) (o + (4 + n)) (records_of (drop (4 + n) s) (o + (4 + n)))) → Walks s o (records_of s o)
by_head s o (Err x) e f = rw (nothing s o (ap stands e)) (none (ap stands e))
by_head s o (Ok h) e f =
    let n = h.length in
    rw (first s o h.kind n e) (one h.kind n (records_of (drop (4 + n) s) (o + (4 + n))) e (f h.kind n refl))

walks_in : (f : ℕ) (s : List ℕ) (o : ℕ) → length s ≤ f → Walks s o (records_of s o)
walks_in zero s o h = by_head s o (head_of s) refl (λ k n e. absurd (omega (arith, (whole s k n e).fits)))
walks_in (suc f) s o h =
    by_head s o (head_of s) refl
    (λ k n e. walks_in f (drop (4 + n) s) (o + (4 + n)) (omega (arith, (whole s k n e).fits, length-drop (4 + n) s)))

pub walks : (s : List ℕ) (o : ℕ) → Walks s o (records_of s o)
walks s o = walks_in (length s) s o (omega arith)

pub unique : {s : List ℕ} {o : ℕ} {es : List RecordAt} → Walks s o es → records_of s o ≡ es
unique {s} {o} (none h) = nothing s o h
unique {s} {o} (one k n es e w) = first s o k n e ∙ ap (λ (l : List RecordAt). record_at s o k n ∷ l) (unique w)

-- how many bytes records take: none, and one more
pub sizes-none : sizes [] ≡ 0
unfolding sizes
sizes-none = refl

pub size : (s : List ℕ) (o k n : ℕ) (es : List RecordAt) → head_of s ≡ Record k n → sizes (record_at s o k n ∷ es) ≡ 4 + n + sizes es
unfolding sizes
size s o k n es e = rw (value_long s o k n e)

pub inside : {s : List ℕ} {o : ℕ} {es : List RecordAt} → Walks s o es → (j : ℕ) → sizes (take j es) ≤ length s
unfolding sizes
inside w zero = omega arith
inside (none h) (suc j) = omega arith
inside {s} {o} (one k n es e w) (suc j) =
    let i = inside {s = drop (4 + n) s} {o = o + (4 + n)} w j in
    omega (arith, size s o k n (take j es) e, length-drop (4 + n) s, (whole s k n e).fits)

-- past the first j records the others follow
pub rest : {s : List ℕ} {o : ℕ} {es : List RecordAt} → Walks s o es → (j : ℕ) → j ≤ length es
    → Walks (drop (sizes (take j es)) s) (o + sizes (take j es)) (drop j es)
unfolding sizes
rest w zero h = rw add-zero w
rest (none e) (suc j) h = absurd (omega arith)
rest {s} {o} (one k n es e w) (suc j) h =
    let r = rest {s = drop (4 + n) s} {o = o + (4 + n)} w j (omega arith) in
    rw (size s o k n (take j es) e) (simp add_assoc (simp (drop-drop, add_assoc) at r))

-- the records of a batch stay its first where more bytes follow, and those after them start at the rest
pub append : {s : List ℕ} {o : ℕ} {es : List RecordAt} → Walks s o es → (more : List ℕ) (fs : List RecordAt)
    → Walks (drop (sizes es) s ++ more) (o + sizes es) fs → Walks (s ++ more) o (es ++ fs)
unfolding sizes
append (none h) more fs v = rw add-zero at v
append {s} {o} (one k n es e w) more fs v =
    let u : Walks (drop (4 + n + sizes es) s ++ more) (o + (4 + n + sizes es)) fs = rw (size s o k n es e) at v in
    let i = append w more fs (rw (drop-drop, add_assoc o (4 + n) (sizes es)) u) in
    subst (λ (a : RecordAt). Walks (s ++ more) o (a ∷ (es ++ fs))) (same_record s more k n e o)
    (one k n (es ++ fs) (longer s more k n e) (rw (same_rest s more k n e) i))

-- and the bytes of the first j records hold these and no others: so a batch is cut between two records with nothing lost
drop-take : (a m : ℕ) (l : List ℕ) → a ≤ length l → drop a (take (a + m) l) ≡ take m (drop a l)
drop-take a m l h = rw (take-add a m l) (drop_at (take a l) (take m (drop a l)) a (length-take-le a l h))

pub front : {s : List ℕ} {o : ℕ} {es : List RecordAt} → Walks s o es → (j : ℕ) → Walks (take (sizes (take j es)) s) o (take j es)
front w zero = rw sizes-none (none (ap stands (head_is [] (Err End) refl)))
front (none h) (suc j) = rw sizes-none (none (ap stands (head_is [] (Err End) refl)))
front {s} {o} (one k n es e w) (suc j) =
    let m = sizes (take j es) in
    let f = (whole s k n e).fits in
    let v : take n (drop 4 (take (4 + n + m) s)) ≡ take n (drop 4 s) =
    let q : 4 + n + m ≡ 4 + (n + m) = omega arith in
    rw (q, drop-take 4 (n + m) s (omega arith)) (take-take n (n + m) (drop 4 s) (omega arith)) in
    rw (size s o k n (take j es) e)
    (subst (λ (a : RecordAt). Walks (take (4 + n + m) s) o (a ∷ take j es)) (rw v)
    (one k n (take j es) (shorter s k n (4 + n + m) e (omega arith))
    (rw (drop-take (4 + n) m s f) (front {s = drop (4 + n) s} {o = o + (4 + n)} w j))))

-- numbers from lo on, each above the one before
pub data Rising : ℕ → List ℕ → Type 0 where
  end : {lo : ℕ} → Rising lo []
  up : {lo x : ℕ} {l : List ℕ} → lo ≤ x → Rising (suc x) l → Rising lo (x ∷ l)

lower : {lo : ℕ} {l : List ℕ} → Rising lo l → (m : ℕ) → m ≤ lo → Rising m l
lower end m h = end
lower (up {x = x} g r) m h = let f : m ≤ x = omega arith in up f r

at_least : {lo : ℕ} {l : List ℕ} → Rising lo l → (i : ℕ) → i < length l → lo ≤ get_or l i 0
at_least end i h = absurd (omega arith)
at_least (up g r) zero h = g
at_least (up g r) (suc i) h = let k = at_least r i (omega arith) in omega arith

pub increasing : {lo : ℕ} {l : List ℕ} → Rising lo l → Increasing l
increasing end i j h m = absurd (omega arith)
increasing (up g r) i zero h m = absurd (omega arith)
increasing (up g r) zero (suc j) h m = at_least r j (omega arith)
increasing (up g r) (suc i) (suc j) h m = increasing r i j (omega arith) (omega arith)

-- records stand at rising offsets
pub rising : {s : List ℕ} {o : ℕ} {es : List RecordAt} → Walks s o es → (j : ℕ) → Rising o (offsets_of (take j es))
rising w zero = end
rising (none h) (suc j) = end
rising {s} {o} (one k n es e w) (suc j) =
    let f : o ≤ o = omega arith in
    up f (lower (rising {s = drop (4 + n) s} {o = o + (4 + n)} w j) (suc o) (omega arith))

pub sizes-least : (es : List RecordAt) → 4 * length es ≤ sizes es
unfolding sizes
sizes-least [] = omega arith
sizes-least (e ∷ es) = omega (arith, sizes-least es)

pub sizes-append : (es fs : List RecordAt) → sizes (es ++ fs) ≡ sizes es + sizes fs
unfolding sizes
sizes-append [] fs = omega arith
sizes-append (e ∷ es) fs = omega (arith, sizes-append es fs)
