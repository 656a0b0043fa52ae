-- Laws of codes: a search of a table from a place on; codes of one length are equal where their numbers are; the answer of a field that
-- is well spelt, and of one that is not.
use Prim.Native.Nat.{ℕ, suc, ◌+◌, ◌*◌, ◌^◌, ◌≤◌, ◌<◌}
use mathlib.Core.Path.{◌≡◌, refl, sym, ap, ◌∙◌}
use mathlib.Core.Bool.{Bool, true, false, ◌&&◌}
use mathlib.Core.List.{List, [], ◌∷◌, map}
use native.Mathlib.Numerals.{add-one}
use native.Mathlib.Omega.{arith}
use borrow.Author.Tests.{ne_eqb, lt-ltb, le-ltb}
use lib.Dec.{T, eqb, ltb, eqb→eq, eqb_refl, lt→ltb, ltb→lt}
use lib.ListN.{length, get_or, drop}
use lib.Seq.{drop-cons}
use Rattle.std.specs.Prelude.{Some, None, Err}
use Rattle.answer.specs.Steps.{check, must, ◌and_then◌, ◌or_accept◌}
use Rattle.answer.specs.Result.{Accepted, Step, Pass}
use Rattle.answer.specs.declared.Reason.TheVariants.{NotListed}
use Rattle.answer.proofs.Laws.{stops, both_pass, accepted_pass}
use Rattle.text.specs.Same.{same_text}
use Rattle.text.specs.declared.Set.TheVariants.{Capitals}
use Rattle.text.proofs.Ranges.{is_true, both_parts, both_of, every}
use Rattle.text.proofs.Low.{Low, low_part, low_first, length-held}
use Rattle.text.proofs.Same.{same_text_lem}
use Rattle.codes.specs.Codes.{any, on_list, well_spelt, code_rule, packed_on, packed, among}
use Rattle.codes.specs.Inner.{packed_fit, table_rule}

-- a byte more makes a code's number no smaller
pub packed_grows : (n : ℕ) (s : List ℕ) → n ≤ packed_on n s
packed_grows n [] = omega arith
packed_grows n (b ∷ s) = omega (arith, packed_grows (256 * n + b) s)

pub packed_next : (n : ℕ) (s : List ℕ) (i : ℕ) → i < length s → packed_on n (drop i s) ≡ packed_on (256 * n + get_or s i 0) (drop (i + 1) s)
packed_next n s i h = rw (drop-cons s i 0 h, add-one i)

-- the limit: a number that fits, and one that is past it
pub number_fits : (s : List ℕ) (n : ℕ) → n < 2 ^ 32 → n ≡ packed s → Some n ≡ packed_fit s
unfolding packed_fit
number_fits s n h e = rw (← e, lt-ltb n (2 ^ 32) h)

pub number_past : (s : List ℕ) → 2 ^ 32 ≤ packed s → None ≡ packed_fit s
unfolding packed_fit
number_past s h = rw (le-ltb (packed s) (2 ^ 32) h)

-- a code of two bytes, and one of three
pub two_fit : (s : List ℕ) (n : ℕ) → length s ≡ 2 → n ≡ 256 * get_or s 0 0 + get_or s 1 0 → n < 2 ^ 32 → Some n ≡ packed_fit s
two_fit [] n l e h = absurd (omega arith)
two_fit (a ∷ []) n l e h = absurd (omega arith)
two_fit (a ∷ b ∷ []) n l e h = number_fits (a ∷ b ∷ []) n h (omega arith)
two_fit (a ∷ b ∷ c ∷ s) n l e h = absurd (omega arith)

pub three_fit : (s : List ℕ) (n : ℕ) → length s ≡ 3 → n ≡ 65536 * get_or s 0 0 + 256 * get_or s 1 0 + get_or s 2 0 → n < 2 ^ 32 → Some n ≡ packed_fit s
three_fit [] n l e h = absurd (omega arith)
three_fit (a ∷ []) n l e h = absurd (omega arith)
three_fit (a ∷ b ∷ []) n l e h = absurd (omega arith)
three_fit (a ∷ b ∷ c ∷ []) n l e h = number_fits (a ∷ b ∷ c ∷ []) n h (omega arith)
three_fit (a ∷ b ∷ c ∷ d ∷ s) n l e h = absurd (omega arith)

-- a table of numbers of 32 bits has no higher one
pub past_table : (table : List ℕ) (code : ℕ) → ((i : ℕ) → get_or table i 0 < 2 ^ 32) → 2 ^ 32 ≤ code → among table code ≡ false
past_table [] code h k = refl
past_table (x ∷ table) code h k = rw (ne_eqb x code (λ e. omega (arith, h 0))) (past_table table code (λ i. h (suc i)) k)

-- every element is a byte
abbrev bytes : List ℕ → Bool
bytes s = every (λ b. ltb b 256) s

-- every code is n bytes: the test by which a list is fit to be packed
abbrev pub fit : ℕ → List (List ℕ) → Bool
fit n [] = true
fit n (w ∷ ws) = (eqb (length w) n && bytes w) && fit n ws

equal_tests : (a b : Bool) → (T a → T b) → (T b → T a) → a ≡ b
equal_tests true true f g = refl
equal_tests true false f g = absurd (f tt)
equal_tests false true f g = absurd (g tt)
equal_tests false false f g = refl

-- a number is packed of one row of bytes only, of a given length
packed_once : (n m : ℕ) (s t : List ℕ) → T (bytes s) → T (bytes t) → length s ≡ length t → packed_on n s ≡ packed_on m t → (n ≡ m) × T (same_text s t)
unfolding same_text
packed_once n m [] [] p q l e = (e, tt)
packed_once n m [] (b ∷ t) p q l e = absurd (omega arith)
packed_once n m (a ∷ s) [] p q l e = absurd (omega arith)
packed_once n m (a ∷ s) (b ∷ t) p q l e =
    let u = both_parts (ltb a 256) (bytes s) p in
    let v = both_parts (ltb b 256) (bytes t) q in
    let r = packed_once (256 * n + a) (256 * m + b) s t u.1 v.1 (omega arith) e in
    let h = ltb→lt a 256 u.0 in
    let k = ltb→lt b 256 v.0 in
    let f : a ≡ b = omega arith in
    (omega arith, both_of (eqb a b) (same_text s t) (rw f (eqb_refl b)) r.1)

number_tells : (s w : List ℕ) → T (bytes s) → T (bytes w) → length s ≡ length w → eqb (packed w) (packed s) ≡ same_text s w
number_tells s w p q l =
    equal_tests (eqb (packed w) (packed s)) (same_text s w)
    (λ u. (packed_once 0 0 s w p q l (sym (eqb→eq (packed w) (packed s) u))).1)
    (λ u. rw (same_text_lem s w (is_true (same_text s w) u)) (eqb_refl (packed w)))

-- a code's number stands in the packed list just where the code stands on the list
packed-among : (n : ℕ) (s : List ℕ) (codes : List (List ℕ)) → length s ≡ n → T (bytes s) → T (fit n codes)
    → among (map packed codes) (packed s) ≡ any (same_text s) codes
packed-among n s [] l p t = refl
packed-among n s (w ∷ codes) l p t =
    let u = both_parts (eqb (length w) n && bytes w) (fit n codes) t in
    let v = both_parts (eqb (length w) n) (bytes w) u.0 in
    let k = eqb→eq (length w) n v.0 in
    rw (number_tells s w p v.1 (omega arith), packed-among n s codes l p u.1)

every_of : (f : ℕ → Bool) (s : List ℕ) → ((j : ℕ) → j < length s → T (f (get_or s j 0))) → T (every f s)
every_of f [] h = tt
every_of f (b ∷ s) h = both_of (f b) (every f s) (h 0 (omega arith)) (every_of f s (λ j l. h (suc j) (omega arith)))

module _ (kind n : ℕ) (s : List ℕ) where
  -- what the steps before the list have shown
  spelt_length : well_spelt kind n s ≡ Pass → length s ≡ n
  unfolding well_spelt
  spelt_length e = length-held n s (check kind 2) (both_pass _ _ (both_pass _ _ (both_pass _ _ e).0).0).1

  spelt_low : well_spelt kind n s ≡ Pass → Low s 0 (length s)
  unfolding well_spelt
  spelt_low e =
      low_part s 0 n 0 (length s) (omega arith) (omega (arith, spelt_length e)) (low_first s Capitals 0 n (check kind 4) (both_pass _ _ e).1)

  spelt_bytes : well_spelt kind n s ≡ Pass → T (bytes s)
  spelt_bytes e = every_of (λ b. ltb b 256) s (λ j h. lt→ltb (get_or s j 0) 256 (omega (arith, spelt_low e j (omega arith) h)))

  -- a code that is accepted is ASCII
  pub code-low : (codes : List (List ℕ)) (m : ℕ) → code_rule kind n codes s ≡ Accepted m → Low s 0 (length s)
  unfolding code_rule
  code-low codes m e = spelt_low (both_pass _ _ (accepted_pass _ 0 m e)).0

  -- the rule over a table of numbers is that over the list, where the table is the list packed and every code of the list is n bytes
  pub by_table : (codes : List (List ℕ)) → T (fit n codes) → table_rule kind n (map packed codes) s ≡ code_rule kind n codes s
  unfolding code_rule table_rule on_list
  by_table codes t = ap (λ (a : Step). a or_accept 0) (either (well_spelt kind n s) refl)
    where
      either : (a : Step) → well_spelt kind n s ≡ a
          → a and_then must (among (map packed codes) (packed s)) NotListed (check kind 5) ≡ a and_then must (any (same_text s) codes) NotListed (check kind 5)
      either Pass e = rw (packed-among n s codes (spelt_length e) (spelt_bytes e) t)
      either (Err x) e = stops _ refl ∙ sym (stops _ refl)
