-- Laws of numbers in bytes: read and written byte by byte, in a part of a list, at most what so many bytes hold, and each the other's way back.
use Prim.Native.Nat.{ℕ, zero, suc, ◌+◌, ◌-◌, ◌*◌, ◌/◌, ◌%◌, ◌^◌, ◌≤◌, ◌<◌}
use mathlib.Core.Path.{◌≡◌, refl, sym, ap, ◌∙◌}
use mathlib.Core.List.{List, [], ◌∷◌, ◌++◌, append_assoc}
use native.Mathlib.Omega.{arith}
use native.Mathlib.Nat.{div-div-eq-div-mul, div-add-mod', div-lt_iff_lt-mul, pow-suc, pow-le-pow_right, lt_of_lt_of_le}
use native.Mathlib.Numerals.{add-one}
use lib.ListN.{length, take, drop, set, length-take, length-drop, take-append-drop}
use lib.Seq.{take_all, take-append-le, drop-append-le, get_or-drop, length-take-le, take-suc-set}
use Rattle.std.specs.Int.{w16, w64, to_le_bytes}
use Rattle.record.specs.Number.{to_bytes, from_bytes, little_at, Bytes}

-- bytes that follow do not change a number
pub number_append : (s more : List ℕ) (at k : ℕ) → at + k ≤ length s → little_at (s ++ more) at k ≡ little_at s at k
number_append s more at k h =
    rw (drop-append-le at s more (omega arith), take-append-le k (drop at s) more (omega (arith, length-drop at s)))

pub number-take : (s : List ℕ) (m at k : ℕ) → at + k ≤ length (take m s) → little_at (take m s) at k ≡ little_at s at k
number-take s m at k h = sym (number_append (take m s) (drop m s) at k h) ∙ ap (λ (l : List ℕ). little_at l at k) (take-append-drop m s)

-- a number that k bytes hold reads back
pub read_back : (k x : ℕ) → x < 256 ^ k → from_bytes (to_bytes k x) ≡ x
read_back zero x h = omega arith
read_back (suc k) x h =
    let q : x / 256 < 256 ^ k = (div-lt_iff_lt-mul {k = 256} (omega arith)).1 (rw pow-suc at h) in
    let i : from_bytes (to_bytes k (x / 256)) ≡ x / 256 = read_back k (x / 256) q in
    rw i (omega (arith, div-add-mod' x 256))

-- bytes of which some are left out at an end
pub bytes_drop : (b : List ℕ) (n : ℕ) → Bytes b → Bytes (drop n b)
bytes_drop b n h i = rw get_or-drop (h (n + i))

pub bytes_take : (b : List ℕ) (n : ℕ) → Bytes b → Bytes (take n b)
bytes_take b zero h zero = omega arith
bytes_take b zero h (suc i) = omega arith
bytes_take [] (suc n) h i = h i
bytes_take (x ∷ b) (suc n) h zero = h 0
bytes_take (x ∷ b) (suc n) h (suc i) = bytes_take b n (λ j. h (suc j)) i

-- so many bytes hold no greater number
number-low : (b : List ℕ) → Bytes b → from_bytes b < 256 ^ length b
number-low [] h = omega arith
number-low (x ∷ b) h = rw (pow-suc 256 (length b)) (omega (arith, h 0, number-low b (λ i. h (suc i))))

pub number-most : (b : List ℕ) → Bytes b → (at k : ℕ) → little_at b at k < 256 ^ k
number-most b h at k =
    lt_of_lt_of_le (number-low (take k (drop at b)) (bytes_take (drop at b) k (bytes_drop b at h)))
    (pow-le-pow_right (omega arith) (simp length-take (omega arith)))

-- the bytes that a number was read from
bytes_back : (b : List ℕ) → Bytes b → to_bytes (length b) (from_bytes b) ≡ b
bytes_back [] h = refl
bytes_back (x ∷ b) h =
    let n = from_bytes b in
    let low : (x + 256 * n) % 256 ≡ x = omega (arith, h 0) in
    let high : (x + 256 * n) / 256 ≡ n = omega (arith, h 0) in
    rw (low, high, bytes_back b (λ i. h (suc i)))

-- k bytes at a place
pub part_long : (at k : ℕ) (b : List ℕ) → at + k ≤ length b → length (take k (drop at b)) ≡ k
part_long at k b l = length-take-le k (drop at b) (omega (arith, length-drop at b))

pub number_back : (b : List ℕ) → Bytes b → (at k : ℕ) → at + k ≤ length b → to_bytes k (little_at b at k) ≡ take k (drop at b)
number_back b h at k l =
    rw (part_long at k b l) at (bytes_back (take k (drop at b)) (bytes_take (drop at b) k (bytes_drop b at h)))

-- of at most eight bytes `read_number` reads all, in a list or in a part of one
pub all_read : (b : List ℕ) → length b ≤ 8 → from_bytes (take 8 b) ≡ from_bytes b
all_read b l = rw (take_all 8 b l)

pub part-read : (b : List ℕ) (at k : ℕ) → k ≤ 8 → from_bytes (take 8 (take k (drop at b))) ≡ little_at b at k
part-read b at k l = all_read (take k (drop at b)) (simp length-take (omega arith))

-- and `write_number` fills a part
pub part-written : (at k x : ℕ) (b out : List ℕ) → at + k ≤ length b → out ≡ to_bytes (length (take k (drop at b))) x → out ≡ to_bytes k x
part-written at k x b out l e = e ∙ ap (λ (n : ℕ). to_bytes n x) (part_long at k b l)

-- written from the lowest byte up: one byte more
pub write_more : (b : List ℕ) (n i x : ℕ) → length b ≡ n → i < n
    → take i b ++ to_bytes (n - i) x ≡ take (i + 1) (set b i (x % 256)) ++ to_bytes (n - (i + 1)) (x / 256)
write_more b n i x l h =
    let e : n - i ≡ suc (n - (i + 1)) = omega arith in
    rw (e, add-one i, take-suc-set b i (x % 256) (omega arith)) (simp append_assoc)

-- the library's bytes of a number are these: all eight, and the two of what is left of it by 2^16
pub eight_bytes : (x : ℕ) → to_le_bytes w64 x ≡ to_bytes 8 x
eight_bytes x = simp div-div-eq-div-mul

pub two_bytes : (x : ℕ) → to_le_bytes w16 (x % 65536) ≡ to_bytes 2 x
two_bytes x = let low : x % 65536 % 256 ≡ x % 256 = omega arith in let high : x % 65536 / 256 % 256 ≡ x / 256 % 256 = omega arith in rw (low, high)
