-- What is promised of `valid_prefix`: it is the length of the longest well-formed prefix, no other number is, and it is the whole text's exactly where the text is well formed.
use Prim.Native.Nat.{ℕ}
use mathlib.Core.Path.{◌≡◌, refl}
use mathlib.Core.List.{List}
use native.Mathlib.Omega.{arith}
use lib.ListN.{length}
use lib.Seq.{take-length}
use Rattle.utf8.specs.Chars.{valid_prefix}
use Rattle.utf8.specs.Octets.{Octets, Longest}
use Rattle.utf8.proofs.Prefix.{inside, most}

-- the prefix is well formed, and no longer one is
pub longest : (s : List ℕ) → Longest s (valid_prefix s)
longest s =
    let p = inside (length s) s (omega arith) in
    record { inside = p.0; good = p.1; most = λ m h o. most o s m refl h }

pub one_longest : {s : List ℕ} {m n : ℕ} → Longest s m → Longest s n → m ≡ n
one_longest {s} {m} {n} p q = omega (arith, p.most n q.inside q.good, q.most m p.inside p.good)

-- a text is well formed exactly where its longest well-formed prefix is all of it
pub whole : {s : List ℕ} {n : ℕ} → Longest s n → (n ≡ length s → Octets s) × (Octets s → n ≡ length s)
whole {s} {n} p =
    (λ e. rw (e, take-length s) at p.good, λ o. omega (arith, p.inside, p.most (length s) (omega arith) (rw (take-length s) o)))

pub well_formed : (s : List ℕ) → (valid_prefix s ≡ length s → Octets s) × (Octets s → valid_prefix s ≡ length s)
well_formed s = whole (longest s)
