-- RFC 3629, section 4, UTF8-octets = *( UTF8-char ): the well-formed texts, and the longest prefix of a text that is one.
use Rattle.std.specs.Prelude.{ℕ, ◌≤◌, ◌≡◌, List, [], Some, length, take, drop}
use Rattle.utf8.specs.Rfc3629.{ch, front}

pub data Octets : List ℕ → Type 0 where
  none : Octets []
  more : (s : List ℕ) (c w : ℕ) → front s ≡ Some (ch c w) → Octets (drop w s) → Octets s

pub record Longest (s : List ℕ) (n : ℕ) : Type 0 where
  pub inside : n ≤ length s
  pub good : Octets (take n s)
  pub most : (m : ℕ) → m ≤ length s → Octets (take m s) → m ≤ n
