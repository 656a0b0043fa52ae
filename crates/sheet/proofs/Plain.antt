-- A text of letters and digits is in electronic format as it stands: none of its characters is a blank, and each is one byte.
use Prim.Native.Nat.{ℕ, zero, suc, ◌+◌, ◌<◌}
use mathlib.Core.Path.{◌≡◌, refl, ◌∙◌, ap}
use mathlib.Core.Bool.{Bool, true, false}
use mathlib.Core.List.{List, [], ◌∷◌, map}
use native.Mathlib.Omega.{arith}
use borrow.Author.Tests.{lt-ltb, eqb-true, eqb-false, eq-eqb}
use lib.Dec.{T, eqb}
use lib.ListN.{length, get_or, set, length-set}
use lib.Seq.{get_or-set_same, get_or-set_other}
use Rattle.answer.specs.Steps.{◌and_then◌}
use Rattle.answer.specs.Result.{Pass}
use Rattle.text.specs.Class.{allowed}
use Rattle.text.specs.declared.Set.TheVariants.{LettersDigits}
use Rattle.text.proofs.Classes.{allowed-ends}
use Rattle.text.proofs.Ranges.{evenly}
use Rattle.utf8.specs.Rfc3629.{ch}
use Rattle.utf8.specs.Chars.{ascii}
use Rattle.utf8.specs.Space.{spaces, white_space}
use Rattle.utf8.proofs.Ascii.{below_ascii, ascii-chars, ascii_prefix}
use Rattle.iban.specs.Electronic.{Character, electronic_from, electronic, text_of, electronic_text}
use Rattle.iban.specs.Iban.{all_ascii, ascii_step}

-- a text of letters and digits
abbrev pub Plain : List ℕ → Type 0
Plain t = (i : ℕ) → i < length t → T (allowed LettersDigits (get_or t i 0))

pub plain_set : (t : List ℕ) (p b : ℕ) → Plain t → T (allowed LettersDigits b) → Plain (set t p b)
plain_set t p b f a i h = go (eqb i p) refl
  where
    go : (x : Bool) → eqb i p ≡ x → T (allowed LettersDigits (get_or (set t p b) i 0))
    go true e =
        let q : i ≡ p = eqb-true i p e in
        rw (q, get_or-set_same t p b 0 (omega (arith, length-set t p b))) a
    go false e = rw (get_or-set_other t p i b 0 (eqb-false i p e)) (f i (rw (length-set t p b) at h))

below : (b : ℕ) → T (allowed LettersDigits b) → b < 128
below b t = let e = allowed-ends LettersDigits b t in omega arith

rest : (b : ℕ) (t : List ℕ) → Plain (b ∷ t) → Plain t
rest b t p i h = p (suc i) (omega arith)

pub plain_ascii : (t : List ℕ) → Plain t → ascii t ≡ true
plain_ascii t p = below_ascii t (λ i h. below (get_or t i 0) (p i h))

no_blank : (b : ℕ) → T (allowed LettersDigits b) → white_space b ≡ false
unfolding white_space
no_blank b t = let e = allowed-ends LettersDigits b t in evenly [] 48 122 b (λ e. e) e.0 e.1 false spaces tt

-- the bytes of a text, each a character, from a place on
singles : ℕ → List ℕ → List Character
singles at [] = []
singles at (b ∷ t) = record { place = at; scalar = b } ∷ singles (at + 1) t

single_from : (at : ℕ) (t : List ℕ) → Plain t → electronic_from at (map (λ b. ch b 1) t) ≡ singles at t
unfolding electronic_from singles
single_from at [] p = refl
single_from at (b ∷ t) p = rw (no_blank b (p zero (omega arith)), single_from (at + 1) t (rest b t p))

single_text : (at : ℕ) (t : List ℕ) → text_of (singles at t) ≡ t
unfolding text_of singles
single_text at [] = refl
single_text at (b ∷ t) = ap (λ (l : List ℕ). b ∷ l) (single_text (at + 1) t)

single_ascii : (at : ℕ) (t : List ℕ) → Plain t → all_ascii (singles at t) ≡ Pass
unfolding all_ascii singles ◌and_then◌
single_ascii at [] p = refl
single_ascii at (b ∷ t) p = rw (lt-ltb b 128 (below b (p zero (omega arith)))) (single_ascii (at + 1) t (rest b t p))

module _ (t : List ℕ) (p : Plain t) where
  plain_is : electronic t ≡ singles 0 t
  unfolding electronic
  plain_is = rw (ascii-chars t (plain_ascii t p)) (single_from 0 t p)

  pub plain_text : electronic_text t ≡ t
  plain_text = ap text_of plain_is ∙ single_text 0 t

  pub plain_step : ascii_step t ≡ Pass
  unfolding ascii_step ◌and_then◌
  plain_step = rw (plain_is, single_ascii 0 t p, ascii_prefix t (plain_ascii t p), eq-eqb (length t) (length t) refl)
