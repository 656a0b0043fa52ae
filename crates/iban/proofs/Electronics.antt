-- Laws of the electronic format: what a walk over a field's characters keeps for it, and the places of its characters.
use Prim.Native.Nat.{ℕ, zero, suc, ◌+◌}
use mathlib.Core.Path.{◌≡◌, refl, sym, ap, ◌∙◌}
use mathlib.Core.Bool.{Bool, true, false, cond, not}
use mathlib.Core.List.{List, [], ◌∷◌}
use lib.ListN.{length, length-map}
use Rattle.std.specs.Prelude.{Option, Some, None, filter, slice_get, option_map}
use Rattle.utf8.specs.Chars.{chars, placed}
use Rattle.utf8.specs.Space.{white_space}
use Rattle.utf8.specs.declared.Char.{Char}
use Rattle.iban.specs.Electronic.{Character, electronic_from, electronic, text_of, place_in}

-- a character with its place that is no blank
abbrev pub black : ℕ × Char → Bool
black p = not (white_space p.1.scalar)

-- of characters with their places, those that are no blank
abbrev pub kept : List (ℕ × Char) → List Character
kept [] = []
kept (p ∷ ps) = cond (white_space p.1.scalar) (kept ps) (record { place = p.0; scalar = p.1.scalar } ∷ kept ps)

kept_placed : (at : ℕ) (cs : List Char) → electronic_from at cs ≡ kept (placed at cs)
unfolding electronic_from placed
kept_placed at [] = refl
kept_placed at (c ∷ cs) = rw (kept_placed (at + c.width) cs)

pub kept_all : (s : List ℕ) → electronic s ≡ kept (placed 0 (chars s))
unfolding electronic
kept_all s = kept_placed 0 (chars s)

pub length-text : (l : List Character) → length (text_of l) ≡ length l
unfolding text_of
length-text l = length-map l (λ c. c.scalar)

-- the place that a search of the k-th of them finds
abbrev pub place_found : Option (ℕ × Char) → ℕ
place_found None = 0
place_found (Some p) = p.0

pub place_nth : (k : ℕ) (ps : List (ℕ × Char)) → place_in k (kept ps) ≡ place_found (slice_get (filter black ps) k)
unfolding place_in
place_nth k [] = refl
place_nth k (p ∷ ps) = go (white_space p.1.scalar) k (λ k. place_nth k ps)
  where
    go : (t : Bool) (k : ℕ) → ((k : ℕ) → place_in k (kept ps) ≡ place_found (slice_get (filter black ps) k)) → place_in k (cond t (kept ps) (record { place = p.0; scalar = p.1.scalar } ∷ kept ps))
        ≡ place_found (slice_get (cond (not t) (p ∷ filter black ps) (filter black ps)) k)
    go true k f = f k
    go false zero f = refl
    go false (suc k) f = f k

pub place_of_nth : (s : List ℕ) (k : ℕ) (ps : List (ℕ × Char)) (r : Option (ℕ × Char)) (n : ℕ) → ps ≡ placed 0 (chars s)
    → option_map (λ p. p) r ≡ slice_get (filter black ps) k → n ≡ place_found r → n ≡ place_in k (electronic s)
place_of_nth s k ps r n p e f = f ∙ ap place_found (same r) ∙ ap place_found e ∙ sym (place_nth k ps) ∙ ap (place_in k) (ap kept p ∙ sym (kept_all s))
  where
    same : (r : Option (ℕ × Char)) → r ≡ option_map (λ p. p) r
    same None = refl
    same (Some x) = refl
