-- What the rule of an IBAN says fits a verdict: the characters are no more than the field's bytes, and each stands within them.
use Prim.Native.Nat.{ℕ, zero, suc, ◌+◌, ◌^◌, ◌≤◌, ◌<◌}
use mathlib.Core.Path.{refl}
use mathlib.Core.Bool.{Bool, true, false, cond}
use mathlib.Core.List.{List, [], ◌∷◌}
use native.Mathlib.Omega.{arith}
use lib.Dec.{eqb, ltb}
use lib.ListN.{length}
use Rattle.answer.specs.Table.{row_of}
use Rattle.std.specs.Prelude.{Err}
use Rattle.answer.specs.Result.{Refused, Step, Pass}
use Rattle.answer.specs.declared.Reason.{Reason}
use Rattle.answer.specs.declared.Reason.TheVariants.{Wrong}
use Rattle.text.proofs.Near.{Near, Small, Short, near_pass, near_at, near_must, near_then, nears}
use Rattle.utf8.specs.Chars.{chars, widths, valid_prefix}
use Rattle.utf8.specs.Space.{white_space}
use Rattle.utf8.specs.declared.Char.{Char}
use Rattle.utf8.proofs.Promises.{longest}
use Rattle.utf8.proofs.Walks.{few_chars}
use Rattle.checkdigit.proofs.Places.{iban_remainder_near}
use Rattle.iban.specs.Electronic.{Character, electronic_from, electronic, electronic_text, place_in}
use Rattle.iban.specs.Iban.{all_ascii, ascii_step, count_step, class_steps, reason_in, step_in, iban_characters, iban_answer}
use Rattle.iban.proofs.Electronics.{length-text}

-- each place fits
abbrev Placed : List Character → Type 0
Placed [] = Unit {0}
Placed (c ∷ l) = (c.place < 2 ^ 16) × Placed l

-- the characters that end before 2^16
from_near : (at : ℕ) (cs : List Char) → at + widths cs < 2 ^ 16 → (length (electronic_from at cs) ≤ length cs) × Placed (electronic_from at cs)
unfolding electronic_from widths
from_near at [] h = (omega arith, tt)
from_near at (c ∷ cs) h = go (white_space c.scalar) (from_near (at + c.width) cs (omega arith))
  where
    rest : List Character
    rest = electronic_from (at + c.width) cs

    go : (t : Bool) → (length rest ≤ length cs) × Placed rest
        → (length (cond t rest (record { place = at; scalar = c.scalar } ∷ rest)) ≤ suc (length cs))
        × Placed (cond t rest (record { place = at; scalar = c.scalar } ∷ rest))
    go true p = (omega arith, p.1)
    go false p = (omega arith, (omega arith, p.1))

ascii_near : (l : List Character) → Placed l → Near (all_ascii l)
unfolding all_ascii
ascii_near [] p = near_pass
ascii_near (c ∷ l) p = near_then _ _ (near_must (ltb c.scalar 128) (Wrong c.place) 101 p.0 (omega arith)) (ascii_near l p.1)

place_near : (k : ℕ) (l : List Character) → Placed l → place_in k l < 2 ^ 16
unfolding place_in
place_near k [] p = omega arith
place_near zero (c ∷ l) p = p.0
place_near (suc k) (c ∷ l) p = place_near k l p.1

reason_near : (l : List Character) (r : Reason) (k : ℕ) → Placed l → Small (Refused r k) → Small (Refused (reason_in l r) k)
unfolding reason_in
reason_near l r k h o = go (eqb (row_of r).number 3)
  where
    go : (t : Bool) → Small (Refused (cond t (Wrong (place_in (row_of r).place l)) r) k)
    go true = record { place = place_near (row_of r).place l h; value = omega arith }
    go false = o

step_near : (l : List Character) (x : Step) → Placed l → Near x → Near (step_in l x)
step_near l Pass h o = near_pass
step_near l (Err e) h o =
    let m = reason_near l e.reason e.check h (o.small e.reason e.check refl) in
    near_at (reason_in l e.reason) e.check m.place m.value

pub iban_small : (s : List ℕ) → Short s → Small (iban_answer s)
unfolding iban_answer iban_characters ascii_step count_step class_steps electronic valid_prefix
iban_small s h =
    let b = (longest s).inside in
    let p = from_near 0 (chars s) (omega (arith, b)) in
    let v : length (electronic s) < 2 ^ 64 = omega (arith, few_chars 0 s) in
    let w : length (electronic_text s) < 2 ^ 16 = omega (arith, few_chars 0 s, length-text (electronic s)) in
    let u : valid_prefix s < 2 ^ 16 = omega arith in
    let a : Placed (electronic s) = p.1 in
    search (nears, ascii_near, step_near, iban_remainder_near) depth 12
