-- A pass over a field that drops its blanks: the text so far, and the characters that are left, are the field's in electronic format.
use Prim.Native.Nat.{ℕ, ◌+◌, ◌≤◌, ◌<◌}
use mathlib.Core.Path.{◌≡◌, refl, sym, ◌∙◌, ap}
use mathlib.Core.Bool.{true, false}
use mathlib.Core.List.{List, [], ◌∷◌, ◌++◌, append-nil, append_assoc, map-append}
use native.Mathlib.Omega.{arith}
use borrow.Author.Tests.{lt-ltb, eq-eqb}
use lib.Dec.{eqb, ltb}
use lib.ListN.{length, set, length-append}
use Rattle.answer.specs.Steps.{must, ◌and_then◌}
use Rattle.answer.specs.declared.Reason.TheVariants.{Wrong}
use Rattle.std.specs.Prelude.{Ok, Err}
use Rattle.answer.specs.Result.{Pass}
use Rattle.answer.specs.declared.Refusal.{Refusal}
use Rattle.utf8.specs.Chars.{chars, placed, valid_prefix}
use Rattle.utf8.specs.Space.{white_space}
use Rattle.utf8.specs.declared.Char.{Char}
use Rattle.utf8.proofs.Walks.{few_placed, room, room_start, room_more, room_none}
use Rattle.iban.specs.Electronic.{Character, electronic, text_of}
use Rattle.iban.specs.Iban.{all_ascii, ascii_step}
use Rattle.iban.specs.Format.{padded}
use Rattle.iban.specs.Inner.{Dropped}
use Rattle.iban.proofs.Electronics.{kept, kept_all, length-text}
use Rattle.iban.proofs.Padded.{padded-more}

text-more : (l : List Character) (c : Character) → text_of (l ++ (c ∷ [])) ≡ text_of l ++ (c.scalar ∷ [])
unfolding text_of
text-more l c = map-append (λ c. c.scalar) l (c ∷ [])

-- a character that stands first stands at the place where they begin, and the others stand past it
abbrev pub others : List Char → List Char
others [] = []
others (c ∷ cs) = cs

abbrev first_place : List (ℕ × Char) → ℕ
first_place [] = 0
first_place (p ∷ ps) = p.0

abbrev first_width : List (ℕ × Char) → ℕ
first_width [] = 0
first_width (p ∷ ps) = p.1.width

abbrev past_first : List (ℕ × Char) → List (ℕ × Char)
past_first [] = []
past_first (p ∷ ps) = ps

first_stands : (end : ℕ) (cs : List Char) (at : ℕ) (c : Char) (rest : List (ℕ × Char)) → placed end cs ≡ (at, c) ∷ rest
    → (at ≡ end) × (rest ≡ placed (at + c.width) (others cs))
unfolding placed
first_stands end [] at c rest e = absurd (omega (arith, ap length e))
first_stands end (d ∷ cs) at c rest e =
    let f : end ≡ at = ap first_place e in
    let g : d.width ≡ c.width = ap first_width e in
    (sym f, sym (ap past_first e) ∙ ap (λ (n : ℕ). placed n cs) (omega (arith, f, g)))

-- the characters that are left stand from `end` on
pub record Dropping (s : List ℕ) (left : List (ℕ × Char)) (end count : ℕ) (text : List ℕ) : Type 0 where
  pub few : count + length left ≤ length s
  pub prefix : end + room left ≡ valid_prefix s
  pub passed : List Character
  pub whole : electronic s ≡ passed ++ kept left
  pub ascii : all_ascii (electronic s) ≡ all_ascii (kept left)
  pub size : count ≡ length passed
  pub holds : text ≡ padded 34 (text_of passed)
  pub following : List Char
  pub stand : left ≡ placed end following

pub starts : (s text : List ℕ) (left : List (ℕ × Char)) → left ≡ placed 0 (chars s) → text ≡ padded 34 [] → Dropping s left 0 0 text
unfolding text_of
starts s text left p e =
    let all : electronic s ≡ kept left = kept_all s ∙ ap kept (sym p) in
    record {
      few = omega (arith, few_placed left s p);
      prefix = omega (arith, room_start left s p);
      passed = [];
      whole = all;
      ascii = ap all_ascii all;
      size = refl;
      holds = e;
      following = chars s;
      stand = p;
    }

-- a pass that stops refuses
stops : (s : List ℕ) (e : Refusal) → ascii_step s ≡ Err e → Dropped s (Err e)
stops s e f = record { ascii = sym f; holds = λ x q. let z : ◌≡◌ {A = ℕ} 0 1 = cc in absurd (omega arith) }

module _ (s : List ℕ) (left : List (ℕ × Char)) (end count : ℕ) (text : List ℕ) (o : Dropping s left end count text) where
  -- the next character
  module _ (at : ℕ) (c : Char) (rest : List (ℕ × Char)) (p : left ≡ (at, c) ∷ rest) where
    pub at_end : (at ≡ end) × (rest ≡ placed (at + c.width) (others o.following))
    at_end = first_stands end o.following at c rest (sym o.stand ∙ p)

    pub past_blank : white_space c.scalar ≡ true → Dropping s rest (at + c.width) count text
    past_blank e =
        let same : kept left ≡ kept rest = rw (p, e) in
        record {
          few = omega (arith, o.few, ap length p);
          prefix = omega (arith, o.prefix, room_more left rest (at, c) p, at_end.0);
          passed = o.passed;
          whole = o.whole ∙ ap (λ (l : List Character). o.passed ++ l) same;
          ascii = o.ascii ∙ ap all_ascii same;
          size = o.size;
          holds = o.holds;
          following = others o.following;
          stand = at_end.1;
        }

    pub past_char : white_space c.scalar ≡ false → c.scalar < 128 → Dropping s rest (at + c.width) (count + 1) (set text count c.scalar)
    unfolding all_ascii ◌and_then◌
    past_char e small =
        let here : Character = record { place = at; scalar = c.scalar } in
        let next : kept left ≡ here ∷ kept rest = rw (p, e) in
        record {
          few = omega (arith, o.few, ap length p);
          prefix = omega (arith, o.prefix, room_more left rest (at, c) p, at_end.0);
          passed = o.passed ++ (here ∷ []);
          whole = o.whole ∙ ap (λ (l : List Character). o.passed ++ l) next ∙ sym (append_assoc o.passed (here ∷ []) (kept rest));
          ascii = o.ascii ∙ rw (next, lt-ltb c.scalar 128 small);
          size = omega (arith, o.size, length-append o.passed (here ∷ []));
          holds = rw (o.holds, o.size, ← length-text o.passed) (padded-more 34 (text_of o.passed) c.scalar ∙ ap (padded 34) (sym (text-more o.passed here)));
          following = others o.following;
          stand = at_end.1;
        }

    pub beyond_ascii : (e : Refusal) → white_space c.scalar ≡ false → must (ltb c.scalar 128) (Wrong at) 101 ≡ Err e → Dropped s (Err e)
    unfolding ascii_step all_ascii ◌and_then◌
    beyond_ascii e w large =
        let next : kept left ≡ record { place = at; scalar = c.scalar } ∷ kept rest = rw (p, w) in
        stops s e (rw (o.ascii, next, large))

  -- the characters end where none starts, or with the field
  module _ (e : left ≡ []) where
    none : all_ascii (electronic s) ≡ Pass
    unfolding all_ascii
    none = o.ascii ∙ rw e

    pub reached : valid_prefix s ≡ end
    reached = omega (arith, o.prefix, room_none left e)

    pub no_character : (e : Refusal) → must (eqb end (length s)) (Wrong end) 101 ≡ Err e → Dropped s (Err e)
    unfolding ascii_step ◌and_then◌
    no_character e h = stops s e (rw (none, reached) h)

    pub ends : end ≡ length s → Dropped s (Ok (record { count = count; text = text }))
    unfolding ascii_step ◌and_then◌
    ends h =
        let all : o.passed ≡ electronic s = sym (o.whole ∙ ap (λ (l : List (ℕ × Char)). o.passed ++ kept l) e ∙ append-nil o.passed) in
        record {
          ascii = sym (rw (none, reached, eq-eqb end (length s) h));
          holds = λ e q.
              let f : record { count = count; text = text } ≡ e = cc in
              rw (← f) (o.holds ∙ ap (λ (l : List Character). padded 34 (text_of l)) all, o.size ∙ ap length all);
        }
