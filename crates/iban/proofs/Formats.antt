-- From the first pass and the class steps on its text to the definition: the electronic format, and the answer.
use Prim.Native.Nat.{ℕ, ◌≤◌}
use mathlib.Core.Path.{◌≡◌, refl, sym, ◌∙◌, ap}
use mathlib.Core.List.{List}
use native.Mathlib.Omega.{arith}
use lib.ListN.{length, take}
use Rattle.answer.specs.Steps.{◌and_then◌, ◌or_accept◌}
use Rattle.std.specs.Prelude.{Result, Ok, Err}
use Rattle.answer.specs.Result.{Step, Pass, refusal}
use Rattle.answer.specs.declared.Refusal.{Refusal}
use Rattle.answer.specs.declared.Reason.TheVariants.{Length}
use Rattle.answer.proofs.Laws.{both_pass, test_held}
use Rattle.text.specs.Ranges.{within}
use Rattle.text.proofs.Ranges.{within-ends}
use Rattle.checkdigit.specs.Sum.{iban_remainder}
use Rattle.checkdigit.specs.RemainderStep.{remainder_step}
use Rattle.iban.specs.Electronic.{Character, electronic, electronic_text}
use Rattle.iban.specs.Iban.{ascii_step, count_step, class_steps, reason_in, step_in, iban_characters, iban_answer}
use Rattle.iban.specs.Format.{padded, format_by, format_of}
use Rattle.iban.specs.Inner.{Dropped}
use Rattle.iban.specs.declared.Electronic.{Electronic}
use Rattle.iban.proofs.Electronics.{length-text}
use Rattle.iban.proofs.Padded.{length-padded, padded-front}

pub counted : (n : ℕ) → count_step n ≡ Pass → (5 ≤ n) × (n ≤ 34)
unfolding count_step
counted n e = within-ends 5 34 n (test_held (within 5 34 n) (Length 0 n) 102 e)

module _ (s : List ℕ) (r : Result Electronic Refusal) (o : Dropped s r) where
  -- the first pass refuses, and so does the format
  pub dropped_refuses : (e : Refusal) → r ≡ Err e → Err e ≡ format_of s
  unfolding format_of format_by iban_characters ◌and_then◌
  dropped_refuses e f = rw (rw f at (sym o.ascii))

  module _ (h : Electronic) (f : r ≡ Ok h) where
    passes_ascii : ascii_step s ≡ Pass
    passes_ascii = rw f at (sym o.ascii)

    size : h.count ≡ length (electronic_text s)
    size = (o.holds h f).1 ∙ sym (length-text (electronic s))

    pub count_refuses : (e : Refusal) → count_step h.count ≡ Err e → Err e ≡ format_of s
    unfolding format_of format_by iban_characters ◌and_then◌
    count_refuses e g = rw (passes_ascii, ← (o.holds h f).1, g)

    -- the first two steps passed: the text is whole in the 34 bytes
    module _ (g : count_step h.count ≡ Pass) where
      pub room : (h.count ≤ 34) × (length h.text ≡ 34)
      room = ((counted h.count g).1, ap length (o.holds h f).0 ∙ length-padded 34 (electronic_text s))

      front : take h.count h.text ≡ electronic_text s
      front = rw ((o.holds h f).0, size) (padded-front 34 (electronic_text s) (omega (arith, room.0, size)))

      first : iban_characters s ≡ step_in (electronic s) (class_steps (take h.count h.text))
      unfolding iban_characters ◌and_then◌
      first = rw (passes_ascii, ← (o.holds h f).1, g, front)

      pub format_whole : class_steps (take h.count h.text) ≡ Pass → Ok h ≡ format_of s
      unfolding format_of format_by
      format_whole e = rw (first, e, (o.holds h f).0, size)

      pub format_wrong : (e : Refusal) → class_steps (take h.count h.text) ≡ Err e → Err (refusal (reason_in (electronic s) e.reason) e.check) ≡ format_of s
      unfolding format_of format_by
      format_wrong e q = rw (first, q)

-- where the steps pass, the text passed each of them
step_passed : (l : List Character) (x : Step) → step_in l x ≡ Pass → x ≡ Pass
step_passed l Pass e = refl
step_passed l (Err x) e = let z : ◌≡◌ {A = ℕ} 0 1 = cc in absurd (omega arith)

pub record Passed (t : List ℕ) : Type 0 where
  pub low : 5 ≤ length t
  pub high : length t ≤ 34
  pub classes : class_steps t ≡ Pass

pub passed : (s : List ℕ) → iban_characters s ≡ Pass → Passed (electronic_text s)
unfolding iban_characters
passed s e =
    let p = both_pass (ascii_step s and_then count_step (length (electronic s))) (step_in (electronic s) (class_steps (electronic_text s))) e in
    let q = both_pass (ascii_step s) (count_step (length (electronic s))) p.0 in
    let n : (5 ≤ length (electronic_text s)) × (length (electronic_text s) ≤ 34) = rw (length-text (electronic s)) (counted (length (electronic s)) q.1) in
    record { low = n.0; high = n.1; classes = step_passed (electronic s) (class_steps (electronic_text s)) p.1 }

-- the answer from the format
formed : (x : Step) (t : List ℕ) (h : Electronic) → Ok h ≡ format_by x t → (x ≡ Pass) × (h ≡ record { count = length t; text = padded 34 t })
unfolding format_by
formed Pass t h e = (refl, cc)
formed (Err x) t h e = let z : ◌≡◌ {A = ℕ} 0 1 = cc in absurd (omega arith)

unformed : (x : Step) (t : List ℕ) (e : Refusal) → Err e ≡ format_by x t → x ≡ Err e
unfolding format_by
unformed Pass t e f = let z : ◌≡◌ {A = ℕ} 0 1 = cc in absurd (omega arith)
unformed (Err x) t e f = let g : e ≡ x = cc in rw g

module _ (s : List ℕ) (r : Result Electronic Refusal) (o : r ≡ format_of s) where
  pub format_refuses : (e : Refusal) → r ≡ Err e → Err e ≡ iban_answer s
  unfolding format_of iban_answer ◌and_then◌ ◌or_accept◌
  format_refuses e f = rw (unformed (iban_characters s) (electronic_text s) e (sym f ∙ o))

  module _ (h : Electronic) (f : r ≡ Ok h) where
    all_pass : iban_characters s ≡ Pass
    unfolding format_of
    all_pass = (formed (iban_characters s) (electronic_text s) h (sym f ∙ o)).0

    parts : h ≡ record { count = length (electronic_text s); text = padded 34 (electronic_text s) }
    unfolding format_of
    parts = (formed (iban_characters s) (electronic_text s) h (sym f ∙ o)).1

    pub formed_room : (h.count ≤ 34) × (length h.text ≡ 34)
    formed_room = rw parts ((passed s all_pass).high, length-padded 34 (electronic_text s))

    pub text_is : take h.count h.text ≡ electronic_text s
    text_is = rw parts (padded-front 34 (electronic_text s) (passed s all_pass).high)

    pub sum_is : iban_answer s ≡ remainder_step (iban_remainder (take h.count h.text)) 106 or_accept 1
    unfolding iban_answer ◌and_then◌
    sum_is = rw (all_pass, text_is)
