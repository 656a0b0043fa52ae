-- What a call does next says of the head, the room and the budget that it was given, case by case.
use Prim.Native.Nat.{ℕ, ◌+◌, ◌≤◌, ◌<◌}
use mathlib.Core.Path.{◌≡◌, refl, subst}
use mathlib.Core.Bool.{Bool, true, false, cond}
use mathlib.Core.List.{List}
use lib.ListN.{length, take}
use lib.Seq.{length-take-le}
use Rattle.record.specs.Head.{head_of}
use native.Mathlib.Omega.{arith}
use lib.Dec.{ltb, eqb}
use borrow.Author.Tests.{ltb-true, ltb-false, eqb-true, eqb-false, ne_eqb, le-ltb}
use Rattle.std.specs.Prelude.{Result, Ok, Err}
use Rattle.record.specs.declared.Head.{Head}
use Rattle.record.specs.declared.NoRecord.{NoRecord}
use Rattle.record.specs.declared.NoRecord.TheVariants.{End, Short, TooLong, CutShort}
use Rattle.record.proofs.Heads.{stands, whole}
use Rattle.verdict.specs.Verdict.{verdict_size}
use Rattle.batch.specs.Walk.{end_of, unless_spent, next_of}
use Rattle.batch.specs.declared.Stop.{Stop}
use Rattle.batch.specs.declared.Stop.TheVariants.{Finished, Budget, Room, Cut, Offset, Long}

-- a turn that judges: a whole record, room for its verdict, and budget
pub record Judged (h : Result Head NoRecord) (room budget : ℕ) (a : Head) : Type 0 where
  pub head : h ≡ Ok a
  pub space : verdict_size ≤ room
  pub left : 0 < budget

-- a turn that stops, by why
abbrev pub Stopping : Result Head NoRecord → ℕ → ℕ → Stop → Type 0
Stopping h room budget Finished = (stands h ≡ false) × (end_of h ≡ Finished)
Stopping h room budget Budget = budget ≡ 0
Stopping h room budget Room = (stands h ≡ true) × (room < verdict_size)
Stopping h room budget Cut = (stands h ≡ false) × (end_of h ≡ Cut)
Stopping h room budget Offset = ⊥
Stopping h room budget Long = (stands h ≡ false) × (end_of h ≡ Long)

abbrev pub Said : Result Head NoRecord → ℕ → ℕ → Result Head Stop → Type 0
Said h room budget (Err s) = Stopping h room budget s
Said h room budget (Ok a) = Judged h room budget a

unless : (h : Result Head NoRecord) (room budget : ℕ) (t : Result Head Stop) → (0 < budget → Said h room budget t) → Said h room budget (unless_spent budget t)
unless h room budget t f = go (eqb budget 0) refl
  where
    go : (b : Bool) → eqb budget 0 ≡ b → Said h room budget (cond b (Err Budget) t)
    go true e = eqb-true budget 0 e
    go false e = let n = eqb-false budget 0 e in f (omega arith)

-- each case of `next_of`
pub said : (h : Result Head NoRecord) (room budget : ℕ) → Said h room budget (next_of h room budget)
unfolding next_of
said (Err End) room budget = (refl, refl)
said (Err Short) room budget = unless (Err Short) room budget (Err Cut) (λ b. (refl, refl))
said (Err TooLong) room budget = unless (Err TooLong) room budget (Err Long) (λ b. (refl, refl))
said (Err CutShort) room budget = unless (Err CutShort) room budget (Err Cut) (λ b. (refl, refl))
said (Ok a) room budget =
    unless (Ok a) room budget (cond (ltb room verdict_size) (Err Room) (Ok a)) (λ b. go b (ltb room verdict_size) refl)
  where
    go : 0 < budget → (t : Bool) → ltb room verdict_size ≡ t → Said (Ok a) room budget (cond t (Err Room) (Ok a))
    go b true e = (refl, ltb-true room verdict_size e)
    go b false e = record { head = refl; space = ltb-false room verdict_size e; left = b }

pub judged : (h : Result Head NoRecord) (room budget : ℕ) (a : Head) → next_of h room budget ≡ Ok a → Judged h room budget a
judged h room budget a e = subst (Said h room budget) e (said h room budget)

pub stopping : (h : Result Head NoRecord) (room budget : ℕ) (s : Stop) → next_of h room budget ≡ Err s → Stopping h room budget s
stopping h room budget s e = subst (Said h room budget) e (said h room budget)

-- a whole record is judged where there is room and budget
pub judges : (room budget : ℕ) (a : Head) → verdict_size ≤ room → 0 < budget → next_of (Ok a) room budget ≡ Ok a
unfolding next_of
judges room budget a space left = simp (ne_eqb budget 0 (omega arith), le-ltb room verdict_size space)

-- what is judged lies in what is left of the batch, and its verdict in what is left of the output
pub lies : (rest : List ℕ) (room budget : ℕ) (a : Head) → next_of (head_of rest) room budget ≡ Ok a → 4 + a.length ≤ length rest
lies rest room budget a e = (whole rest a.kind a.length (judged (head_of rest) room budget a e).head).fits

pub has_room : (h : Result Head NoRecord) (out : List ℕ) (budget : ℕ) (a : Head) → next_of h (length out) budget ≡ Ok a
    → (verdict_size ≤ length out) × (length (take verdict_size out) ≡ verdict_size)
has_room h out budget a e = let f = (judged h (length out) budget a e).space in (f, length-take-le verdict_size out f)
