-- Laws of steps, for the proofs of rules: what a chain's calls ensure, joined.
use Prim.Native.Nat.{ℕ}
use mathlib.Core.Path.{◌≡◌, refl, ap}
use mathlib.Core.Bool.{Bool, true, false}
use native.Mathlib.Omega.{arith}
use lib.Dec.{T}
use Rattle.std.specs.Prelude.{Err}
use Rattle.answer.specs.declared.Reason.{Reason}
use Rattle.answer.specs.declared.Refusal.{Refusal}
use Rattle.answer.specs.Result.{Accepted, refusal}
use Rattle.answer.specs.Result.{Step, Pass, Stop}
use Rattle.answer.specs.Steps.{must, ◌and_then◌, ◌or_accept◌}

-- two stops that are equal have equal parts
pub stops_alike : {r q : Reason} {k j : ℕ} → Stop r k ≡ Stop q j → (r ≡ q) × (k ≡ j)
stops_alike {r} {q} {k} {j} e = let f : refusal r k ≡ refusal q j = cc in (ap (λ (x : Refusal). x.reason) f, ap (λ (x : Refusal). x.check) f)

-- where a step stops, the whole chain stops with its refusal
pub stops : {a : Step} {e : Refusal} (b : Step) → a ≡ Err e → a and_then b ≡ Err e
unfolding ◌and_then◌
stops b e = rw e

-- where a step passes, the chain says what the next step says
pub passes : {a : Step} (b : Step) → a ≡ Pass → a and_then b ≡ b
unfolding ◌and_then◌
passes b e = rw e

-- a rule's answer is the refusal of the step that stopped, and acceptance where all passed
pub refuses : {a : Step} {e : Refusal} (n : ℕ) → a ≡ Err e → a or_accept n ≡ Err e
unfolding ◌or_accept◌
refuses n e = rw e

pub accepts : {a : Step} (n : ℕ) → a ≡ Pass → a or_accept n ≡ Accepted n
unfolding ◌or_accept◌
accepts n e = rw e

-- for a function whose steps are handed on by `?`: what each `?` has shown of the chain
pub ruleset steps = (stops, passes, refuses, accepts)

-- a chain that passes passes at each step
pub both_pass : (a b : Step) → a and_then b ≡ Pass → (a ≡ Pass) × (b ≡ Pass)
unfolding ◌and_then◌
both_pass Pass b e = (refl, e)
both_pass (Err x) b e = let z : ◌≡◌ {A = ℕ} 0 1 = cc in absurd (omega arith)

-- a rule that accepts has passed each step
pub accepted_pass : (a : Step) (m n : ℕ) → a or_accept m ≡ Accepted n → a ≡ Pass
unfolding ◌or_accept◌
accepted_pass Pass m n e = refl
accepted_pass (Err x) m n e = let z : ◌≡◌ {A = ℕ} 0 1 = cc in absurd (omega arith)

-- a test that let the chain pass held
pub test_held : (t : Bool) (r : Reason) (k : ℕ) → must t r k ≡ Pass → T t
test_held true r k e = tt
test_held false r k e = let z : ◌≡◌ {A = ℕ} 0 1 = cc in absurd (omega arith)

pub test_held_true : (t : Bool) (r : Reason) (k : ℕ) → must t r k ≡ Pass → t ≡ true
test_held_true true r k e = refl
test_held_true false r k e = let z : ◌≡◌ {A = ℕ} 0 1 = cc in absurd (omega arith)

-- a chain may be cut anywhere
pub regroup : (a b d : Step) → (a and_then b) and_then d ≡ a and_then (b and_then d)
unfolding ◌and_then◌
regroup Pass b d = refl
regroup (Err x) b d = refl
