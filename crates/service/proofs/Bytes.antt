-- Laws of what a run takes of a reader's bytes and adds to a writer's, where these are known.
use Prim.Native.Nat.{ℕ}
use mathlib.Core.Path.{◌≡◌, subst}
use mathlib.Core.Bool.{true}
use mathlib.Core.List.{List, [], ◌++◌}
use native.Mathlib.Omega.{arith}
use Rattle.std.specs.Prelude.{Option, Result, Ok, Err, OnOk, is_ok}
use Rattle.std.specs.Io.KnownBytes.{Appends, Consumes, IsAtEnd}
use Rattle.std.proofs.KnownBytes.{Consumes-nil, Consumes-trans, Appends-nil, Appends-trans}
use Rattle.service.specs.declared.run.Run.{Run}
use Rattle.service.specs.declared.run.Failed.{Failed}
use Rattle.service.specs.Run.{reads_on, came_in, wrote_in, Ahead, TurnAdds, Took, Gave, Turns, then, last_ahead, Passed}
use Rattle.service.proofs.Laws.{Going}

-- what the loop of turns took and gave so far
pub record Flowing (left₀ left held₀ held : Option (List ℕ)) (came wrote : List ℕ) : Type 0 where
  pub taken : Consumes left₀ left came
  pub given : Appends held₀ held wrote

pub flowing_start : (left held : Option (List ℕ)) → Flowing left left held held [] []
flowing_start left held = record { taken = Consumes-nil left; given = Appends-nil held }

module _ (left₀ left₁ left₂ held₀ held₁ held₂ : Option (List ℕ)) (came wrote : List ℕ) (f : Flowing left₀ left₁ held₀ held₁ came wrote)
    (m : Run) (x : Ahead) (t : Took left₁ left₂ m x) (g : Gave held₁ held₂ m x) where
  takes : Consumes left₀ left₂ (came ++ came_in m)
  takes = Consumes-trans left₀ left₁ left₂ came (came_in m) f.taken t.taken

  gives : Appends held₁ held₂ (wrote_in m) → Appends held₀ held₂ (wrote ++ wrote_in m)
  gives h = Appends-trans held₀ held₁ held₂ wrote (wrote_in m) f.given h

  pub flowing_on : x ≡ Ok true → Flowing left₀ left₂ held₀ held₂ (came ++ came_in m) (wrote ++ wrote_in m)
  flowing_on e = record { taken = takes; given = gives (subst (λ (y : Ahead). Gave held₁ held₂ m y) e g) }

  given_at : (y : Result (Unit {0}) Failed) → x ≡ last_ahead y → OnOk y (Appends held₀ held₂ (wrote ++ wrote_in m))
  given_at (Ok u) e = gives (subst (λ (y : Ahead). Gave held₁ held₂ m y) e g)
  given_at (Err why) e = tt

  end_at : (y : Result (Unit {0}) Failed) → x ≡ last_ahead y → OnOk y (reads_on m.stop ≡ true → IsAtEnd left₂)
  end_at (Ok u) e = t.end e
  end_at (Err why) e = tt

pub passed : (left₀ left₁ left₂ held₀ held₁ held₂ : Option (List ℕ)) (s r : Run) (t : Going s r) → Flowing left₀ left₁ held₀ held₁ t.came t.wrote
    → (m : Run) (x : Ahead) → TurnAdds r m x → Took left₁ left₂ m x → Gave held₁ held₂ m x → (y : Result (Unit {0}) Failed) → x ≡ last_ahead y
    → Passed s left₀ left₂ held₀ held₂ m y
passed left₀ left₁ left₂ held₀ held₁ held₂ s r t f m x a k g y e =
    record {
      came = t.came ++ came_in m;
      wrote = t.wrote ++ wrote_in m;
      turns = subst (λ (y : Ahead). Turns s (t.came ++ came_in m) (t.wrote ++ wrote_in m) m y) e (then m x t.turns a);
      taken = takes left₀ left₁ left₂ held₀ held₁ held₂ t.came t.wrote f m x k g;
      given = given_at left₀ left₁ left₂ held₀ held₁ held₂ t.came t.wrote f m x k g y e;
      end = end_at left₀ left₁ left₂ held₀ held₁ held₂ t.came t.wrote f m x k g y e;
    }

-- what a write gives where it succeeded
pub where_written : {T E U D : Type 0} {P Q : Type 0} (r : Result T E) (y : Result U D) → is_ok y ≡ is_ok r → (P → Q) → OnOk r P → OnOk y Q
where_written (Ok x) (Ok y) e f p = f p
where_written (Err x) (Ok y) e f p = let z : ◌≡◌ {A = ℕ} 0 1 = cc in absurd (omega arith)
where_written r (Err y) e f p = tt
