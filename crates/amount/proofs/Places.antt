-- What the rule of an amount says fits a verdict.
use Prim.Native.Nat.{ℕ, ◌+◌, ◌-◌, ◌^◌, ◌≤◌, ◌<◌}
use mathlib.Core.Bool.{Bool, true, false, cond}
use mathlib.Core.List.{List}
use native.Mathlib.Omega.{arith}
use lib.Dec.{eqb}
use lib.ListN.{length, get_or}
use Rattle.text.proofs.Fields.{first-most}
use Rattle.text.proofs.Near.{Near, Small, Short, nears}
use Rattle.text.specs.Field.{dot}
use Rattle.amount.specs.Amount.{no_minus, start, at_most, part, fraction, not_zero, validate_amount}

start_near : (s : List ℕ) → start s < 2 ^ 16
unfolding start
start_near s = go (eqb (get_or s 0 0) 43)
  where
    go : (t : Bool) → cond t 1 0 < 2 ^ 16
    go true = omega arith
    go false = omega arith

module _ (s : List ℕ) (h : Short s) where
  part_near : (from to most k : ℕ) → from < 2 ^ 16 → to ≤ length s → Near (part s from to most k)
  unfolding part at_most
  part_near from to most k f t =
      let g : to < 2 ^ 16 = omega arith in
      let v : to - from < 2 ^ 64 = omega arith in
      search nears depth 9

  pub amount_small : Small (validate_amount s)
  unfolding validate_amount no_minus fraction not_zero
  amount_small =
      let d = first-most 46 s in
      let f : dot s + 1 < 2 ^ 16 = omega arith in
      let g : length s ≤ length s = omega arith in
      search (nears, part_near, start_near) depth 9
