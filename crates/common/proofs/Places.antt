-- What the rules of cents say fits a verdict, the cents among it.
use Prim.Native.Nat.{ℕ, ◌+◌, ◌-◌, ◌^◌, ◌≤◌, ◌<◌}
use mathlib.Core.Path.{◌≡◌}
use mathlib.Core.Bool.{Bool, true, false, ◌&&◌, cond}
use mathlib.Core.List.{List}
use native.Mathlib.Omega.{arith}
use lib.Dec.{eqb, ltb, ltb→lt}
use lib.ListN.{length, get_or}
use Rattle.answer.specs.declared.Reason.TheVariants.{TooLarge}
use Rattle.answer.specs.Result.{Pass}
use Rattle.answer.proofs.Laws.{test_held, both_pass}
use Rattle.text.proofs.Fields.{first-most}
use Rattle.text.proofs.Near.{Near, Small, Short, small_accept, nears}
use Rattle.text.specs.Field.{dot}
use Rattle.common.specs.Cents.{below64, digits_at, digits, whole, past, fraction, cents, parts, parse_amount_cents, parse_amount_cents_lenient}

one_more : (t : Bool) (n : ℕ) → n ≤ 65000 → cond t (n + 1) n < 2 ^ 16
one_more true n h = omega arith
one_more false n h = omega arith

module _ (s : List ℕ) (h : Short s) where
  whole_near : (from to k : ℕ) → from ≤ 65000 → to < 2 ^ 16 → Near (whole s from to k)
  unfolding whole digits digits_at below64
  whole_near from to k f t = let g = one_more (ltb from to && eqb (get_or s from 0) 43) from f in search nears depth 9

  past_near : past s (dot s) ≤ 65000
  unfolding past
  past_near = go (ltb (dot s) (length s))
    where
      go : (t : Bool) → cond t (dot s + 1) (length s) ≤ 65000
      go true = omega (arith, first-most 46 s)
      go false = omega arith

  parts_near : (least k : ℕ) → Near (parts least s k)
  unfolding parts fraction below64
  parts_near least k =
      let z : 0 ≤ 65000 = omega arith in
      let p = past_near in
      let q : past s (dot s) < 2 ^ 16 = omega arith in
      let v : length s - past s (dot s) < 2 ^ 64 = omega arith in
      let d : dot s < 2 ^ 16 = omega (arith, first-most 46 s) in
      search (nears, whole_near) depth 9

  -- the last step has shown that the cents fit
  cents_fit : (least k : ℕ) → parts least s k ≡ Pass → cents s < 2 ^ 64
  unfolding parts below64
  cents_fit least k e = ltb→lt (cents s) (2 ^ 64) (test_held (ltb (cents s) (2 ^ 64)) TooLarge (k + 9) (both_pass _ _ e).1)

  pub cents_small : Small (parse_amount_cents s)
  unfolding parse_amount_cents
  cents_small =
      let d : dot s < 2 ^ 16 = omega (arith, first-most 46 s) in
      small_accept _ (cents s) (search (nears, parts_near)) (λ e. cents_fit 2 900 (both_pass _ _ e).1)

  pub lenient_small : Small (parse_amount_cents_lenient s)
  unfolding parse_amount_cents_lenient
  lenient_small = small_accept _ (cents s) (parts_near 0 1000) (cents_fit 0 1000)
