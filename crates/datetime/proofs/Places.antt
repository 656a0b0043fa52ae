-- What the rules of dates and datetimes say fits a verdict.
use Prim.Native.Nat.{ℕ, ◌+◌, ◌^◌, ◌≤◌, ◌<◌}
use mathlib.Core.Path.{◌≡◌}
use mathlib.Core.List.{List}
use native.Mathlib.Omega.{arith}
use lib.Dec.{ltb, ltb→lt}
use lib.ListN.{length}
use Rattle.answer.specs.Steps.{check, must}
use Rattle.answer.specs.declared.Reason.TheVariants.{Missing}
use Rattle.answer.specs.Result.{Pass}
use Rattle.answer.proofs.Laws.{test_held, both_pass}
use Rattle.text.proofs.Near.{Near, Small, Short, near_after, nears}
use Rattle.datetime.specs.Date.{date_part, date_answer}
use Rattle.datetime.specs.Datetime.{length_from, clock_part, fraction_part, ends_at, offset_part, zone_part, time_part, datetime_answer}

module _ (s : List ℕ) (h : Short s) where
  part_near : (kind : ℕ) → Near (date_part s kind)
  unfolding date_part
  part_near kind = search nears depth 9

  pub date_small : Small (date_answer s)
  unfolding date_answer
  date_small = search (nears, part_near) depth 9

  clock_near : (kind : ℕ) → Near (clock_part s kind)
  unfolding clock_part
  clock_near kind = search nears depth 9

  fraction_near : (kind : ℕ) → Near (fraction_part s kind)
  unfolding fraction_part
  fraction_near kind = search nears

  -- a zone stands inside the field, and what follows it a few bytes past that
  offset_near : (at kind : ℕ) → at ≤ length s → Near (offset_part s at kind)
  unfolding offset_part ends_at
  offset_near at kind i =
      let a : at + 19 < 2 ^ 16 = omega arith in
      let b : at + 2 < 2 ^ 16 = omega arith in
      let c : at + 3 + 19 < 2 ^ 16 = omega arith in
      let d : at + 5 < 2 ^ 16 = omega arith in
      search nears depth 9

  inside : (at k : ℕ) → must (ltb at (length s)) (Missing (length s)) k ≡ Pass → at + 1 ≤ length s
  inside at k e = omega (arith, ltb→lt at (length s) (test_held (ltb at (length s)) (Missing (length s)) k e))

  zone_near : (at kind : ℕ) → Near (zone_part s at kind)
  unfolding zone_part ends_at
  zone_near at kind =
      near_after _ _ (near_after _ _ (search nears) (λ e. let f : at < 2 ^ 16 = omega (arith, inside at (check kind 20) e) in search nears))
      (λ e. let g = inside at (check kind 20) (both_pass _ _ e).0 in
      let f : at + 1 < 2 ^ 16 = omega arith in
      search (nears, offset_near))

  time_near : (kind : ℕ) → Near (time_part s kind)
  unfolding time_part
  time_near kind = search (nears, clock_near, fraction_near, zone_near)

  pub datetime_small : Small (datetime_answer s)
  unfolding datetime_answer length_from
  datetime_small = search (nears, part_near, time_near) depth 9
