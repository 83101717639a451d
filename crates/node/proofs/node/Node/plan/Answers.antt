use Rattle.std.proofs.Common.{◌*◌, ◌≤◌, ap, mul-le-mul, arith}
use Rattle.node.proofs.node.Node.plan.Goals as goal

pub overflow_sub-result : goal.overflow_sub-result
overflow_sub-result g c =
    let w = (c.slow_part-slow.ensures.laws c.soil.result.numbers c.soil.result.admissible).within c.mul-percolated.result.0 in
    omega (arith, c.slow_part-slow.ensures.value)

-- no more evaporates than the rain, and no more transpires than the rain and what the ground holds
pub overflow_add-result : goal.overflow_add-result
overflow_add-result g c =
    let s = c.args.self.now.ground in
    let f = c.args.forcing.now in
    let e : c.hard_surface_evaporation-evaporation.result.0 ≤ 100000 = omega arith in
    let h : c.hard.result.0 ≤ 100000000 = omega (arith, c.args.self.now.areas.within.together) in
    let b = (c.after-soaking.ensures.balance s.soil.numbers s.soil.admissible s.moisture.0 s.depression.0 f.numbers).ground in
    let v = ap (λ r. r.transpiration) c.after-soaking.ensures.value in
    let t : c.after-soaking.result.transpiration.0 ≤ 400000 = omega (arith, s.soil.admissible.saturation, s.soil.admissible.depression_limit, s.within, f.in_range.rain) in
    let u : c.numbers-areas.result.unpaved.0 ≤ 100000000 = omega (arith, c.numbers-areas.ensures.within.together) in
    let x : c.hard_surface_evaporation-evaporation.result.0 * c.hard.result.0 ≤ 100000 * 100000000 = mul-le-mul e h in
    let y : c.after-soaking.result.transpiration.0 * c.numbers-areas.result.unpaved.0 ≤ 400000 * 100000000 = mul-le-mul t u in
    omega (arith, c.mul-6.ensures, c.mul-7.ensures)
