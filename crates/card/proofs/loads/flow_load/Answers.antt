use Rattle.std.proofs.Common.{◌-◌, ◌^◌, ◌≤◌, mul-le-mul, arith, rules}
use Rattle.card.proofs.loads.flow_load.Goals as goal

pub returns : goal.returns
returns c =
    let volume : c.args.volume.0 ≤ 2 ^ 64 - 1 = search rules in
    let concentration : c.args.concentration.0 ≤ 2 ^ 32 - 1 = search rules in
    let load = mul-le-mul volume concentration in record { value = c.mul.ensures; fits = omega arith }
