use Rattle.std.proofs.Common.{◌≡◌, ◌+◌, ap, arith}
use Rattle.places.specs.Laws.{total}
use Rattle.quantity.specs.Amounts.{volume_of}
use Rattle.node.proofs.Steps.{contents_total}
use Rattle.node.proofs.node.Node.storage.Goals as goal

pub returns : goal.returns
returns g c =
    let n = c.args.self.now in
    let e = contents_total (g.P.Places.reservoirs n.reservoirs) in
    let f = ap total c.contents.ensures in
    let v : c.mul.result.0 ≡ volume_of (n.ground.moisture.0 + n.ground.depression.0) n.areas.numbers.unpaved.0 = cc in
    omega (arith, c.total.ensures, c.plus.ensures)
