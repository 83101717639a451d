use Rattle.std.proofs.Common.{rules}
use Rattle.hydrograph.specs.Prepared.{Prepares}
use Rattle.hydrograph.proofs.Made.{prepared}
use Rattle.hydrograph.proofs.storm.reservoirs_of.Goals as goal

pub returns : goal.returns
returns c =
    let numbers = c.in_ok-recession.field-0 in
    prepared c.args.line.now numbers Prepares c.side_by_side.result ((c.naturals.ensures numbers).0 (search rules)) c.side_by_side.ensures
