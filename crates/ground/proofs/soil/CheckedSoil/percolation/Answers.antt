use Rattle.std.proofs.Common.{arith}
use Rattle.ground.proofs.Shares.{share_within}
use Rattle.ground.proofs.Flows.{percolation_laws}
use Rattle.ground.proofs.soil.CheckedSoil.percolation.Goals as goal

pub overflow_cast-result : goal.overflow_cast-result
overflow_cast-result c =
    let w = share_within c.from-limit.result c.from-2.result c.from.result (omega arith) in omega arith

pub returns-clause-laws : goal.returns-clause-laws
returns-clause-laws c = percolation_laws
