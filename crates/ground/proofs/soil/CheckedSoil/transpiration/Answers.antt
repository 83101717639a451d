use Rattle.ground.proofs.Flows.{transpiration_laws}
use Rattle.ground.proofs.soil.CheckedSoil.transpiration.Goals as goal

pub returns-clause-laws : goal.returns-clause-laws
returns-clause-laws c = transpiration_laws
