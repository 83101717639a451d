use Rattle.card.proofs.Laws.{loads_grow, loads_bounded}
use Rattle.card.proofs.concentrations.CheckedConcentrations.loads.Goals as goal

pub returns-clause-grow : goal.returns-clause-grow
returns-clause-grow c = loads_grow

pub returns-clause-bounded : goal.returns-clause-bounded
returns-clause-bounded c = loads_bounded
