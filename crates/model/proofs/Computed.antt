-- The worked calls, computed.
use Rattle.std.proofs.Common.{refl}
use Rattle.ground.specs.Rules.{soaked}
use Rattle.model.specs.Refusals.{verdict}
use Rattle.model.specs.Worked.{WorkedCalls}

pub worked_calls : WorkedCalls
unfolding verdict soaked
worked_calls = record { run = refl; no_room = refl; opening_fits = refl; opening_past = refl; step_fits = refl; step_past = refl }
