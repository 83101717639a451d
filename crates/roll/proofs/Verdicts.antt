-- A step that a node refuses is one that the rules would refuse, and leaves the node as it was.
use Rattle.std.proofs.Common.{◌≡◌, List, Err}
use Rattle.ground.specs.declared.forcing.Forcing.{Forcing}
use Rattle.model.specs.Refusals.{would_refuse, verdict}
use Rattle.model.proofs.Offered.{verdict_offered}
use Rattle.node.specs.Answers.{Steps}
use Rattle.node.specs.Faults.{step_refusal}
use Rattle.node.specs.Stores.{Store}
use Rattle.node.specs.declared.fault.StepFault.{StepFault}
use Rattle.node.specs.declared.fault.StepFault.TheVariants.{OutOfRange, Reservoir}
use Rattle.reservoir.specs.Meaning.{Make}

pub step_refused : (makes : List Make) (n m : Store) (f : Forcing) (fault : StepFault) → Steps makes n f (Err fault) m →
    (verdict n f ≡ would_refuse (step_refusal fault)) × (m ≡ n)
step_refused makes n m f OutOfRange h = (verdict_offered n f (Err OutOfRange) h.0, h.1)
step_refused makes n m f (Reservoir placed) h = (verdict_offered n f (Err (Reservoir placed)) h.0, h.1)
