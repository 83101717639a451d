-- The numbers of a step's faults. A node is layer 3; a reservoir's fault keeps its layer and has its place.
use Rattle.places.specs.Faults.{placed_refusal}
use Rattle.reservoir.specs.declared.fault.Refusal.{Refusal}
use Rattle.node.specs.declared.fault.StepFault.{StepFault}
use Rattle.node.specs.declared.fault.StepFault.TheVariants.{OutOfRange, Reservoir}

abbrev pub step_refusal : StepFault → Refusal
step_refusal OutOfRange = record { cause = 12; layer = 3; place = 0 }
step_refusal (Reservoir fault) = placed_refusal fault
