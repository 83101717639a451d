-- A reservoir's fault with its place, as three numbers: the fault's cause and layer, and the number of the place.
use Rattle.reservoir.specs.Faults.{refusal}
use Rattle.reservoir.specs.declared.fault.Fault.{Fault}
use Rattle.reservoir.specs.declared.fault.Refusal.{Refusal}
use Rattle.std.specs.Prelude.{Ok, Err, Result}
use Rattle.places.specs.Numbers.{number}
use Rattle.places.specs.declared.fault.PlacedFault.{PlacedFault}
use Rattle.places.specs.declared.place.Place.{Place}

abbrev pub placed_refusal : PlacedFault → Refusal
placed_refusal fault =
    record { cause = (refusal fault.fault).cause; layer = (refusal fault.fault).layer; place = number fault.place }

-- an answer of the reservoir at a place, with the place put to a fault
abbrev pub placed : {T : Type 0} → Result T Fault → Place → Result T PlacedFault
placed (Ok value) place = Ok value
placed (Err fault) place = Err (record { fault = fault; place = place })
