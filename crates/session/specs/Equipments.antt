-- What equipping answers: the reservoirs that are made by their settings and cells, or the fault.
use Rattle.std.specs.Prelude.{List, Ok, Err, Result}
use Rattle.command.specs.declared.command.Fractions.{Fractions}
use Rattle.places.specs.States.{State}
use Rattle.places.specs.declared.fault.PlacedFault.{PlacedFault}

-- how a program makes the reservoirs of six places from a sheet's fractions
abbrev pub Equipping : Type 0
Equipping = List Fractions → Result (List State) PlacedFault

abbrev pub equipped_with : {P : Type 0} → (P → List State) → Result P PlacedFault → Result (List State) PlacedFault
equipped_with reservoirs (Ok places) = Ok (reservoirs places)
equipped_with reservoirs (Err fault) = Err fault
