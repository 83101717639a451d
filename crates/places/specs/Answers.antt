-- What the calls of the six reservoirs answer and leave.
use Rattle.std.specs.Prelude.{◌≡◌, ℕ, List, Ok, Err, Result}
use Rattle.reservoir.specs.Faults.{Full}
use Rattle.reservoir.specs.Meaning.{Make}
use Rattle.places.specs.Numbers.{number, listed}
use Rattle.places.specs.States.{State, EachAccepts, FirstRefusal, each_gives, each_leaves}
use Rattle.places.specs.declared.fault.PlacedFault.{PlacedFault}
use Rattle.places.specs.declared.volumes.Volumes.{Volumes}

-- refused with cause 5, there is no room, at the lowest place that has none
abbrev pub Refuses : List State → List ℕ → PlacedFault → Type 0
Refuses states volumes fault = Full fault.fault × FirstRefusal (number fault.place) states volumes

-- Offering volumes, of which nothing is taken.
abbrev pub Offers : List State → List ℕ → Result (Unit {0}) PlacedFault → Type 0
Offers states volumes (Ok done) = EachAccepts states volumes
Offers states volumes (Err fault) = Refuses states volumes fault

-- Taking volumes: the answer and what the reservoirs are then. All take, or it is refused and all are as they were.
abbrev pub Takes : List Make → List State → List ℕ → Result Volumes PlacedFault → List State → Type 0
Takes makes states volumes (Ok given) after =
    EachAccepts states volumes
    × ((listed given ≡ each_gives makes states volumes) × (after ≡ each_leaves makes states volumes))
Takes makes states volumes (Err fault) after = Refuses states volumes fault × (after ≡ states)
