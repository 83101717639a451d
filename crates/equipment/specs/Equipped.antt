-- The reservoirs that the fractions of a sheet make in the six places of a node.
use Rattle.std.specs.Prelude.{◌≡◌, Bool, true, false, cond, ◌&&◌, List, [], ◌∷◌, Ok, Err, Result, nat_le}
use Rattle.command.specs.declared.command.Fractions.{Fractions}
use Rattle.places.specs.States.{State}
use Rattle.places.specs.declared.fault.PlacedFault.{PlacedFault}
use Rattle.places.specs.declared.place.Place.{Place}
use Rattle.places.specs.declared.place.Place.TheVariants.{Open, Paved, Sewer, Surface, Quick, Slow}
use Rattle.reservoir.specs.Makes.{fractions, steps}
use Rattle.reservoir.specs.Meaning.{Settings, joined}
use Rattle.reservoir.specs.declared.fault.Fault.{Fault}
use Rattle.reservoir.specs.declared.fault.Fault.TheVariants.{InvalidSettings}

-- the fractions are a linear reservoir's: recession ≤ retention ≤ 65,535
abbrev pub valid : Fractions → Bool
valid f = nat_le f.recession f.retention && nat_le f.retention 65535

-- the settings of a linear reservoir of the fractions
abbrev pub linear : Fractions → Settings
linear f = fractions f.recession f.retention

-- an empty linear reservoir of the fractions
abbrev pub linear_of : Fractions → State
linear_of f = record { settings = linear f; cells = 0 ∷ [] }

-- What stands in a place, empty: a linear reservoir; in the sewer followed by a lag of one step, and in the slow place by
-- another that is alike.
abbrev pub standing : Place → Fractions → State
standing Open f = linear_of f
standing Paved f = linear_of f
standing Sewer f = record { settings = joined (linear f) (steps 1); cells = 0 ∷ 0 ∷ [] }
standing Surface f = linear_of f
standing Quick f = linear_of f
standing Slow f = record { settings = joined (linear f) (linear f); cells = 0 ∷ 0 ∷ [] }

-- the settings of a place are not valid
abbrev pub invalid : Place → PlacedFault
invalid place = record { fault = InvalidSettings; place = place }

-- a reservoir with those of the places after its own, if they are made
abbrev pub with : State → Result (List State) PlacedFault → Result (List State) PlacedFault
with s (Ok states) = Ok (s ∷ states)
with s (Err fault) = Err fault

-- Place by place: the lowest whose fractions are not valid is refused.
abbrev pub equips : List Place → List Fractions → Result (List State) PlacedFault
equips [] fs = Ok []
equips (place ∷ places) [] = Ok []
equips (place ∷ places) (f ∷ fs) = cond (valid f) (with (standing place f) (equips places fs)) (Err (invalid place))

abbrev pub equipment : List Fractions → Result (List State) PlacedFault
equipment fs = equips (Open ∷ Paved ∷ Sewer ∷ Surface ∷ Quick ∷ Slow ∷ []) fs

-- Providing a reservoir: refused if and only if the fractions are not valid; else the reservoir is in the state s.
-- The first argument says which state a reservoir of the type R is in.
abbrev pub Provides : {R : Type 0} → (R → State) → Fractions → State → Result R Fault → Type 0
Provides state f s (Ok r) = (valid f ≡ true) × (state r ≡ s)
Provides state f s (Err fault) = (valid f ≡ false) × (fault ≡ InvalidSettings)
