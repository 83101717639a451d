-- The places by their numbers, and volumes in the order of the places.
use Rattle.std.specs.Prelude.{ℕ, List, [], ◌∷◌}
use Rattle.quantity.specs.declared.water.Centilitres.{Centilitres}
use Rattle.reservoir.specs.Cells.{volumes}
use Rattle.places.specs.declared.place.Place.{Place}
use Rattle.places.specs.declared.place.Place.TheVariants.{Open, Paved, Sewer, Surface, Quick, Slow}
use Rattle.places.specs.declared.volumes.Volumes.{Volumes}

abbrev pub number : Place → ℕ
number Open = 1
number Paved = 2
number Sewer = 3
number Surface = 4
number Quick = 5
number Slow = 6

-- the volumes for each place
abbrev pub in_order : Volumes → List Centilitres
in_order v = v.open ∷ v.paved ∷ v.sewer ∷ v.surface ∷ v.quick ∷ v.slow ∷ []

-- their numbers of centilitres
abbrev pub listed : Volumes → List ℕ
listed v = volumes (in_order v)
