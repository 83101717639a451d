-- The rules of one step of a node. What the ground does is the ground's own step.
use Rattle.std.specs.Prelude.{◌≡◌, ℕ, ◌+◌, ◌-◌, ◌*◌, ◌/◌, min, List, [], ◌∷◌, ◌++◌}
use Rattle.card.specs.Limits.{all_areas, hard_areas}
use Rattle.card.specs.Loads.{loads_of}
use Rattle.card.specs.declared.card.Card.{Card}
use Rattle.ground.specs.Limits.{InRange}
use Rattle.ground.specs.Rules.{Soaked, soaked, slow_part, quick_part}
use Rattle.ground.specs.Seepage.{rising_part}
use Rattle.ground.specs.declared.forcing.Forcing.{Forcing}
use Rattle.places.specs.States.{EachAccepts, each_gives, each_leaves}
use Rattle.quantity.specs.Amounts.{volume_of}
use Rattle.reservoir.specs.Meaning.{Make}
use Rattle.node.specs.Stores.{Store}

-- On hard surface, which is open, paved and sewer area, evaporates the smaller of the rain and the demand of 125
-- hundredths of the reference evaporation; the rest runs off.
abbrev pub hard_evaporation : Forcing → ℕ
hard_evaporation f = min f.rain.0 (125 * f.evaporation.0 / 100)

abbrev pub hard_runoff : Forcing → ℕ
hard_runoff f = f.rain.0 - hard_evaporation f

-- what the ground of a node does in a step
abbrev pub soaking : Store → Forcing → Soaked
soaking n f = soaked n.card.soil n.moisture n.depression f

-- what goes into the reservoirs, in the order of the places
abbrev pub inflows : Card → Forcing → Soaked → List ℕ
inflows c f r =
    volume_of (hard_runoff f) c.areas.open.0
    ∷ volume_of (hard_runoff f) c.areas.paved.0
    ∷ volume_of (hard_runoff f) c.areas.sewer.0
    ∷ volume_of r.excess c.areas.unpaved.0
    ∷ quick_part c.soil (volume_of r.percolation c.areas.unpaved.0)
    ∷ slow_part c.soil (volume_of r.percolation c.areas.unpaved.0)
    ∷ []

-- the rain on all areas, and the seepage that rises over all areas
abbrev pub rained : Card → Forcing → ℕ
rained c f = volume_of f.rain.0 (all_areas c.areas)

abbrev pub risen : Card → Forcing → ℕ
risen c f = volume_of (rising_part f.seepage) (all_areas c.areas)

-- what an accepted step answers: seven flows, what evaporated and transpired, what sank, and a load for each nutrient
pub record Yielded : Type 0 where
  pub flows : List ℕ
  pub evaporated : ℕ
  pub sunk : ℕ
  pub loads : List ℕ

-- the flows: what the six reservoirs give, then the rising seepage
abbrev pub flows_of : List Make → Store → Forcing → List ℕ
flows_of makes n f =
    each_gives makes n.reservoirs (inflows n.card f (soaking n f)) ++ (risen n.card f ∷ [])

abbrev pub yield_of : List Make → Store → Forcing → Yielded
yield_of makes n f = record {
  flows = flows_of makes n f;
  evaporated = volume_of (hard_evaporation f) (hard_areas n.card.areas)
      + volume_of (soaking n f).transpiration n.card.areas.unpaved.0;
  sunk = volume_of (soaking n f).sinking n.card.areas.unpaved.0;
  loads = loads_of (flows_of makes n f) n.card.concentrations.by_flow;
}

-- the node that an accepted step leaves
abbrev pub after : List Make → Store → Forcing → Store
after makes n f = record {
  card = n.card;
  moisture = (soaking n f).moisture;
  depression = (soaking n f).depression;
  reservoirs = each_leaves makes n.reservoirs (inflows n.card f (soaking n f));
}

-- An accepted step: the forcing is in range, every reservoir has room, and what is answered and left is what the rules give.
pub record Accepted (makes : List Make) (before : Store) (f : Forcing) (y : Yielded) (left : Store) : Type 0 where
  pub in_range : InRange f
  pub room : EachAccepts before.reservoirs (inflows before.card f (soaking before f))
  pub answer : y ≡ yield_of makes before f
  pub leaves : left ≡ after makes before f
