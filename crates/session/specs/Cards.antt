-- The first fault of a card, if it has one, by tests of its numbers.
use Rattle.std.specs.Prelude.{Bool, true, cond, ◌&&◌, List, [], ◌∷◌, Some, None, Ok, Err, Option, Result, nat_le, nat_lt}
use Rattle.card.specs.Limits.{all_areas, largest_area, largest_concentration}
use Rattle.card.specs.declared.areas.Areas.{Areas as CardAreas}
use Rattle.card.specs.declared.card.Card.{Card}
use Rattle.card.specs.declared.fault.CardFault.{CardFault}
use Rattle.card.specs.declared.fault.CardFault.TheVariants.{Areas, Soil, Concentrations}
use Rattle.ground.specs.Limits.{wilting_point, field_capacity, saturation_point, infiltration_limit, percolation_limit, depression_limit, drainable_depth}
use Rattle.ground.specs.declared.soil.Soil.{Soil as CardSoil}
use Rattle.quantity.specs.declared.load.Concentration.{Concentration}

-- no area is above all of them together
abbrev pub areas_fit : CardAreas → Bool
areas_fit a = nat_le (all_areas a) largest_area && nat_lt 0 (all_areas a)

abbrev pub soil_fits : CardSoil → Bool
soil_fits s =
    nat_le (wilting_point s) (field_capacity s)
    && (nat_lt (field_capacity s) (saturation_point s)
    && (nat_le (saturation_point s) 200000
    && (nat_le (infiltration_limit s) 100000
    && (nat_le (depression_limit s) 100000
    && (nat_le (percolation_limit s) (drainable_depth s)
    && (nat_le s.crop_factor 200
    && nat_le s.slow_share 100))))))

abbrev pub flow_fits : List Concentration → Bool
flow_fits [] = true
flow_fits (c ∷ cs) = nat_le c.0 largest_concentration && flow_fits cs

abbrev pub concentrations_fit : List (List Concentration) → Bool
concentrations_fit [] = true
concentrations_fit (flow ∷ flows) = flow_fits flow && concentrations_fit flows

-- the areas are tried first, then the soil, then the concentrations
unfoldable pub card_fault : Card → Option CardFault
card_fault card =
    cond (areas_fit card.areas)
    (cond (soil_fits card.soil)
    (cond (concentrations_fit card.concentrations.by_flow) None (Some Concentrations))
    (Some Soil))
    (Some Areas)

-- the fault of an answer, if it is one
abbrev pub fault_in : {X F : Type 0} → Result X F → Option F
fault_in (Ok x) = None
fault_in (Err fault) = Some fault
