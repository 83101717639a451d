-- The nutrient loads of a node's flows. Flows are in centilitres, loads in tenths of a microgram.
use Rattle.std.specs.Prelude.{ℕ, ◌+◌, List, [], ◌∷◌, map}
use Rattle.std.specs.List.{range_with_len}
use Rattle.quantity.specs.Amounts.{load_of}
use Rattle.quantity.specs.declared.load.Concentration.{Concentration}
use Rattle.quantity.specs.declared.load.Load.{Load}
use Rattle.card.specs.Limits.{nutrient_count, concentration_of}

-- what flows carry at their concentrations: the sum of each flow's load
abbrev pub carried : List ℕ → List ℕ → ℕ
carried [] concentrations = 0
carried (flow ∷ flows) [] = 0
carried (flow ∷ flows) (concentration ∷ concentrations) = load_of flow concentration + carried flows concentrations

-- the concentration of one nutrient in each flow
abbrev pub in_each_flow : List (List Concentration) → ℕ → List ℕ
in_each_flow by_flow nutrient = map (λ of_flow. concentration_of of_flow nutrient) by_flow

-- the load of one nutrient
abbrev pub nutrient_load : List ℕ → List (List Concentration) → ℕ → ℕ
nutrient_load flows by_flow nutrient = carried flows (in_each_flow by_flow nutrient)

-- the nutrients, by their places
abbrev pub nutrients : List ℕ
nutrients = range_with_len 0 nutrient_count

-- the load of each nutrient
abbrev pub loads_of : List ℕ → List (List Concentration) → List ℕ
loads_of flows by_flow = map (nutrient_load flows by_flow) nutrients

-- the numbers of loads
abbrev pub tenths : List Load → List ℕ
tenths loads = map (λ load. load.0) loads
