-- The limits of a card's areas and concentrations. Areas are in square metres, concentrations in hundredths of a mg/l.
use Rattle.std.specs.Prelude.{◌≡◌, ℕ, ◌+◌, ◌<◌, ◌≤◌, List, [], length, get_or, slice_index_or}
use Rattle.quantity.specs.declared.load.Concentration.{Concentration}
use Rattle.card.specs.declared.areas.Areas.{Areas}

-- the open, paved and sewer areas together
abbrev pub hard_areas : Areas → ℕ
hard_areas a = a.«open».0 + a.paved.0 + a.sewer.0

abbrev pub all_areas : Areas → ℕ
all_areas a = hard_areas a + a.unpaved.0

abbrev pub largest_area : ℕ
largest_area = 100000000

-- the areas that a card may have: each within the limit, and all together within it and not 0
pub record AreasWithin (a : Areas) : Type 0 where
  pub «open» : a.«open».0 ≤ largest_area
  pub paved : a.paved.0 ≤ largest_area
  pub sewer : a.sewer.0 ≤ largest_area
  pub unpaved : a.unpaved.0 ≤ largest_area
  pub together : all_areas a ≤ largest_area
  pub some : 0 < all_areas a

-- The concentrations of a node are a list of flows, and of each flow a list of nutrients.

-- open, paved, sewer, surface, quick, slow and rising seepage
abbrev pub flow_count : ℕ
flow_count = 7

-- ammonium, nitrate and phosphor
abbrev pub nutrient_count : ℕ
nutrient_count = 3

-- every flow is there, and has every nutrient
pub record Complete (by_flow : List (List Concentration)) : Type 0 where
  pub flows : length by_flow ≡ flow_count
  pub nutrients : (flow : ℕ) → flow < flow_count → length (slice_index_or by_flow flow []) ≡ nutrient_count

-- the concentration of a nutrient in a flow; 0 of one that is not there
abbrev pub concentration_of : List Concentration → ℕ → ℕ
concentration_of of_flow nutrient = (get_or of_flow nutrient (record { 0 = 0 })).0

abbrev pub largest_concentration : ℕ
largest_concentration = 20000

-- the concentrations that a flow may have
abbrev pub FlowWithin : List Concentration → Type 0
FlowWithin of_flow = (nutrient : ℕ) → concentration_of of_flow nutrient ≤ largest_concentration

-- the concentrations that a card may have
abbrev pub ConcentrationsWithin : List (List Concentration) → Type 0
ConcentrationsWithin by_flow = (flow : ℕ) → FlowWithin (slice_index_or by_flow flow [])
