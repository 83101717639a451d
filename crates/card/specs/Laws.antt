-- The laws of nutrient loads, for any flows v and w and any concentrations.
use Rattle.std.specs.Prelude.{ℕ, ◌*◌, ◌≤◌, List, sum}
use Rattle.std.specs.List.{AllByRecursion}
use Rattle.quantity.specs.declared.load.Concentration.{Concentration}
use Rattle.reservoir.specs.Cells.{AtMost}
use Rattle.card.specs.Limits.{largest_concentration, ConcentrationsWithin}
use Rattle.card.specs.Loads.{loads_of}

-- loads grow with flows: where each flow is at most its fellow, so is each load
abbrev pub LoadsGrow : Type 0
LoadsGrow = (v w : List ℕ) (by_flow : List (List Concentration)) → AtMost v w →
    AtMost (loads_of v by_flow) (loads_of w by_flow)

-- no load is above the largest concentration times all flows together, where no concentration is above the largest
abbrev pub LoadsBounded : Type 0
LoadsBounded = (v : List ℕ) (by_flow : List (List Concentration)) → ConcentrationsWithin by_flow →
    AllByRecursion (λ load. load ≤ largest_concentration * sum v) (loads_of v by_flow)
