-- The laws of nutrient loads.
use Rattle.std.proofs.Common.{ℕ, ◌*◌, ◌≤◌, List, [], ◌∷◌, map, sum}
use Rattle.std.specs.List.{AllByRecursion}
use Rattle.reservoir.specs.Cells.{AtMost}
use Rattle.card.specs.Limits.{largest_concentration}
use Rattle.card.specs.Loads.{nutrients, in_each_flow, nutrient_load}
use Rattle.card.specs.Laws.{LoadsGrow, LoadsBounded}
use Rattle.card.proofs.Carried.{carried_grows, carried_bounded, in_one_flow}

at_most_map : (f g : ℕ → ℕ) → ((n : ℕ) → f n ≤ g n) → (ns : List ℕ) → AtMost (map f ns) (map g ns)
at_most_map f g h [] = tt
at_most_map f g h (n ∷ ns) = (h n, at_most_map f g h ns)

all_map : (P : ℕ → Type 0) (f : ℕ → ℕ) → ((n : ℕ) → P (f n)) → (ns : List ℕ) → AllByRecursion P (map f ns)
all_map P f h [] = tt
all_map P f h (n ∷ ns) = (h n, all_map P f h ns)

pub loads_grow : LoadsGrow
loads_grow v w by_flow h =
    at_most_map (nutrient_load v by_flow) (nutrient_load w by_flow) (λ n. carried_grows v w (in_each_flow by_flow n) h) nutrients

pub loads_bounded : LoadsBounded
loads_bounded v by_flow h =
    all_map (λ load. load ≤ largest_concentration * sum v) (nutrient_load v by_flow)
    (λ n. carried_bounded largest_concentration v (in_each_flow by_flow n) (λ i. rw (in_one_flow by_flow n i) (h i n))) nutrients
