-- Concentrations that are within their limits, tested one after the other.
use Rattle.std.proofs.Common.{◌≡◌, suc, Bool, true, nat_le, List, [], ◌∷◌, refl}
use Rattle.std.specs.List.{list_all, flat_map}
use Rattle.std.proofs.lemmas.Bool.{le-leb, and_from}
use Rattle.std.proofs.lemmas.List.Folds.{list_all-append}
use Rattle.quantity.specs.declared.load.Concentration.{Concentration}
use Rattle.card.specs.Limits.{FlowWithin, ConcentrationsWithin, largest_concentration}

abbrev pub may_be : Concentration → Bool
may_be concentration = nat_le concentration.0 largest_concentration

flow_may_be : (of_flow : List Concentration) → FlowWithin of_flow → list_all may_be of_flow ≡ true
flow_may_be [] h = refl
flow_may_be (k ∷ ks) h = and_from _ _ (le-leb _ _ (h 0)) (flow_may_be ks (λ nutrient. h (suc nutrient)))

pub all_may_be : (by_flow : List (List Concentration)) → ConcentrationsWithin by_flow → list_all may_be (flat_map (λ of_flow. of_flow) by_flow) ≡ true
all_may_be [] h = refl
all_may_be (f ∷ fs) h =
    rw list_all-append (and_from _ _ (flow_may_be f (h 0)) (all_may_be fs (λ flow. h (suc flow))))
