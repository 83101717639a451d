-- The tests of a card's numbers find the fault that checking answers.
use Rattle.std.proofs.Common.{◌≡◌, zero, suc, Bool, true, false, List, [], ◌∷◌, Ok, Err, refl, ◌∙◌, ⊎_elim, arith}
use Rattle.std.proofs.lemmas.Bool.{lt-ltb, le-leb, ltb-true, leb-true, and_from, and_parts, cases_Bool, cond-true, cond-false}
use Rattle.card.specs.Limits.{AreasWithin, FlowWithin, ConcentrationsWithin}
use Rattle.card.specs.declared.areas.Areas.{Areas as CardAreas}
use Rattle.card.specs.declared.fault.CardFault.TheVariants.{Areas, Soil, Concentrations}
use Rattle.ground.specs.Limits.{Admissible}
use Rattle.ground.specs.declared.soil.Soil.{Soil as CardSoil}
use Rattle.quantity.specs.declared.load.Concentration.{Concentration}
use Rattle.session.specs.Cards.{areas_fit, soil_fits, flow_fits, concentrations_fit, card_fault}
use Rattle.session.specs.Laws.{CardFaultIsCheck}

-- a test that holds where a statement does is false where it does not
false_without : {P : Type 0} (b : Bool) → (b ≡ true → P) → (P → ⊥) → b ≡ false
false_without b holds not' = ⊎_elim (λ (t : b ≡ true). elim (not' (holds t)) [ ]) (λ (t : b ≡ false). t) (cases_Bool b)

areas_from : (a : CardAreas) → AreasWithin a → areas_fit a ≡ true
areas_from a h = and_from _ _ (le-leb _ _ h.together) (lt-ltb _ _ h.some)

areas_to : (a : CardAreas) → areas_fit a ≡ true → AreasWithin a
areas_to a t =
    let p = and_parts _ _ t in
    let all = leb-true _ _ p.0 in
    record {
      «open» = omega arith;
      paved = omega arith;
      sewer = omega arith;
      unpaved = omega arith;
      together = all;
      some = ltb-true _ _ p.1;
    }

soil_from : (s : CardSoil) → Admissible s → soil_fits s ≡ true
soil_from s h =
    and_from _ _ (le-leb _ _ h.wilting_point) (and_from _ _ (lt-ltb _ _ h.field_capacity) (and_from _ _ (le-leb _ _ h.saturation)
    (and_from _ _ (le-leb _ _ h.infiltration_limit) (and_from _ _ (le-leb _ _ h.depression_limit) (and_from _ _ (le-leb _ _ h.percolation_limit)
    (and_from _ _ (le-leb _ _ h.crop_factor) (le-leb _ _ h.slow_share)))))))

soil_to : (s : CardSoil) → soil_fits s ≡ true → Admissible s
soil_to s t =
    let p0 = and_parts _ _ t in
    let p1 = and_parts _ _ p0.1 in
    let p2 = and_parts _ _ p1.1 in
    let p3 = and_parts _ _ p2.1 in
    let p4 = and_parts _ _ p3.1 in
    let p5 = and_parts _ _ p4.1 in
    let p6 = and_parts _ _ p5.1 in
    record {
      wilting_point = leb-true _ _ p0.0;
      field_capacity = ltb-true _ _ p1.0;
      saturation = leb-true _ _ p2.0;
      infiltration_limit = leb-true _ _ p3.0;
      depression_limit = leb-true _ _ p4.0;
      percolation_limit = leb-true _ _ p5.0;
      crop_factor = leb-true _ _ p6.0;
      slow_share = leb-true _ _ p6.1;
    }

flow_from : (cs : List Concentration) → FlowWithin cs → flow_fits cs ≡ true
flow_from [] h = refl
flow_from (c ∷ cs) h = and_from _ _ (le-leb _ _ (h 0)) (flow_from cs (λ n. h (suc n)))

flow_to : (cs : List Concentration) → flow_fits cs ≡ true → FlowWithin cs
flow_to [] t n = omega arith
flow_to (c ∷ cs) t zero = leb-true _ _ (and_parts _ _ t).0
flow_to (c ∷ cs) t (suc n) = flow_to cs (and_parts _ _ t).1 n

concentrations_from : (flows : List (List Concentration)) → ConcentrationsWithin flows → concentrations_fit flows ≡ true
concentrations_from [] h = refl
concentrations_from (f ∷ fs) h = and_from _ _ (flow_from f (h 0)) (concentrations_from fs (λ n. h (suc n)))

concentrations_to : (flows : List (List Concentration)) → concentrations_fit flows ≡ true → ConcentrationsWithin flows
concentrations_to [] t n = flow_to [] refl
concentrations_to (f ∷ fs) t zero = flow_to f (and_parts _ _ t).0
concentrations_to (f ∷ fs) t (suc n) = concentrations_to fs (and_parts _ _ t).1 n

pub card_fault_is_check : CardFaultIsCheck
unfolding card_fault
card_fault_is_check card (Ok checked) h =
    cond-true _ _ _ (areas_from card.areas h.0.0) ∙ cond-true _ _ _ (soil_from card.soil h.0.1)
    ∙ cond-true _ _ _ (concentrations_from card.concentrations.by_flow h.0.2)
card_fault_is_check card (Err Areas) h = cond-false _ _ _ (false_without _ (areas_to card.areas) h)
card_fault_is_check card (Err Soil) h =
    cond-true _ _ _ (areas_from card.areas h.0) ∙ cond-false _ _ _ (false_without _ (soil_to card.soil) h.1)
card_fault_is_check card (Err Concentrations) h =
    cond-true _ _ _ (areas_from card.areas h.0) ∙ cond-true _ _ _ (soil_from card.soil h.1)
    ∙ cond-false _ _ _ (false_without _ (concentrations_to card.concentrations.by_flow) h.2)
