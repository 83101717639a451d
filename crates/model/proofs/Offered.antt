-- What a node's calls answer, in the terms of the district's rules, and that their numbers are exact.
use Rattle.std.proofs.Common.{◌≡◌, ℕ, zero, suc, ◌-◌, ◌*◌, ◌≤◌, true, false, List, [], ◌∷◌, Ok, Err, sym, refl, ap, ◌∙◌, subst, ap₂, ⊎_elim, mul-le-mul, arith}
use Rattle.std.proofs.lemmas.List.Sums.{get_or-le-sum_by}
use Rattle.std.proofs.lemmas.Bool.{cases_Bool, cond-true, cond-false}
use Rattle.card.specs.Limits.{largest_area}
use Rattle.card.specs.declared.card.Card.{Card}
use Rattle.ground.specs.Limits.{field_capacity}
use Rattle.node.specs.Rules.{inflows, soaking}
use Rattle.node.specs.Stores.{Store, opened, storage}
use Rattle.node.specs.declared.fault.StepFault.TheVariants.{OutOfRange, Reservoir}
use Rattle.places.specs.Numbers.{number}
use Rattle.places.specs.States.{State, FirstRefusal, each_holds, each_content}
use Rattle.reservoir.specs.Meaning.{Make}
use Rattle.model.specs.State.{outside, open_with, standing, stored, all_stored, largest_income, District}
use Rattle.model.specs.Refusals.{would_refuse, in_range, no_room_at, asked_for_room, verdict}
use Rattle.model.specs.Laws.{VerdictIsOffer}
use Rattle.model.specs.Runs.{Checked}
use Rattle.model.specs.Soundness.{WithinCapacity, Sound}
use Rattle.model.proofs.Rolls.{open_stands}
use Rattle.model.proofs.Nodes.{opened_storage}
use Rattle.model.proofs.Within.{totals_within}
use Rattle.model.proofs.Verdicts.{in_range_true, range_in_true, asked_all, asked_first}

first_without_room : (k : ℕ) (ss : List State) (vs : List ℕ) → FirstRefusal k ss vs → asked_for_room 1 ss vs ≡ would_refuse (no_room_at k)
first_without_room zero [] vs h = elim h [ ]
first_without_room zero (s ∷ ss) [] h = elim h [ ]
first_without_room zero (s ∷ ss) (v ∷ vs) h = elim h [ ]
first_without_room (suc k) ss vs h = asked_first 1 k ss vs h ∙ ap (λ p. would_refuse (no_room_at p)) (omega arith)

pub verdict_offered : VerdictIsOffer
unfolding verdict
verdict_offered n f (Ok done) h =
    cond-true (in_range f) _ _ (range_in_true f h.0) ∙ asked_all 1 n.reservoirs (inflows n.card f (soaking n f)) h.1
verdict_offered n f (Err OutOfRange) h =
    cond-false (in_range f) _ _ (⊎_elim (λ (t : in_range f ≡ true). elim (h (in_range_true f t)) [ ]) (λ (t : in_range f ≡ false). t) (cases_Bool (in_range f)))
verdict_offered n f (Err (Reservoir fault)) h =
    cond-true (in_range f) _ _ (range_in_true f h.0)
    ∙ first_without_room (number fault.place) n.reservoirs (inflows n.card f (soaking n f)) h.1.1
    ∙ ap (λ r. would_refuse (record { cause = r.cause; layer = r.layer; place = number fault.place })) (sym h.1.0)

-- contents within capacity are told exactly
pub contents_exact : (ss : List State) → WithinCapacity ss → each_content ss ≡ each_holds ss
contents_exact [] h = refl
contents_exact (s ∷ ss) h = ap₂ (λ v vs. v ∷ vs) (let w = h.0 in omega arith) (contents_exact ss h.1)

-- the storage of an open node is part of all that is stored
pub open_storage_within : (makes : List Make) (d : District) (k : ℕ) (n : Store) → Sound makes d → standing d.roll k ≡ open_with n → storage n ≤ largest_income
open_storage_within makes d k n s e =
    let h = open_stands d.roll k n e in
    let part = subst (λ x. stored x ≤ all_stored d.roll) h.is (get_or-le-sum_by stored d.roll (k - 1) outside h.in_roll) in
    let all = (totals_within makes d s).storage in
    omega arith

-- and so is what an opening brings in: a soil of at most 2 m over at most 10^8 m2
pub opened_storage_within : (c : Card) (ss : List State) → Checked c → storage (opened c ss) ≤ 200000 * largest_area
opened_storage_within c ss h =
    let deep : field_capacity c.soil ≤ 200000 = omega (arith, h.soil.field_capacity, h.soil.saturation) in
    let wide : c.areas.unpaved.0 ≤ largest_area = h.areas.unpaved in
    rw (opened_storage c ss) (mul-le-mul deep wide)
