-- What flows carry at their concentrations, for any lists.
use Rattle.std.proofs.Common.{◌≡◌, ℕ, zero, suc, ◌+◌, ◌*◌, ◌<◌, ◌≤◌, List, [], ◌∷◌, length, get_or, take, sum, map, refl, mul-le-mul_right, mul-le-mul_left, mul-add, add-one, arith}
use Rattle.std.specs.List.{zip}
use Rattle.std.proofs.lemmas.List.{length-map, get_or-map}
use Rattle.std.proofs.lemmas.List.Sums.{sum_by-cons}
use Rattle.quantity.specs.Amounts.{load_of}
use Rattle.quantity.specs.declared.load.Concentration.{Concentration}
use Rattle.quantity.specs.declared.water.Centilitres.{Centilitres}
use Rattle.reservoir.specs.Cells.{volumes, AtMost}
use Rattle.card.specs.Limits.{concentration_of}
use Rattle.card.specs.Loads.{carried, in_each_flow}

-- flows each at most their fellows carry at most as much
pub carried_grows : (v w c : List ℕ) → AtMost v w → carried v c ≤ carried w c
carried_grows [] [] c h = omega arith
carried_grows [] (y ∷ w) c h = elim h [ ]
carried_grows (x ∷ v) [] c h = elim h [ ]
carried_grows (x ∷ v) (y ∷ w) [] h = omega arith
carried_grows (x ∷ v) (y ∷ w) (k ∷ c) h =
    let first = mul-le-mul_right k h.0 in
    let others = carried_grows v w c h.1 in omega arith

-- at concentrations of at most m, flows carry at most m times their sum
pub carried_bounded : (m : ℕ) (v c : List ℕ) → ((i : ℕ) → get_or c i 0 ≤ m) → carried v c ≤ m * sum v
carried_bounded m [] c h = omega arith
carried_bounded m (x ∷ v) [] h = omega arith
carried_bounded m (x ∷ v) (k ∷ c) h =
    let first : x * k ≤ x * m = mul-le-mul_left x (h 0) in
    let others = carried_bounded m v c (λ i. h (suc i)) in
    rw (sum_by-cons (λ y. y) x v, mul-add m x (sum v)) (omega arith)

-- what the first flows carry, one flow on
carried_next : (v c : List ℕ) (i : ℕ) → i < length v → i < length c →
    carried (take (suc i) v) (take (suc i) c) ≡ carried (take i v) (take i c) + load_of (get_or v i 0) (get_or c i 0)
carried_next [] c i h l = let z : ⊥ = omega arith in elim z [ ]
carried_next (x ∷ v) [] i h l = let z : ⊥ = omega arith in elim z [ ]
carried_next (x ∷ v) (k ∷ c) zero h l = omega arith
carried_next (x ∷ v) (k ∷ c) (suc i) h l = let others = carried_next v c i (omega arith) (omega arith) in omega arith

carried_more : (v c : List ℕ) (i : ℕ) → i < length v → i < length c →
    carried (take (i + 1) v) (take (i + 1) c) ≡ carried (take i v) (take i c) + load_of (get_or v i 0) (get_or c i 0)
carried_more v c i h l = rw add-one (carried_next v c i h l)

-- the concentration of a nutrient in one flow
pub in_one_flow : (by_flow : List (List Concentration)) (nutrient flow : ℕ) →
    get_or (in_each_flow by_flow nutrient) flow 0 ≡ concentration_of (get_or by_flow flow []) nutrient
in_one_flow [] nutrient flow = refl
in_one_flow (of_flow ∷ by_flow) nutrient zero = refl
in_one_flow (of_flow ∷ by_flow) nutrient (suc flow) = in_one_flow by_flow nutrient flow

-- the sum of a nutrient's load over the first flows, one flow on
pub load_more : (flows : List Centilitres) (by_flow : List (List Concentration)) (nutrient i so_far load : ℕ) →
    i < length flows → i < length by_flow →
    so_far ≡ carried (take i (volumes flows)) (take i (in_each_flow by_flow nutrient)) →
    load ≡ load_of (get_or flows i (record { 0 = 0 })).0 (concentration_of (get_or by_flow i []) nutrient) →
    so_far + load ≡ carried (take (i + 1) (volumes flows)) (take (i + 1) (in_each_flow by_flow nutrient))
load_more flows by_flow nutrient i so_far load h l e f =
    let k : i < length (volumes flows) = rw length-map h in
    let m : i < length (in_each_flow by_flow nutrient) = rw length-map l in
    let next = carried_more (volumes flows) (in_each_flow by_flow nutrient) i k m in
    let volume = get_or-map (λ x. x.0) flows i (record { 0 = 0 }) 0 h in
    let concentration = in_one_flow by_flow nutrient i in cc

-- what a flow carries of a nutrient, beside the flow's concentrations
abbrev pub carries : ℕ → Centilitres × List Concentration → ℕ
carries nutrient (volume, of_flow) = load_of volume.0 (concentration_of of_flow nutrient)

pub zipped_carries : (nutrient : ℕ) (flows : List Centilitres) (by_flow : List (List Concentration)) →
    sum (map (carries nutrient) (zip flows by_flow)) ≡ carried (volumes flows) (in_each_flow by_flow nutrient)
zipped_carries nutrient [] by_flow = refl
zipped_carries nutrient (x ∷ flows) [] = refl
zipped_carries nutrient (x ∷ flows) (of_flow ∷ by_flow) =
    rw (sum_by-cons (λ load. load) (carries nutrient (x, of_flow)) (map (carries nutrient) (zip flows by_flow)), zipped_carries nutrient flows by_flow)
