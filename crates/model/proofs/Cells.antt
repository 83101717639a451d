-- No cell is left unused.
use Rattle.std.proofs.Common.{◌≡◌, ℕ, ◌+◌, ◌≤◌, cond, ltb, leb, List, [], ◌∷◌, map, count_by, sym, refl, ap, ◌∙◌, ap₂, arith}
use Rattle.std.proofs.lemmas.List.Sums.{sum_by-cons}
use Rattle.std.proofs.lemmas.Bool.{cond_both, ltb-false}
use Rattle.card.specs.declared.card.Card.{Card}
use Rattle.node.specs.Stores.{opened, storage}
use Rattle.places.specs.States.{State, Meanings}
use Rattle.reservoir.specs.Meaning.{Make}
use Rattle.model.specs.State.{Standing, outside, new, open_with, withdrawn, standing, is_open, open_count, income, largest_income, District, new_district, usable_cells}
use Rattle.model.specs.Calls.{Call, opening, stepping, withdrawing, looking, reading, Answer, refused, granted, Done}
use Rattle.model.specs.Rules.{tries_opening, does}
use Rattle.model.specs.Runs.{after_all}
use Rattle.model.specs.Tally.{is_open_on}
use Rattle.model.specs.Laws.{NoCellLeftUnused}
use Rattle.model.proofs.Cases.{opening_cases, stepping_cases, withdrawing_cases, looking_cases}
use Rattle.model.proofs.Kept.{starts, all_kept}
use Rattle.model.proofs.Tallies.{known_of, agreed}

-- the tally counts the open numbers
count_known : (roll : List Standing) → count_by is_open_on (map known_of roll) ≡ open_count roll
count_known [] = refl
count_known (x ∷ roll) =
    sum_by-cons (λ y. cond (is_open_on y) 1 0) (known_of x) (map known_of roll)
    ∙ ap₂ ◌+◌ (ap (λ b. cond b 1 0) (same x)) (count_known roll)
    ∙ sym (sum_by-cons (λ y. cond (is_open y) 1 0) x roll)
  where
    same : (x : Standing) → is_open_on (known_of x) ≡ is_open x
    same outside = refl
    same new = refl
    same (open_with n) = refl
    same withdrawn = refl

cells_same : (makes : List Make) (d : District) (call : Call) → (does makes d call).after.cells ≡ d.cells
cells_same makes d (opening k c ss) = opening_cases makes d k c ss (λ o. o.after.cells ≡ d.cells) (λ r. refl) (λ e room within. refl)
cells_same makes d (stepping k f) = stepping_cases makes d k f (λ o. o.after.cells ≡ d.cells) (λ r. refl) (λ n e a within. refl)
cells_same makes d (withdrawing k) = withdrawing_cases makes d k (λ o. o.after.cells ≡ d.cells) (λ r. refl) (λ n e. refl)
cells_same makes d (looking k) = looking_cases makes d k (λ o. o.after.cells ≡ d.cells) (λ r. refl) (λ n e. refl)
cells_same makes d reading = refl

all_cells_same : (makes : List Make) (d : District) (calls : List Call) → (after_all makes d calls).cells ≡ d.cells
all_cells_same makes d [] = refl
all_cells_same makes d (call ∷ calls) = all_cells_same makes (does makes d call).after calls ∙ cells_same makes d call

-- an opening that is refused for want of a cell finds each cell taken
abbrev cause_of : {call : Call} → Answer call → ℕ
cause_of (refused r) = r.cause
cause_of (granted x) = 0

full : (d : District) (k : ℕ) (c : Card) (ss : List State) (x : Standing) → cause_of (tries_opening d k c ss x).answer ≡ 9 → usable_cells d ≤ open_count d.roll
full d k c ss outside e = omega arith
full d k c ss (open_with n) e = omega arith
full d k c ss withdrawn e = omega arith
full d k c ss new e =
    let P : Done (opening k c ss) → Type 0 = λ o. cause_of o.answer ≡ 9 → usable_cells d ≤ open_count d.roll in
    cond_both (ltb (open_count d.roll) (usable_cells d)) _ _ P
    (λ t. cond_both (leb (income d.book + storage (opened c ss)) largest_income) _ _ P (λ u q. omega arith) (λ u q. omega arith))
    (λ t q. ltb-false _ _ t) e

pub no_cell_left_unused : (makes : List Make) → Meanings makes → NoCellLeftUnused makes
no_cell_left_unused makes mm cells calls k c ss p e =
    let d = after_all makes (new_district cells) calls in
    let few = (all_kept makes mm (new_district cells) calls (starts makes cells) p).cells in
    let many = full d k c ss (standing d.roll k) (ap cause_of e) in
    let same = all_cells_same makes (new_district cells) calls in
    let count = ap (count_by is_open_on) (agreed makes cells calls).numbers ∙ count_known d.roll in
    omega arith
