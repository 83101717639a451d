-- A call is refused, or accepted with all that the rules ask for. So what holds of every refusal, and of what an accepted call
-- does, holds of the call.
use Rattle.std.proofs.Common.{◌≡◌, ℕ, ◌+◌, ◌<◌, ◌≤◌, ltb, leb, List, refl}
use Rattle.std.proofs.lemmas.Bool.{cond_both, leb-true, ltb-true}
use Rattle.card.specs.declared.card.Card.{Card}
use Rattle.ground.specs.declared.forcing.Forcing.{Forcing}
use Rattle.node.specs.Rules.{Accepted, rained, risen, yield_of, after}
use Rattle.node.specs.Stores.{Store, opened, storage}
use Rattle.places.specs.States.{State}
use Rattle.reservoir.specs.Meaning.{Make}
use Rattle.reservoir.specs.declared.fault.Refusal.{Refusal}
use Rattle.model.specs.State.{Standing, outside, new, open_with, withdrawn, standing, open_count, income, largest_income, District, usable_cells}
use Rattle.model.specs.Calls.{opening, stepping, withdrawing, looking, Done}
use Rattle.model.specs.Refusals.{number_outside, number_open, number_withdrawn, number_new, no_unused_cell, income_too_large, Verdict, would_step, would_refuse, verdict}
use Rattle.model.specs.Rules.{refuses, opens, tries_opening, steps, tries_step_of, tries_step, withdraws, tries_withdrawal, looks, tries_look, does}
use Rattle.model.proofs.Verdicts.{accepts}

pub opening_cases : (makes : List Make) (d : District) (k : ℕ) (c : Card) (ss : List State) (P : Done (opening k c ss) → Type 0) →
    ((r : Refusal) → P (refuses d r)) →
    (standing d.roll k ≡ new → open_count d.roll < usable_cells d → income d.book + storage (opened c ss) ≤ largest_income → P (opens d k c ss)) →
    P (does makes d (opening k c ss))
opening_cases makes d k c ss P refusal grant = by (standing d.roll k) refl
  where
    by : (x : Standing) → standing d.roll k ≡ x → P (tries_opening d k c ss x)
    by outside e = refusal number_outside
    by (open_with n) e = refusal number_open
    by withdrawn e = refusal number_withdrawn
    by new e =
        cond_both (ltb (open_count d.roll) (usable_cells d)) _ _ P
        (λ t. cond_both (leb (income d.book + storage (opened c ss)) largest_income) _ _ P
        (λ u. grant e (ltb-true _ _ t) (leb-true _ _ u)) (λ u. refusal income_too_large))
        (λ t. refusal no_unused_cell)

pub stepping_cases : (makes : List Make) (d : District) (k : ℕ) (f : Forcing) (P : Done (stepping k f) → Type 0) →
    ((r : Refusal) → P (refuses d r)) →
    ((n : Store) → standing d.roll k ≡ open_with n → Accepted makes n f (yield_of makes n f) (after makes n f) →
    income d.book + rained n.card f + risen n.card f ≤ largest_income → P (steps makes d k f n)) →
    P (does makes d (stepping k f))
stepping_cases makes d k f P refusal grant = by (standing d.roll k) refl
  where
    by_verdict : (n : Store) → standing d.roll k ≡ open_with n → (v : Verdict) → verdict n f ≡ v → P (tries_step_of makes d k f n v)
    by_verdict n e (would_refuse r) h = refusal r
    by_verdict n e would_step h =
        cond_both (leb (income d.book + rained n.card f + risen n.card f) largest_income) _ _ P
        (λ t. grant n e (accepts makes n f h) (leb-true _ _ t)) (λ t. refusal income_too_large)

    by : (x : Standing) → standing d.roll k ≡ x → P (tries_step makes d k f x)
    by outside e = refusal number_outside
    by new e = refusal number_new
    by withdrawn e = refusal number_withdrawn
    by (open_with n) e = by_verdict n e (verdict n f) refl

pub withdrawing_cases : (makes : List Make) (d : District) (k : ℕ) (P : Done (withdrawing k) → Type 0) →
    ((r : Refusal) → P (refuses d r)) → ((n : Store) → standing d.roll k ≡ open_with n → P (withdraws d k n)) →
    P (does makes d (withdrawing k))
withdrawing_cases makes d k P refusal grant = by (standing d.roll k) refl
  where
    by : (x : Standing) → standing d.roll k ≡ x → P (tries_withdrawal d k x)
    by outside e = refusal number_outside
    by new e = refusal number_new
    by withdrawn e = refusal number_withdrawn
    by (open_with n) e = grant n e

pub looking_cases : (makes : List Make) (d : District) (k : ℕ) (P : Done (looking k) → Type 0) →
    ((r : Refusal) → P (refuses d r)) → ((n : Store) → standing d.roll k ≡ open_with n → P (looks d k n)) →
    P (does makes d (looking k))
looking_cases makes d k P refusal grant = by (standing d.roll k) refl
  where
    by : (x : Standing) → standing d.roll k ≡ x → P (tries_look d k x)
    by outside e = refusal number_outside
    by new e = refusal number_new
    by withdrawn e = refusal number_withdrawn
    by (open_with n) e = grant n e
