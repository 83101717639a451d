-- What calls leave as it is.
use Rattle.std.proofs.Common.{◌≡◌, ℕ, List, [], ◌∷◌, sym, refl, ap, ◌∙◌, subst, arith}
use Rattle.node.specs.Stores.{Store}
use Rattle.reservoir.specs.Meaning.{Make}
use Rattle.reservoir.specs.declared.fault.Refusal.{Refusal}
use Rattle.model.specs.State.{Standing, new, open_with, withdrawn, standing, entered, District}
use Rattle.model.specs.Calls.{Call, opening, stepping, withdrawing, looking, reading, Granted, Answer, refused, granted}
use Rattle.model.specs.Rules.{tries_opening, tries_step, tries_withdrawal, tries_look, does}
use Rattle.model.specs.Runs.{after_all}
use Rattle.model.specs.Laws.{ChangesNothing, Withdrawn, WithdrawnStays}
use Rattle.model.proofs.Rolls.{Stands, entered_here, entered_elsewhere, new_stands, open_stands}
use Rattle.model.proofs.Cases.{opening_cases, stepping_cases, withdrawing_cases, looking_cases}

pub not_refused : {call : Call} (x : Granted call) (r : Refusal) → ◌≡◌ {A = Answer call} (granted x) (refused r) → ⊥
not_refused x r e = let z : ◌≡◌ {A = ℕ} 0 1 = cc in omega arith

refused_same : (makes : List Make) (d : District) (call : Call) (r : Refusal) → (does makes d call).answer ≡ refused r → (does makes d call).after ≡ d
refused_same makes d (opening k c ss) r =
    opening_cases makes d k c ss (λ o. o.answer ≡ refused r → o.after ≡ d) (λ q h. refl) (λ e room within h. elim (not_refused _ r h) [ ])
refused_same makes d (stepping k f) r =
    stepping_cases makes d k f (λ o. o.answer ≡ refused r → o.after ≡ d) (λ q h. refl) (λ n e a within h. elim (not_refused _ r h) [ ])
refused_same makes d (withdrawing k) r =
    withdrawing_cases makes d k (λ o. o.answer ≡ refused r → o.after ≡ d) (λ q h. refl) (λ n e h. elim (not_refused _ r h) [ ])
refused_same makes d (looking k) r = looking_cases makes d k (λ o. o.answer ≡ refused r → o.after ≡ d) (λ q h. refl) (λ n e h. refl)
refused_same makes d reading r = λ h. refl

pub changes_nothing : (makes : List Make) → ChangesNothing makes
changes_nothing makes = record {
  refusal = refused_same makes;
  look = λ d k. looking_cases makes d k (λ o. o.after ≡ d) (λ q. refl) (λ n e. refl);
  reading = λ d. refl;
}

-- a call that cannot change the standing of j: it names another number, or the standing is none that it would change
abbrev pub Spares : List Standing → ℕ → Call → Type 0
Spares roll j (opening k c ss) = k ≡ j → standing roll j ≡ new → ⊥
Spares roll j (stepping k f) = k ≡ j → (n : Store) → standing roll j ≡ open_with n → ⊥
Spares roll j (withdrawing k) = k ≡ j → (n : Store) → standing roll j ≡ open_with n → ⊥
Spares roll j (looking k) = Unit {0}
Spares roll j reading = Unit {0}

-- a standing entered under k, where j is another number
apart : (roll : List Standing) (k j : ℕ) (x s : Standing) → standing roll k ≡ x → Stands roll k x → (k ≡ j → standing roll j ≡ x → ⊥) →
    standing (entered roll k s) j ≡ standing roll j
apart roll k j x s e h away = entered_elsewhere roll k j s h.from_one (λ q. away q (subst (λ i. standing roll i ≡ x) q e))

pub spared : (makes : List Make) (d : District) (call : Call) (j : ℕ) → Spares d.roll j call →
    standing (does makes d call).after.roll j ≡ standing d.roll j
spared makes d (opening k c ss) j h = opening_cases makes d k c ss (λ o. standing o.after.roll j ≡ standing d.roll j) (λ r. refl)
    (λ e room within. apart d.roll k j new _ e (new_stands d.roll k e) h)
spared makes d (stepping k f) j h = stepping_cases makes d k f (λ o. standing o.after.roll j ≡ standing d.roll j) (λ r. refl)
    (λ n e a within. apart d.roll k j (open_with n) _ e (open_stands d.roll k n e) (λ q. h q n))
spared makes d (withdrawing k) j h = withdrawing_cases makes d k (λ o. standing o.after.roll j ≡ standing d.roll j) (λ r. refl)
    (λ n e. apart d.roll k j (open_with n) _ e (open_stands d.roll k n e) (λ q. h q n))
spared makes d (looking k) j h = looking_cases makes d k (λ o. standing o.after.roll j ≡ standing d.roll j) (λ r. refl) (λ n e. refl)
spared makes d reading j h = refl

-- a withdrawn number is spared by every call
withdrawn_spared : (roll : List Standing) (j : ℕ) (call : Call) → standing roll j ≡ withdrawn → Spares roll j call
withdrawn_spared roll j (opening k c ss) e = λ q w. let z : ◌≡◌ {A = ℕ} 0 1 = cc in omega arith
withdrawn_spared roll j (stepping k f) e = λ q m w. let z : ◌≡◌ {A = ℕ} 0 1 = cc in omega arith
withdrawn_spared roll j (withdrawing k) e = λ q m w. let z : ◌≡◌ {A = ℕ} 0 1 = cc in omega arith
withdrawn_spared roll j (looking k) e = tt
withdrawn_spared roll j reading e = tt

stays_withdrawn : (makes : List Make) (j : ℕ) (d : District) (calls : List Call) → standing d.roll j ≡ withdrawn →
    standing (after_all makes d calls).roll j ≡ withdrawn
stays_withdrawn makes j d [] e = e
stays_withdrawn makes j d (call ∷ calls) e =
    stays_withdrawn makes j (does makes d call).after calls (spared makes d call j (withdrawn_spared d.roll j call e) ∙ e)

refused_withdrawn : (makes : List Make) (d : District) (k : ℕ) → standing d.roll k ≡ withdrawn → Withdrawn makes d k
refused_withdrawn makes d k e = record {
  stands = e;
  no_opening = λ c ss. ap (λ s. (tries_opening d k c ss s).answer) e;
  no_step = λ f. ap (λ s. (tries_step makes d k f s).answer) e;
  no_withdrawal = ap (λ s. (tries_withdrawal d k s).answer) e;
  no_look = ap (λ s. (tries_look d k s).answer) e;
}

pub withdrawn_stays : (makes : List Make) → WithdrawnStays makes
withdrawn_stays makes d k v calls e =
    refused_withdrawn makes (after_all makes (does makes d (withdrawing k)).after calls) k
    (stays_withdrawn makes k (does makes d (withdrawing k)).after calls
    (withdrawing_cases makes d k (λ o. o.answer ≡ granted v → standing o.after.roll k ≡ withdrawn)
    (λ r h. elim (not_refused v r (sym h)) [ ])
    (λ n w h. entered_here d.roll k (open_with n) withdrawn (open_stands d.roll k n w)) e))
