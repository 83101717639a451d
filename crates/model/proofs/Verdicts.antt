-- A verdict says what a node does with a step.
use Rattle.std.proofs.Common.{◌≡◌, ℕ, zero, suc, ◌+◌, Bool, true, false, T, leb, List, [], ◌∷◌, sym, refl, ap, ◌∙◌, subst, arith}
use Rattle.std.proofs.lemmas.Bool.{cond_both, cond-true, cond-false, and_parts, and_from, leb-true, le-leb, lt-leb}
use Rattle.ground.specs.Limits.{InRange}
use Rattle.ground.specs.declared.forcing.Forcing.{Forcing}
use Rattle.node.specs.Rules.{Accepted, inflows, soaking, yield_of, after}
use Rattle.node.specs.Stores.{Store}
use Rattle.places.specs.States.{State, EachAccepts, FirstRefusal}
use Rattle.reservoir.specs.Cells.{capacity, held}
use Rattle.reservoir.specs.Meaning.{Make}
use Rattle.reservoir.specs.declared.fault.Refusal.{Refusal}
use Rattle.model.specs.Refusals.{Verdict, would_step, would_refuse, in_range, forcing_out_of_range, no_room_at, asked_for_room, verdict}

-- a refusal is no step
never : {r : Refusal} → would_refuse r ≡ would_step → ⊥
never e = let z : ◌≡◌ {A = ℕ} 0 1 = cc in omega arith

-- the two ways to say that a test passes
true_T : (b : Bool) → b ≡ true → T b
true_T b e = subst T (sym e) tt

T_true : (b : Bool) → T b → b ≡ true
T_true true h = refl
T_true false h = elim h [ ]

pub in_range_true : (f : Forcing) → in_range f ≡ true → InRange f
in_range_true f e =
    let p = and_parts _ _ e in
    let q = and_parts _ _ p.1 in
    let r = and_parts _ _ q.1 in
    record {
      rain = leb-true _ _ p.0;
      evaporation = leb-true _ _ q.0;
      sinking = record { le = true_T _ r.0 };
      rising = record { le = true_T _ r.1 };
    }

pub range_in_true : (f : Forcing) → InRange f → in_range f ≡ true
range_in_true f h =
    and_from _ _ (le-leb _ _ h.rain) (and_from _ _ (le-leb _ _ h.evaporation) (and_from _ _ (T_true _ h.sinking.le) (T_true _ h.rising.le)))

pub room_for_all : (place : ℕ) (ss : List State) (vs : List ℕ) → asked_for_room place ss vs ≡ would_step → EachAccepts ss vs
room_for_all place [] [] e = tt
room_for_all place [] (v ∷ vs) e = never e
room_for_all place (s ∷ ss) [] e = never e
room_for_all place (s ∷ ss) (v ∷ vs) e =
    cond_both (leb (held s.cells + v) capacity) (asked_for_room (suc place) ss vs) (would_refuse (no_room_at place))
    (λ (x : Verdict). x ≡ would_step → EachAccepts (s ∷ ss) (v ∷ vs))
    (λ t h. (leb-true _ _ t, room_for_all (suc place) ss vs h)) (λ t h. elim (never h) [ ]) e

pub verdict_step : (n : Store) (f : Forcing) → verdict n f ≡ would_step → InRange f × EachAccepts n.reservoirs (inflows n.card f (soaking n f))
unfolding verdict
verdict_step n f e =
    cond_both (in_range f) (asked_for_room 1 n.reservoirs (inflows n.card f (soaking n f))) (would_refuse forcing_out_of_range)
    (λ (x : Verdict). x ≡ would_step → InRange f × EachAccepts n.reservoirs (inflows n.card f (soaking n f)))
    (λ t h. (in_range_true f t, room_for_all 1 n.reservoirs (inflows n.card f (soaking n f)) h)) (λ t h. elim (never h) [ ]) e

pub accepts : (makes : List Make) (n : Store) (f : Forcing) → verdict n f ≡ would_step → Accepted makes n f (yield_of makes n f) (after makes n f)
accepts makes n f e = let h = verdict_step n f e in record { in_range = h.0; room = h.1; answer = refl; leaves = refl }

-- And the other way round, from what a node's own calls say.
pub asked_all : (place : ℕ) (ss : List State) (vs : List ℕ) → EachAccepts ss vs → asked_for_room place ss vs ≡ would_step
asked_all place [] [] h = refl
asked_all place [] (v ∷ vs) h = elim h [ ]
asked_all place (s ∷ ss) [] h = elim h [ ]
asked_all place (s ∷ ss) (v ∷ vs) h =
    cond-true (leb (held s.cells + v) capacity) _ _ (le-leb _ _ h.0) ∙ asked_all (suc place) ss vs h.1

pub asked_first : (place k : ℕ) (ss : List State) (vs : List ℕ) → FirstRefusal (suc k) ss vs → asked_for_room place ss vs ≡ would_refuse (no_room_at (place + k))
asked_first place k [] vs h = elim h [ ]
asked_first place k (s ∷ ss) [] h = elim h [ ]
asked_first place zero (s ∷ ss) (v ∷ vs) h =
    cond-false (leb (held s.cells + v) capacity) _ _ (lt-leb _ _ h) ∙ ap (λ p. would_refuse (no_room_at p)) (omega arith)
asked_first place (suc k) (s ∷ ss) (v ∷ vs) h =
    cond-true (leb (held s.cells + v) capacity) _ _ (le-leb _ _ h.0) ∙ asked_first (suc place) k ss vs h.1 ∙ ap (λ p. would_refuse (no_room_at p)) (omega arith)
