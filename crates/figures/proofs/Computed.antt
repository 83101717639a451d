-- A test that computes, and that a figure which passes it holds.
use Rattle.std.proofs.Common.{◌≡◌, ℕ, ◌+◌, Bool, true, ◌&&◌, eqb, ltb, leb, List, [], ◌∷◌, Ok, Err, sym, refl, ap, arith}
use Rattle.std.specs.List.{list_all}
use Rattle.std.proofs.lemmas.Bool.{and_parts, leb-true, ltb-true, eqb-true}
use Rattle.ground.specs.Rules.{Soaked, soaked}
use Rattle.quantity.specs.Amounts.{load_of, gram, tenths_of}
use Rattle.reservoir.specs.Cells.{capacity, held}
use Rattle.reservoir.specs.Meaning.{Settings, Make}
use Rattle.reservoir.specs.declared.fault.Fault.TheVariants.{OverCapacity}
use Rattle.routing.specs.Runs.{Taking, Run, empty, end_of}
use Rattle.figures.specs.Figures.{Kind, linear_of, lag_of, series_of, make_of, settings_of, Seen, gives, refused, seen_in, Figure, from_empty, soaks, carries, Holds, AllHold}

abbrev valid : Kind → Bool
valid (linear_of a b) = leb a b && leb b 65535
valid (lag_of n) = leb 1 n && leb n 12
valid (series_of k l) = valid k && valid l

valid_means : (k : Kind) → valid k ≡ true → (make_of k).Valid (settings_of k)
valid_means (linear_of a b) e = grind (arith, and_parts, leb-true)
valid_means (lag_of n) e = grind (arith, and_parts, leb-true)
valid_means (series_of k l) e = let p = and_parts (valid k) (valid l) e in (valid_means k p.0, valid_means l p.1)

-- what is seen of a run from cells c, and what is held at its end
abbrev runs : Make → Settings → List ℕ → List Seen → ℕ → Bool
runs m s c [] h = eqb (held c) h
runs m s c (gives v g ∷ os) h = leb (held c + v) capacity && (eqb (m.gives s c v) g && runs m s (m.leaves s c v) os h)
runs m s c (refused v ∷ os) h = ltb capacity (held c + v) && runs m s c os h

abbrev Ran : Make → Settings → List ℕ → List Seen → ℕ → Type 0
Ran m s c os h = (ts : List Taking) × (Run m s c ts × ((seen_in ts ≡ os) × (held (end_of c ts) ≡ h)))

runs_means : (m : Make) (s : Settings) (c : List ℕ) (os : List Seen) (h : ℕ) → runs m s c os h ≡ true → Ran m s c os h
runs_means m s c [] h e = ([], (tt, (refl, eqb-true (held c) h e)))
runs_means m s c (gives v g ∷ os) h e =
    let p = and_parts (leb (held c + v) capacity) (eqb (m.gives s c v) g && runs m s (m.leaves s c v) os h) e in
    let q = and_parts (eqb (m.gives s c v) g) (runs m s (m.leaves s c v) os h) p.1 in
    let r = runs_means m s (m.leaves s c v) os h q.1 in
    let t : Taking = record { volume = v; answer = Ok (record { 0 = g }); after = m.leaves s c v } in
    (t ∷ r.0, (((leb-true (held c + v) capacity p.0, (sym (eqb-true (m.gives s c v) g q.0), refl)), r.1.0), (ap (λ xs. gives v g ∷ xs) r.1.1.0, r.1.1.1)))
runs_means m s c (refused v ∷ os) h e =
    let p = and_parts (ltb capacity (held c + v)) (runs m s c os h) e in
    let r = runs_means m s c os h p.1 in
    let t : Taking = record { volume = v; answer = Err OverCapacity; after = c } in
    (t ∷ r.0, (((ltb-true capacity (held c + v) p.0, (refl, refl)), r.1.0), (ap (λ xs. refused v ∷ xs) r.1.1.0, r.1.1.1)))

-- the same amounts, one by one
abbrev same : Soaked → Soaked → Bool
same q r =
    eqb q.infiltration r.infiltration
    && (eqb q.excess r.excess
    && (eqb q.transpiration r.transpiration
    && (eqb q.percolation r.percolation
    && (eqb q.sinking r.sinking && (eqb q.moisture r.moisture && eqb q.depression r.depression)))))

same_means : (q r : Soaked) → same q r ≡ true → q ≡ r
same_means q r e = grind (arith, and_parts, eqb-true)

abbrev pub passes : Figure → Bool
passes (from_empty k os h) = valid k && runs (make_of k) (settings_of k) (empty (make_of k) (settings_of k)) os h
passes (soaks s m b f r) = same (soaked s m b f) r
passes (carries v c g r) = eqb (load_of v c) (tenths_of g r) && ltb r gram

passes_means : (f : Figure) → passes f ≡ true → Holds f
passes_means (from_empty k os h) e =
    let p = and_parts (valid k) (runs (make_of k) (settings_of k) (empty (make_of k) (settings_of k)) os h) e in
    (valid_means k p.0, runs_means (make_of k) (settings_of k) (empty (make_of k) (settings_of k)) os h p.1)
passes_means (soaks s m b f r) e = same_means (soaked s m b f) r e
passes_means (carries v c g r) e = grind (arith, and_parts, eqb-true, ltb-true)

pub all_pass_means : (fs : List Figure) → list_all passes fs ≡ true → AllHold fs
all_pass_means [] e = tt
all_pass_means (f ∷ fs) e =
    let p = and_parts (passes f) (list_all passes fs) e in (passes_means f p.0, all_pass_means fs p.1)
