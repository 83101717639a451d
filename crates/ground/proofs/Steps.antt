-- The laws of the whole step, from those of the rules.
use Rattle.std.proofs.Common.{◌≡◌, ℕ, ◌+◌, ◌-◌, ◌<◌, ◌≤◌, ⊎_elim, arith}
use Rattle.std.proofs.lemmas.Bool.{cases_lt}
use Rattle.ground.specs.declared.soil.Soil.{Soil}
use Rattle.ground.specs.declared.forcing.Forcing.{Forcing}
use Rattle.ground.specs.Limits.{Admissible, saturation_point, percolation_limit}
use Rattle.ground.specs.Seepage.{sinking_part}
use Rattle.ground.specs.Rules.{infiltration_of, depression_of, excess_of, transpiration_of, percolation_of, sinking_of, Soaked, soaked}
use Rattle.ground.specs.Laws.{EveryAdmissible, Closes, Balance, StaysWithin, MoreGivesNoLess}
use Rattle.ground.proofs.Flows.{seepage_law, infiltration_laws, surface_laws, transpiration_laws, percolation_laws, sinking_laws}

-- what is on the surface, u, in its parts
surface_parts : (s : Soil) → Admissible s → (u i : ℕ) → i ≤ u → u ≡ i + excess_of s (u - i) + depression_of s (u - i)
surface_parts s a u i h = let e = (surface_laws s a).balance (u - i) in omega arith

-- what is in the soil, m, in its parts
soil_parts : (m t p k : ℕ) → t ≤ m → p ≤ m - t → k ≤ (m - t) - p → m ≡ t + p + k + (((m - t) - p) - k)
soil_parts m t p k h l n = omega arith

closes : (m b rain : ℕ) (r : Soaked) → rain + b ≡ r.infiltration + r.excess + r.depression →
    m + r.infiltration ≡ r.transpiration + r.percolation + r.sinking + r.moisture → Closes m b rain r
closes m b rain r surface soil = record { surface = surface; soil = soil; ground = omega arith }

pub balance : EveryAdmissible Balance
unfolding soaked
balance s a m b f =
    let i : ℕ = infiltration_of s m (f.rain.0 + b) in
    let t : ℕ = transpiration_of s (m + i) f.evaporation.0 in
    let p : ℕ = percolation_of s ((m + i) - t) in
    let k : ℕ = sinking_of s (((m + i) - t) - p) (sinking_part f.seepage) in
    let percolates = (percolation_laws s a).within ((m + i) - t) in
    closes m b f.rain.0 (soaked s m b f)
    (surface_parts s a (f.rain.0 + b) i (omega arith)) (soil_parts (m + i) t p k (omega arith) (omega arith) (omega arith))

-- percolation takes back what the infiltration brought above saturation
pub percolated_within : (s : Soil) → Admissible s → (m : ℕ) → m ≤ saturation_point s + percolation_limit s →
    m - percolation_of s m ≤ saturation_point s
percolated_within s a m h =
    ⊎_elim (λ (below : m < saturation_point s). omega arith)
    (λ (above : saturation_point s ≤ m). omega (arith, (percolation_laws s a).full m above)) (cases_lt m (saturation_point s))

pub stays_within : EveryAdmissible StaysWithin
unfolding soaked
stays_within s a m b f h =
    let i : ℕ = infiltration_of s m (f.rain.0 + b) in
    let t : ℕ = transpiration_of s (m + i) f.evaporation.0 in
    let w = percolated_within s a ((m + i) - t) (omega arith) in record { in_soil = omega arith; in_storage = omega arith }

pub more_gives_no_less : EveryAdmissible MoreGivesNoLess
unfolding soaked
more_gives_no_less s a m n b c f g moister within fuller wetter =
    let infiltrated = (infiltration_laws s a).more m n (f.rain.0 + b) (g.rain.0 + c) moister within (omega arith) in
    let surface = (surface_laws s a).more _ _ infiltrated.1 in
    let transpired = (transpiration_laws s a).more _ _ f.evaporation.0 g.evaporation.0 infiltrated.0 wetter.evaporation in
    let percolated = (percolation_laws s a).more _ _ transpired in
    let sinks = (seepage_law f.seepage g.seepage wetter.seepage).1 in
    let sunk = (sinking_laws s a).more _ _ _ _ percolated.1 sinks in
    record { excess = surface.1; percolation = percolated.0; moisture = sunk; depression = surface.0 }

-- the amounts that the rules answer, each in its turn, make the step
pub in_turn : (s : Soil) (m b : ℕ) (f : Forcing) (i x t p k d : ℕ) →
    i ≡ infiltration_of s m (f.rain.0 + b) →
    x ≡ excess_of s ((f.rain.0 + b) - i) →
    t ≡ transpiration_of s (m + i) f.evaporation.0 →
    p ≡ percolation_of s ((m + i) - t) →
    k ≡ sinking_of s (((m + i) - t) - p) (sinking_part f.seepage) →
    d ≡ depression_of s ((f.rain.0 + b) - i) →
    record {
      infiltration = i;
      excess = x;
      transpiration = t;
      percolation = p;
      sinking = k;
      moisture = (((m + i) - t) - p) - k;
      depression = d;
    } ≡ soaked s m b f
unfolding soaked
in_turn s m b f i x t p k d ei ex et ep ek ed = cc
