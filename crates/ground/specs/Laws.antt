-- The laws of the rules and of the whole step, each of every admissible soil. Throughout, m and n are depths of soil
-- moisture, b and c of depression storage, u and v of water on the surface, and f and g are forcings.
use Rattle.std.specs.Prelude.{◌≡◌, ℕ, ◌+◌, ◌-◌, ◌≤◌, ◌≤ℤ◌}
use Rattle.ground.specs.declared.soil.Soil.{Soil}
use Rattle.ground.specs.declared.forcing.Forcing.{Forcing}
use Rattle.ground.specs.Limits.{Admissible, Holds, field_capacity, saturation_point, percolation_limit}
use Rattle.ground.specs.Rules.{infiltration_of, depression_of, excess_of, transpiration_of, percolation_of, sinking_of, Soaked, soaked, slow_part, quick_part}

-- a law holds of every admissible soil
abbrev pub EveryAdmissible : (Soil → Type 0) → Type 0
EveryAdmissible Law = (s : Soil) → Admissible s → Law s

pub record InfiltrationLaws (s : Soil) : Type 0 where
  -- no more infiltrates than is on the surface, nor than fills the soil to saturation and the percolation limit
  pub within : (m u : ℕ) → m ≤ saturation_point s →
      (infiltration_of s m u ≤ u) × (m + infiltration_of s m u ≤ saturation_point s + percolation_limit s)
  -- with more moisture and more on the surface, no less moisture follows, and no less stays on the surface
  pub more : (m n u v : ℕ) → m ≤ n → n ≤ saturation_point s → u ≤ v →
      (m + infiltration_of s m u ≤ n + infiltration_of s n v) × (u - infiltration_of s m u ≤ v - infiltration_of s n v)

pub record SurfaceLaws (s : Soil) : Type 0 where
  -- what stays on the surface is stored or runs off
  pub balance : (u : ℕ) → depression_of s u + excess_of s u ≡ u
  -- of more, no less is stored, and no less runs off
  pub more : (u v : ℕ) → u ≤ v → (depression_of s u ≤ depression_of s v) × (excess_of s u ≤ excess_of s v)

pub record TranspirationLaws (s : Soil) : Type 0 where
  -- no more transpires than there is
  pub within : (m e : ℕ) → transpiration_of s m e ≤ m
  -- with more moisture and less evaporation, no less moisture follows
  pub more : (m n d e : ℕ) → m ≤ n → e ≤ d → m - transpiration_of s m d ≤ n - transpiration_of s n e

pub record PercolationLaws (s : Soil) : Type 0 where
  -- no more percolates than the moisture's excess over field capacity, so none without excess
  pub within : (m : ℕ) → percolation_of s m ≤ m - field_capacity s
  -- at and above saturation the limit percolates
  pub full : (m : ℕ) → saturation_point s ≤ m → percolation_of s m ≡ percolation_limit s
  -- with more moisture, no less percolates, and no less moisture follows
  pub more : (m n : ℕ) → m ≤ n →
      (percolation_of s m ≤ percolation_of s n) × (m - percolation_of s m ≤ n - percolation_of s n)

pub record SinkingLaws (s : Soil) : Type 0 where
  -- no more sinks than there is
  pub within : (m k : ℕ) → sinking_of s m k ≤ m
  -- with more moisture and less sinking seepage, no less moisture follows
  pub more : (m n j k : ℕ) → m ≤ n → k ≤ j → m - sinking_of s m j ≤ n - sinking_of s n k

pub record SlowShareLaws (s : Soil) : Type 0 where
  -- no more of a volume is slow than there is
  pub within : (x : ℕ) → slow_part s x ≤ x
  -- of a larger volume, no less is slow, and no less is quick
  pub more : (x y : ℕ) → x ≤ y → (slow_part s x ≤ slow_part s y) × (quick_part s x ≤ quick_part s y)

-- Where the rain, the moisture m and the depression storage b go in a step r: over the surface, over the soil, and over
-- both. So a step takes from neither more than is there: no subtraction of what it takes is cut off at 0.
pub record Closes (m b rain : ℕ) (r : Soaked) : Type 0 where
  pub surface : rain + b ≡ r.infiltration + r.excess + r.depression
  pub soil : m + r.infiltration ≡ r.transpiration + r.percolation + r.sinking + r.moisture
  pub ground : rain + m + b ≡ r.excess + r.transpiration + r.percolation + r.sinking + r.moisture + r.depression

-- The balance of a step.
abbrev pub Balance : Soil → Type 0
Balance s = (m b : ℕ) (f : Forcing) → Closes m b f.rain.0 (soaked s m b f)

-- A step leaves what the ground may hold.
abbrev pub StaysWithin : Soil → Type 0
StaysWithin s = (m b : ℕ) (f : Forcing) → Holds s m b → Holds s (soaked s m b f).moisture (soaked s m b f).depression

-- the forcing g is at least as wet as f
pub record Wetter (f g : Forcing) : Type 0 where
  pub rain : f.rain.0 ≤ g.rain.0
  pub evaporation : g.evaporation.0 ≤ f.evaporation.0
  pub seepage : f.seepage ≤ℤ g.seepage

-- the step r has no less excess and percolation than q, and leaves no less moisture and depression storage
pub record NoLess (q r : Soaked) : Type 0 where
  pub excess : q.excess ≤ r.excess
  pub percolation : q.percolation ≤ r.percolation
  pub moisture : q.moisture ≤ r.moisture
  pub depression : q.depression ≤ r.depression

-- The law of more: from at least the moisture and the depression storage, a forcing at least as wet gives no less.
abbrev pub MoreGivesNoLess : Soil → Type 0
MoreGivesNoLess s =
    (m n b c : ℕ) (f g : Forcing) → m ≤ n → n ≤ saturation_point s → b ≤ c → Wetter f g →
    NoLess (soaked s m b f) (soaked s n c g)
