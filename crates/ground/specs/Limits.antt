-- The limits of a soil's numbers, of a forcing's, and of what the ground holds. Depths are in points of 0.01 mm.
use Rattle.std.specs.Prelude.{ℕ, ◌-◌, ◌<◌, ◌≤◌, pos, neg_ℤ, ◌≤ℤ◌}
use Rattle.ground.specs.declared.soil.Soil.{Soil}
use Rattle.ground.specs.declared.forcing.Forcing.{Forcing}

-- the depths of a soil, by name
abbrev pub wilting_point : Soil → ℕ
wilting_point s = s.wilting_point.0

abbrev pub field_capacity : Soil → ℕ
field_capacity s = s.field_capacity.0

abbrev pub saturation_point : Soil → ℕ
saturation_point s = s.saturation.0

abbrev pub infiltration_limit : Soil → ℕ
infiltration_limit s = s.infiltration_limit.0

abbrev pub percolation_limit : Soil → ℕ
percolation_limit s = s.percolation_limit.0

abbrev pub depression_limit : Soil → ℕ
depression_limit s = s.depression_limit.0

-- the moisture that a saturated soil holds above its field capacity
abbrev pub drainable_depth : Soil → ℕ
drainable_depth s = saturation_point s - field_capacity s

-- the soils that may be used
pub record Admissible (s : Soil) : Type 0 where
  -- the depths of soil moisture: in order, and not too deep
  pub wilting_point : wilting_point s ≤ field_capacity s
  pub field_capacity : field_capacity s < saturation_point s
  pub saturation : saturation_point s ≤ 200000
  pub infiltration_limit : infiltration_limit s ≤ 100000
  pub depression_limit : depression_limit s ≤ 100000
  pub percolation_limit : percolation_limit s ≤ drainable_depth s
  -- both in hundredths
  pub crop_factor : s.crop_factor ≤ 200
  pub slow_share : s.slow_share ≤ 100

-- the forcings that may be used
pub record InRange (f : Forcing) : Type 0 where
  pub rain : f.rain.0 ≤ 100000
  pub evaporation : f.evaporation.0 ≤ 10000
  pub sinking : neg_ℤ (pos 10000) ≤ℤ f.seepage
  pub rising : f.seepage ≤ℤ pos 10000

-- what the ground of a soil may hold: a depth of soil moisture and a depth in depression storage
pub record Holds (s : Soil) (moisture depression : ℕ) : Type 0 where
  pub in_soil : moisture ≤ saturation_point s
  pub in_storage : depression ≤ depression_limit s
