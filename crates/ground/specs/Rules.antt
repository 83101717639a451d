-- The rules of one step, over depths in points of 0.01 mm. `-` stops at 0, so that m - x is the excess of m over x,
-- 0 without excess; `/` rounds down.
use Rattle.std.specs.Prelude.{ℕ, ◌+◌, ◌-◌, ◌*◌, ◌/◌, min}
use Rattle.ground.specs.declared.soil.Soil.{Soil}
use Rattle.ground.specs.declared.forcing.Forcing.{Forcing}
use Rattle.ground.specs.Limits.{wilting_point, field_capacity, saturation_point, infiltration_limit, percolation_limit, depression_limit, drainable_depth}
use Rattle.ground.specs.Seepage.{sinking_part}

-- Infiltration into a soil of moisture m, of the water on the surface, which is rain and depression storage: up to the
-- limit, and up to the room that is left to saturation and the percolation limit together.
abbrev pub infiltration_of : Soil → ℕ → ℕ → ℕ
infiltration_of s m surface =
    min (min surface (infiltration_limit s)) ((saturation_point s - m) + percolation_limit s)

-- Of the water that stays on the surface, the depression storage keeps up to its limit, and the excess runs off.
abbrev pub depression_of : Soil → ℕ → ℕ
depression_of s staying = min staying (depression_limit s)

abbrev pub excess_of : Soil → ℕ → ℕ
excess_of s staying = staying - depression_limit s

-- Transpiration from moisture m: the reference evaporation by the crop factor, down to the wilting point at most.
abbrev pub transpiration_of : Soil → ℕ → ℕ → ℕ
transpiration_of s m evaporation = min (s.crop_factor * evaporation / 100) (m - wilting_point s)

-- Percolation from moisture m: the share of its limit that m's excess over field capacity has in the drainable
-- depth. It is 0 where m is not above field capacity.
abbrev pub percolation_of : Soil → ℕ → ℕ
percolation_of s m =
    percolation_limit s * min (m - field_capacity s) (drainable_depth s) / drainable_depth s

-- Sinking from moisture m, which a sinking seepage draws down to field capacity at most.
abbrev pub sinking_of : Soil → ℕ → ℕ → ℕ
sinking_of s m sinks = min sinks (m - field_capacity s)

-- what a step moves, and the soil moisture and depression storage that it leaves
pub record Soaked : Type 0 where
  pub infiltration : ℕ
  pub excess : ℕ
  pub transpiration : ℕ
  pub percolation : ℕ
  pub sinking : ℕ
  pub moisture : ℕ
  pub depression : ℕ

-- One step from moisture m and depression storage b: infiltration, then transpiration, percolation and sinking,
-- each from the moisture that the one before leaves.
unfoldable pub soaked : Soil → ℕ → ℕ → Forcing → Soaked
soaked s m b f =
    let i = infiltration_of s m (f.rain.0 + b) in
    let t = transpiration_of s (m + i) f.evaporation.0 in
    let p = percolation_of s ((m + i) - t) in
    let k = sinking_of s (((m + i) - t) - p) (sinking_part f.seepage) in
    record {
      infiltration = i;
      excess = excess_of s ((f.rain.0 + b) - i);
      transpiration = t;
      percolation = p;
      sinking = k;
      moisture = (((m + i) - t) - p) - k;
      depression = depression_of s ((f.rain.0 + b) - i);
    }

-- the slow part of a volume of water, by the slow share; the rest is the quick part
abbrev pub slow_part : Soil → ℕ → ℕ
slow_part s volume = s.slow_share * volume / 100

abbrev pub quick_part : Soil → ℕ → ℕ
quick_part s volume = volume - slow_part s volume
