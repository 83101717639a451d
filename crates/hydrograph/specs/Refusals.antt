-- Why a line of a storm is refused.
use Rattle.std.specs.Prelude.{ℕ, List, [], ◌∷◌}
use Rattle.decimal.specs.Reading.{Writes, WritesAll}
use Rattle.hydrograph.specs.declared.refused.SettingsFault.{SettingsFault}
use Rattle.hydrograph.specs.declared.refused.SettingsFault.TheVariants.{NotThreeNumbers, Linear, Lag}
use Rattle.hydrograph.specs.declared.refused.VolumeFault.{VolumeFault}
use Rattle.hydrograph.specs.declared.refused.VolumeFault.TheVariants.{NotANumber, NoRoom}
use Rattle.hydrograph.specs.declared.storm.Settings.{Settings}
use Rattle.reservoir.specs.Faults.{Invalid, Full}
use Rattle.reservoir.specs.Makes.{linear, lag, fractions, steps}
use Rattle.routing.specs.SideBySide.{FirstFull, Gauges}

-- settings that the line writes as three numbers, and of which P holds
pub record Written (line : List ℕ) (P : Settings → Type 0) : Type 0 where
  pub settings : Settings
  pub writes : WritesAll 3 line (settings.recession ∷ settings.retention ∷ settings.steps ∷ [])
  pub holds : P settings

-- These settings: the linear reservoir's fractions are not valid, or, where they are, the lag's number of steps is not.
abbrev pub RefusesNumbers : Settings → SettingsFault → Type 0
RefusesNumbers s NotThreeNumbers = ⊥
RefusesNumbers s (Linear fault) = Invalid fault × (linear.Valid (fractions s.recession s.retention) → ⊥)
RefusesNumbers s (Lag fault) =
    Invalid fault × (linear.Valid (fractions s.recession s.retention) × (lag.Valid (steps s.steps) → ⊥))

-- the line with the settings: it is not three numbers, or these three are refused
abbrev pub RefusesSettings : List ℕ → SettingsFault → Type 0
RefusesSettings line NotThreeNumbers = (ns : List ℕ) → WritesAll 3 line ns → ⊥
RefusesSettings line (Linear fault) = Written line (λ s. RefusesNumbers s (Linear fault))
RefusesSettings line (Lag fault) = Written line (λ s. RefusesNumbers s (Lag fault))

-- a volume: the line is no number, or the first of three reservoirs without room for it is named
abbrev pub RefusesVolume : List ℕ → Gauges → VolumeFault → Type 0
RefusesVolume line three NotANumber = (n : ℕ) → Writes line n → ⊥
RefusesVolume line three (NoRoom no_room) =
    (n : ℕ) × (Writes line n × (Full no_room.fault × FirstFull no_room.position three n))
