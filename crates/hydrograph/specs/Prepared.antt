-- The reservoirs that the settings of a storm make.
use Rattle.std.specs.Prelude.{◌≡◌, ℕ, List, [], ◌∷◌, ◌++◌, replicate}
use Rattle.hydrograph.specs.declared.storm.Settings.{Settings}
use Rattle.reservoir.specs.Makes.{linear, lag, fractions, steps}
use Rattle.reservoir.specs.Meaning.{Settings as MakeSettings, joined}
use Rattle.reservoir.specs.contracts.lag.LagReservoir.TheImpl.{ghosts as of_lag}
use Rattle.reservoir.specs.contracts.linear.LinearReservoir.TheImpl.{ghosts as of_linear}
use Rattle.reservoir.specs.declared.lag.Lag.{Lag}
use Rattle.reservoir.specs.declared.linear.Linear.{Linear}
use Rattle.reservoir.specs.declared.series.Series.{Series}
use Rattle.routing.specs.Gauges.{Gauge, gauge}
use Rattle.routing.specs.declared.side_by_side.SideBySide.{SideBySide}

-- an empty linear reservoir and an empty lag of valid settings
pub record LinearAndLag (s : Settings) (first : Linear) (second : Lag) : Type 0 where
  pub fractions_valid : linear.Valid (fractions s.recession s.retention)
  pub steps_valid : lag.Valid (steps s.steps)
  pub linear_settings : of_linear.settings first ≡ fractions s.recession s.retention
  pub linear_cells : of_linear.cells first ≡ 0 ∷ []
  pub lag_settings : of_lag.settings second ≡ steps s.steps
  pub lag_cells : of_lag.cells second ≡ replicate s.steps 0

-- the gauge of a reservoir with these settings and cells that has taken and given nothing
abbrev pub fresh : MakeSettings → List ℕ → Gauge
fresh s c = record { settings = s; cells = c; taken = 0; given = 0 }

-- the three reservoirs of valid settings: the linear one, the lag, and such a linear one followed by such a lag
pub record Prepares (s : Settings) (made : SideBySide Linear Lag (Series Linear Lag)) : Type 0 where
  pub fractions_valid : linear.Valid (fractions s.recession s.retention)
  pub steps_valid : lag.Valid (steps s.steps)
  pub first : gauge of_linear.settings of_linear.cells made.first ≡ fresh (fractions s.recession s.retention) (0 ∷ [])
  pub second : gauge of_lag.settings of_lag.cells made.second ≡ fresh (steps s.steps) (replicate s.steps 0)
  pub third :
      gauge
      (λ r. joined (of_linear.settings r.first) (of_lag.settings r.second))
      (λ r. of_linear.cells r.first ++ of_lag.cells r.second)
      made.third
      ≡ fresh (joined (fractions s.recession s.retention) (steps s.steps)) (0 ∷ replicate s.steps 0)
