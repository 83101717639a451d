-- Three reservoirs that are offered the same volume.
use Rattle.std.specs.Prelude.{ℕ, ◌+◌, ◌<◌, List}
use Rattle.reservoir.specs.Cells.{capacity, held}
use Rattle.reservoir.specs.Meaning.{Settings, Make, Accepts}
use Rattle.routing.specs.Gauges.{Gauge, gauge, Passes}
use Rattle.routing.specs.declared.side_by_side.Position.{Position}
use Rattle.routing.specs.declared.side_by_side.Position.TheVariants.{First, Second, Third}
use Rattle.routing.specs.declared.side_by_side.SideBySide.{SideBySide}
use Rattle.routing.specs.declared.side_by_side.Step.{Step}

-- the gauges of the three, by what their types say of settings and cells
pub record Gauges : Type 0 where
  pub first : Gauge
  pub second : Gauge
  pub third : Gauge

abbrev pub gauges : {F S T : Type 0} → (F → Settings) → (F → List ℕ) → (S → Settings) → (S → List ℕ) → (T → Settings) → (T → List ℕ) →
    SideBySide F S T → Gauges
gauges f c g d h e three = record { first = gauge f c three.first; second = gauge g d three.second; third = gauge h e three.third }

-- the volume passes through each of the three, of the makes l, m and n
abbrev pub AllPass : Make → Make → Make → Gauges → ℕ → Step → Gauges → Type 0
AllPass l m n before volume step after =
    Passes l before.first volume step.first after.first
    × (Passes m before.second volume step.second after.second
    × Passes n before.third volume step.third after.third)

-- the reservoir at this position has no room for the volume, and those before it have
abbrev pub FirstFull : Position → Gauges → ℕ → Type 0
FirstFull First three volume = capacity < held three.first.cells + volume
FirstFull Second three volume = Accepts three.first.cells volume × (capacity < held three.second.cells + volume)
FirstFull Third three volume =
    Accepts three.first.cells volume × (Accepts three.second.cells volume × (capacity < held three.third.cells + volume))
