-- A gauged reservoir at the level of definitions: what it answers, leaves and counts.
use Rattle.std.specs.Prelude.{◌≡◌, ℕ, ◌+◌, ◌-◌, ◌^◌, ◌<◌, min, List, Ok, Err, Result}
use Rattle.reservoir.specs.Cells.{capacity, held}
use Rattle.reservoir.specs.Faults.{Full}
use Rattle.reservoir.specs.Meaning.{Settings, Make, Accepts}
use Rattle.reservoir.specs.declared.fault.Fault.{Fault}
use Rattle.routing.specs.declared.gauged.Gauged.{Gauged}
use Rattle.routing.specs.declared.gauged.Passage.{Passage}

-- a reservoir's settings and cells, and everything that it has taken and given
pub record Gauge : Type 0 where
  pub settings : Settings
  pub cells : List ℕ
  pub taken : ℕ
  pub given : ℕ

-- that of a gauged reservoir, by what its type says of settings and cells
abbrev pub gauge : {R : Type 0} → (R → Settings) → (R → List ℕ) → Gauged R → Gauge
gauge settings cells g = record {
  settings = settings g.reservoir;
  cells = cells g.reservoir;
  taken = g.taken.0;
  given = g.given.0;
}

-- the largest total, and a total after one more amount
abbrev pub largest : ℕ
largest = 2 ^ 128 - 1

abbrev pub counted : ℕ → ℕ → ℕ
counted total amount = min (total + amount) largest

-- everything taken is everything given and what is held
abbrev pub Balanced : Gauge → Type 0
Balanced g = g.taken ≡ g.given + held g.cells

-- a volume passed through: what the reservoir gives and then holds, and the gauge that it leaves
abbrev pub Passes : Make → Gauge → ℕ → Passage → Gauge → Type 0
Passes make before volume p after =
    Accepts before.cells volume
    × ((p.gives.0 ≡ make.gives before.settings before.cells volume)
    × ((p.holds.0 ≡ held after.cells)
    × (after ≡ record {
      settings = before.settings;
      cells = make.leaves before.settings before.cells volume;
      taken = counted before.taken volume;
      given = counted before.given p.gives.0;
    })))

-- a taking: the volume is passed through, or refused for want of room and nothing is changed
abbrev pub Routes : Make → Gauge → ℕ → Result Passage Fault → Gauge → Type 0
Routes make before volume (Ok p) after = Passes make before volume p after
Routes make before volume (Err fault) after =
    (capacity < held before.cells + volume) × (Full fault × (after ≡ before))
