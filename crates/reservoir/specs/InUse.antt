-- The cells of a lag that are in use.
use Rattle.std.specs.Prelude.{ℕ, List, take}
use Rattle.reservoir.specs.Cells.{volumes}
use Rattle.reservoir.specs.declared.lag.Lag.{Lag}

-- what they hold, oldest first
abbrev pub in_use : Lag → List ℕ
in_use l = volumes (take l.n l.cells)
