-- What a reservoir is, whatever its make.
use Rattle.std.specs.Prelude.{◌≡◌, ℕ, ◌+◌, ◌≤◌, List, length}
use Rattle.reservoir.specs.Cells.{capacity, held, AtMost}

-- a reservoir's settings: some numbers, or the settings of two reservoirs in series
pub data Settings : Type 0 where
  single : List ℕ → Settings
  joined : Settings → Settings → Settings

-- A make of reservoir: which settings are valid, how many cells they ask for, and what it gives and the cells
-- that it leaves when it takes a volume. That the last two are functions says that settings, cells and
-- volume fix them.
pub record Make : Type 1 where
  pub Valid : Settings → Type 0
  pub size : Settings → ℕ
  pub gives : Settings → List ℕ → ℕ → ℕ
  pub leaves : Settings → List ℕ → ℕ → List ℕ

-- valid settings, and as many cells as they ask for
abbrev pub Fits : Make → Settings → List ℕ → Type 0
Fits make settings cells = make.Valid settings × (length cells ≡ make.size settings)

-- the cells have room for a volume
abbrev pub Accepts : List ℕ → ℕ → Type 0
Accepts cells volume = held cells + volume ≤ capacity

-- What every make has to show of the volumes that it accepts.
pub record Meaning (make : Make) : Type 0 where
  -- a taking leaves as many cells
  pub keeps : (s : Settings) (c : List ℕ) (v : ℕ) → Fits make s c → Accepts c v →
      length (make.leaves s c v) ≡ make.size s
  -- what is held afterwards, and what is given, is what was held and what was taken
  pub balance : (s : Settings) (c : List ℕ) (v : ℕ) → Fits make s c → Accepts c v →
      held (make.leaves s c v) + make.gives s c v ≡ held c + v
  -- the law of more: from cells that hold at least as much, at least as much taken gives at least as much
  -- and leaves cells that hold at least as much
  pub more : (s : Settings) (c d : List ℕ) (v w : ℕ) → Fits make s c → Fits make s d → Accepts c v → Accepts d w →
      AtMost c d → v ≤ w →
      (make.gives s c v ≤ make.gives s d w) × AtMost (make.leaves s c v) (make.leaves s d w)
