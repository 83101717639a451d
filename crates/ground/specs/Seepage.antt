-- A signed seepage is a depth that rises or a depth that sinks.
use Rattle.std.specs.Prelude.{ℕ, suc, ◌≤◌, ℤ, pos, negsuc, ◌≤ℤ◌}

-- the depth that rises: n of n, and 0 of -n
abbrev pub rising_part : ℤ → ℕ
rising_part (pos n) = n
rising_part (negsuc n) = 0

-- the depth that sinks: 0 of n, and n of -n
abbrev pub sinking_part : ℤ → ℕ
sinking_part (pos n) = 0
sinking_part (negsuc n) = suc n

-- With more seepage, no less rises and no more sinks.
abbrev pub SeepageLaw : Type 0
SeepageLaw = (j k : ℤ) → j ≤ℤ k → (rising_part j ≤ rising_part k) × (sinking_part k ≤ sinking_part j)
