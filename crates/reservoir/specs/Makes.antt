-- The makes: linear reservoir, lag, and two reservoirs in series.
use Rattle.std.specs.Prelude.{ℕ, ◌+◌, ◌-◌, ◌*◌, ◌/◌, ◌≤◌, [], ◌∷◌, ◌++◌, take, drop, slice_index}
use Rattle.reservoir.specs.Meaning.{Settings, single, joined, Make}

-- the settings of a linear reservoir, recession and retention, and of a lag, its number of cells
abbrev pub fractions : ℕ → ℕ → Settings
fractions recession retention = single (recession ∷ retention ∷ [])

abbrev pub steps : ℕ → Settings
steps n = single (n ∷ [])

-- the number at a place of the settings, from 0; 0 where there is none
abbrev pub setting : ℕ → Settings → ℕ
setting i (single numbers) = slice_index numbers i
setting i (joined s t) = 0

-- the settings of the first and of the second of two reservoirs in series
abbrev pub of_first : Settings → Settings
of_first (single numbers) = single []
of_first (joined s t) = s

abbrev pub of_second : Settings → Settings
of_second (single numbers) = single []
of_second (joined s t) = t

-- What a linear reservoir keeps of its storage and of what it takes, by its two fractions in 65,536ths,
-- rounded down once over the sum.
abbrev pub kept : ℕ → ℕ → ℕ → ℕ → ℕ
kept recession retention storage volume = (recession * storage + retention * volume) / 65536

-- Linear reservoir: settings recession and retention, one cell. What is not kept is given.
abbrev pub linear : Make
linear = record {
  Valid = λ s. (setting 0 s ≤ setting 1 s) × (setting 1 s ≤ 65535);
  size = λ s. 1;
  gives = λ s c v. (slice_index c 0 + v) - kept (setting 0 s) (setting 1 s) (slice_index c 0) v;
  leaves = λ s c v. kept (setting 0 s) (setting 1 s) (slice_index c 0) v ∷ [];
}

-- Lag: one setting n, n cells, oldest first. The oldest is given, the others move on, the volume is the newest.
abbrev pub lag : Make
lag = record {
  Valid = λ s. (1 ≤ setting 0 s) × (setting 0 s ≤ 12);
  size = λ s. setting 0 s;
  gives = λ s c v. slice_index c 0;
  leaves = λ s c v. drop 1 c ++ (v ∷ []);
}

-- Series: the cells of the first, then of the second; what the first gives, the second takes.
abbrev pub series : Make → Make → Make
series m n = record {
  Valid = λ s. m.Valid (of_first s) × n.Valid (of_second s);
  size = λ s. m.size (of_first s) + n.size (of_second s);
  gives = λ s c v.
      n.gives (of_second s) (drop (m.size (of_first s)) c) (m.gives (of_first s) (take (m.size (of_first s)) c) v);
  leaves = λ s c v. m.leaves (of_first s) (take (m.size (of_first s)) c) v
      ++ n.leaves (of_second s) (drop (m.size (of_first s)) c) (m.gives (of_first s) (take (m.size (of_first s)) c) v);
}
