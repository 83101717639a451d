-- How the engine's quantities make one another. All are whole numbers.
use Rattle.std.specs.Prelude.{ℕ, ◌+◌, ◌*◌}

-- a depth in points of 0.01 mm over an area in square metres: a volume in centilitres
abbrev pub volume_of : ℕ → ℕ → ℕ
volume_of depth area = depth * area

-- a volume in centilitres at a concentration in hundredths of a milligram per litre: a load in tenths of a microgram
abbrev pub load_of : ℕ → ℕ → ℕ
load_of volume concentration = volume * concentration

-- the tenths of a microgram in a gram
abbrev pub gram : ℕ
gram = 10000000

-- the tenths of a microgram in whole grams and a rest
abbrev pub tenths_of : ℕ → ℕ → ℕ
tenths_of grams rest = grams * gram + rest
