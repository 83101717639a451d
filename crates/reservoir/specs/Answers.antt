-- What the calls of a reservoir answer and leave.
use Rattle.std.specs.Prelude.{◌≡◌, ℕ, ◌+◌, ◌<◌, List, replicate, Ok, Err, Result}
use Rattle.quantity.specs.declared.water.Centilitres.{Centilitres}
use Rattle.reservoir.specs.Cells.{capacity, held}
use Rattle.reservoir.specs.Meaning.{Settings, Make, Accepts}
use Rattle.reservoir.specs.Faults.{Invalid, Full}
use Rattle.reservoir.specs.declared.fault.Fault.{Fault}

-- Making a reservoir of settings s: refused if and only if they are not valid; else it has them, and every cell is 0.
-- The second and third arguments say which settings and cells a reservoir of the type R has.
abbrev pub Makes : {R : Type 0} → Make → (R → Settings) → (R → List ℕ) → Settings → Result R Fault → Type 0
Makes make settings cells s (Ok r) = make.Valid s × ((settings r ≡ s) × (cells r ≡ replicate (make.size s) 0))
Makes make settings cells s (Err fault) = (make.Valid s → ⊥) × Invalid fault

-- Offering a volume, of which nothing is taken.
abbrev pub Offers : List ℕ → ℕ → Result (Unit {0}) Fault → Type 0
Offers c volume (Ok done) = Accepts c volume
Offers c volume (Err fault) = (capacity < held c + volume) × Full fault

-- Taking a volume: from settings s and cells c, the answer and the cells that are left. It is refused if and only
-- if what is held and the volume are above the capacity.
abbrev pub Takes : Make → Settings → List ℕ → ℕ → Result Centilitres Fault → List ℕ → Type 0
Takes make s c volume (Ok given) d =
    Accepts c volume × ((given.0 ≡ make.gives s c volume) × (d ≡ make.leaves s c volume))
Takes make s c volume (Err fault) d = (capacity < held c + volume) × (Full fault × (d ≡ c))
