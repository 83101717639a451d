-- Lists of cells: what they hold, and when one list holds at most as much as another, cell by cell.
use Rattle.std.specs.Prelude.{ℕ, ◌+◌, ◌≤◌, List, [], ◌∷◌, map, length, replicate}
use Rattle.quantity.specs.declared.water.Centilitres.{Centilitres}

-- the largest volume that a reservoir may hold, in centilitres
abbrev pub capacity : ℕ
capacity = 100000000000000

-- the numbers of centilitres of cells
abbrev pub volumes : List Centilitres → List ℕ
volumes cells = map (λ volume. volume.0) cells

-- what cells hold: their sum
abbrev pub held : List ℕ → ℕ
held [] = 0
held (x ∷ xs) = x + held xs

-- as many cells, each 0
abbrev pub emptied : List ℕ → List ℕ
emptied cells = replicate (length cells) 0

-- as many cells, each at most its fellow
abbrev pub AtMost : List ℕ → List ℕ → Type 0
AtMost [] [] = Unit {0}
AtMost [] (y ∷ ys) = ⊥
AtMost (x ∷ xs) [] = ⊥
AtMost (x ∷ xs) (y ∷ ys) = (x ≤ y) × AtMost xs ys
