-- How the marks of a roll and its cells go together. Only the first 64 cells are used.
use Rattle.std.specs.Prelude.{◌≡◌, ℕ, ◌<◌, Bool, true, false, List, length, take, is_some, None, count_by, Option, slice_index_or}
use Rattle.roll.specs.declared.mark.Mark.{Mark}
use Rattle.roll.specs.declared.mark.Mark.TheVariants.{New, Open, Withdrawn}

abbrev pub marks_open : Mark → Bool
marks_open New = false
marks_open (Open i) = true
marks_open Withdrawn = false

-- each open number's cell is among the first 64
abbrev pub Usable : List Mark → Type 0
Usable marks = (k i : ℕ) → slice_index_or marks k New ≡ Open i → i < 64

-- and has a node
abbrev pub Used : {N : Type 0} → List Mark → List (Option N) → Type 0
Used marks cells = (k i : ℕ) → slice_index_or marks k New ≡ Open i → is_some (slice_index_or cells i None) ≡ true

-- no two numbers have one cell
abbrev pub Alone : List Mark → Type 0
Alone marks = (k j : ℕ) → ((i : ℕ) × ((slice_index_or marks k New ≡ Open i) × (slice_index_or marks j New ≡ Open i))) → j ≡ k

-- as many numbers are open as the first 64 cells have nodes
abbrev pub Counted : {N : Type 0} → List Mark → List (Option N) → Type 0
Counted marks cells = count_by marks_open marks ≡ count_by is_some (take 64 cells)

-- The facts that every roll keeps: so a number's cell is found by its mark alone, and a cell has a node only if a number is
-- open in it.
pub record Linked {N : Type 0} (marks : List Mark) (cells : List (Option N)) : Type 0 where
  pub numbers : length marks ≡ 256
  pub usable : Usable marks
  pub used : Used marks cells
  pub alone : Alone marks
  pub counted : Counted marks cells
