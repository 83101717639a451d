-- A drainage district at the level of definitions: a roll of numbers, its caller's node cells, and a book.
use Rattle.std.specs.Prelude.{ℕ, ◌+◌, ◌-◌, min, Bool, true, false, List, ◌∷◌, replicate, sum_by, count_by, slice_index_or, slice_set}
use Rattle.card.specs.Limits.{nutrient_count}
use Rattle.node.specs.Stores.{Store, storage}

-- The standing of a number: it is new, open with a node, or withdrawn. `outside` is the standing of what is no number of
-- the district, and stands in no roll.
pub data Standing : Type 0 where
  outside : Standing
  new : Standing
  open_with : Store → Standing
  withdrawn : Standing

-- the numbers are 1 to 256
abbrev pub number_count : ℕ
number_count = 256

-- A roll has the standing of each number, in the order of the numbers.
abbrev pub standing : List Standing → ℕ → Standing
standing roll number = slice_index_or (outside ∷ roll) number outside

-- a roll with another standing of one number
abbrev pub entered : List Standing → ℕ → Standing → List Standing
entered roll number s = slice_set roll (number - 1) s

abbrev pub is_open : Standing → Bool
is_open outside = false
is_open new = false
is_open (open_with n) = true
is_open withdrawn = false

abbrev pub open_count : List Standing → ℕ
open_count roll = count_by is_open roll

-- what is stored under a number, and under all numbers
abbrev pub stored : Standing → ℕ
stored outside = 0
stored new = 0
stored (open_with n) = storage n
stored withdrawn = 0

abbrev pub all_stored : List Standing → ℕ
all_stored roll = sum_by stored roll

-- The totals of everything that came in, left and was carried since the district was new.
pub record Book : Type 0 where
  pub rain : ℕ
  -- the seepage that rose
  pub rise : ℕ
  -- the storage of nodes as they were opened
  pub brought_in : ℕ
  pub evaporated : ℕ
  pub discharged : ℕ
  pub sunk : ℕ
  -- the storage of nodes as they were withdrawn
  pub ceded : ℕ
  -- the load of each nutrient
  pub loads : List ℕ

abbrev pub empty_book : Book
empty_book = record {
  rain = 0;
  rise = 0;
  brought_in = 0;
  evaporated = 0;
  discharged = 0;
  sunk = 0;
  ceded = 0;
  loads = replicate nutrient_count 0;
}

-- everything that came in
abbrev pub income : Book → ℕ
income b = b.rain + b.rise + b.brought_in

-- the most that may come in
abbrev pub largest_income : ℕ
largest_income = 1000000000000000000

pub record District : Type 0 where
  pub roll : List Standing
  -- how many node cells the caller handed over
  pub cells : ℕ
  pub book : Book

abbrev pub new_district : ℕ → District
new_district cells = record { roll = replicate number_count new; cells = cells; book = empty_book }

-- Only the first 64 cells are used, and each open number takes one. So an unused cell is left while fewer numbers are open.
abbrev pub usable_cells : District → ℕ
usable_cells d = min 64 d.cells
