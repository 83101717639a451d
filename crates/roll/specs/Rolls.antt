-- What a roll says of its numbers, and what its functions find and leave.
use Rattle.std.specs.Prelude.{◌≡◌, ℕ, ◌-◌, ◌<◌, ◌≤◌, min, true, false, List, map, length, get_or, is_some, Some, None, Ok, Err, vec_items, vec_len, Option, Result, slice_index_or}
use Rattle.ground.specs.declared.forcing.Forcing.{Forcing}
use Rattle.model.specs.Refusals.{would_refuse, verdict}
use Rattle.model.specs.State.{Standing, outside, new, open_with, withdrawn, number_count, standing, entered, open_count}
use Rattle.node.specs.Answers.{store, yielded}
use Rattle.node.specs.Rules.{yield_of, after}
use Rattle.node.specs.declared.answer.Yield.{Yield}
use Rattle.node.specs.declared.node.Node.{Node}
use Rattle.places.specs.States.{State}
use Rattle.reservoir.specs.Meaning.{Make}
use Rattle.roll.specs.Faults.{district_refusal}
use Rattle.roll.specs.declared.fault.DistrictFault.{DistrictFault}
use Rattle.roll.specs.declared.fault.DistrictFault.TheVariants.{NumberOutside, NumberOpen, NumberWithdrawn, NoUnusedCell, NumberNew}
use Rattle.roll.specs.declared.mark.Mark.{Mark}
use Rattle.roll.specs.declared.mark.Mark.TheVariants.{New, Open, Withdrawn}
use Rattle.roll.specs.declared.roll.Roll.{Roll}

-- The standing of a number with a mark. An open number's cell has a node, so that what is said of an empty one is of no matter.
abbrev pub standing_in : {P : Type 0} → (P → List State) → Option (Node P) → Standing
standing_in reservoirs None = outside
standing_in reservoirs (Some n) = open_with (store reservoirs n)

abbrev pub standing_of : {P : Type 0} → (P → List State) → List (Option (Node P)) → Mark → Standing
standing_of reservoirs cells New = new
standing_of reservoirs cells (Open i) = standing_in reservoirs (slice_index_or cells i None)
standing_of reservoirs cells Withdrawn = withdrawn

abbrev pub standings : {P : Type 0} → (P → List State) → List (Option (Node P)) → List Mark → List Standing
standings reservoirs cells marks = map (standing_of reservoirs cells) marks

-- the standing of each number, and how many cells there are
pub record Rolled : Type 0 where
  pub roll : List Standing
  pub cells : ℕ

abbrev pub rolled : {P : Type 0} → (P → List State) → Roll P → Rolled
rolled reservoirs r = record { roll = standings reservoirs (vec_items r.cells) r.marks; cells = vec_len r.cells }

-- what every roll keeps: all numbers stand in it, and each open one has a cell
pub record Kept (l : Rolled) : Type 0 where
  pub numbers : length l.roll ≡ number_count
  pub stand : (k : ℕ) → 1 ≤ k → k ≤ number_count → standing l.roll k ≡ outside → ⊥
  pub cells : open_count l.roll ≤ min 64 l.cells

-- the same with another standing of one number
abbrev pub with_standing : Rolled → ℕ → Standing → Rolled
with_standing l k s = record { roll = entered l.roll k s; cells = l.cells }

-- the number k is one of 1 to 256 and has the mark m
pub record Marked (marks : List Mark) (k : ℕ) (m : Mark) : Type 0 where
  pub from_one : 1 ≤ k
  pub to_last : k ≤ 256
  pub is : get_or marks (k - 1) New ≡ m

-- the number k is open in the cell i, which has its node
pub record OpenIn {P : Type 0} (r : Roll P) (k i : ℕ) : Type 0 where
  pub marked : Marked r.marks k (Open i)
  pub within : i < vec_len r.cells
  pub used : is_some (slice_index_or (vec_items r.cells) i None) ≡ true

-- the number k is new, and the cell i is one of the first 64 and has no node
pub record Vacant {P : Type 0} (r : Roll P) (k i : ℕ) : Type 0 where
  pub marked : Marked r.marks k New
  pub usable : i < 64
  pub within : i < vec_len r.cells
  pub unused : is_some (slice_index_or (vec_items r.cells) i None) ≡ false

-- why a number that is not open is refused
abbrev pub NotOpen : Standing → DistrictFault → Type 0
NotOpen outside fault = fault ≡ NumberOutside
NotOpen new fault = fault ≡ NumberNew
NotOpen (open_with n) fault = ⊥
NotOpen withdrawn fault = fault ≡ NumberWithdrawn

-- whether an unused cell is left
abbrev pub CellLeft : Rolled → Type 0
CellLeft l = open_count l.roll < min 64 l.cells

abbrev pub NoCellLeft : Rolled → Type 0
NoCellLeft l = min 64 l.cells ≤ open_count l.roll

-- whether a number can be opened: it is new, and a cell is left
abbrev pub Openable : Rolled → ℕ → Type 0
Openable l k = (standing l.roll k ≡ new) × CellLeft l

-- why a number is refused that was to be opened
abbrev pub NotVacant : Rolled → Standing → DistrictFault → Type 0
NotVacant l outside fault = fault ≡ NumberOutside
NotVacant l new fault = (fault ≡ NoUnusedCell) × NoCellLeft l
NotVacant l (open_with n) fault = fault ≡ NumberOpen
NotVacant l withdrawn fault = fault ≡ NumberWithdrawn

-- A step of a number: the answer and the roll that it leaves, by the number's standing.
abbrev pub StepsAt : List Make → Standing → Rolled → ℕ → Forcing → Result Yield DistrictFault → Rolled → Type 0
StepsAt makes outside l k f r m = (r ≡ Err NumberOutside) × (m ≡ l)
StepsAt makes new l k f r m = (r ≡ Err NumberNew) × (m ≡ l)
StepsAt makes withdrawn l k f r m = (r ≡ Err NumberWithdrawn) × (m ≡ l)
StepsAt makes (open_with n) l k f (Ok y) m =
    (yielded y ≡ yield_of makes n f) × (m ≡ with_standing l k (open_with (after makes n f)))
StepsAt makes (open_with n) l k f (Err fault) m = (verdict n f ≡ would_refuse (district_refusal fault)) × (m ≡ l)
