-- What every district keeps that was new and got proper calls.
use Rattle.std.specs.Prelude.{◌≡◌, ◌*◌, ◌≤◌, List, length}
use Rattle.std.specs.List.{AllByRecursion}
use Rattle.card.specs.Limits.{largest_concentration}
use Rattle.node.specs.Laws as node
use Rattle.node.specs.Stores.{Store}
use Rattle.places.specs.States.{State, each_holds}
use Rattle.reservoir.specs.Cells.{capacity}
use Rattle.reservoir.specs.Meaning.{Make}
use Rattle.model.specs.State.{Standing, outside, new, open_with, withdrawn, number_count, open_count, Book, income, largest_income, District, usable_cells}
use Rattle.model.specs.Rules.{reading_of}
use Rattle.model.specs.Runs.{Checked}
use Rattle.model.specs.Balance.{Closes}

-- no reservoir holds more than its capacity
abbrev pub WithinCapacity : List State → Type 0
WithinCapacity reservoirs = AllByRecursion (λ volume. volume ≤ capacity) (each_holds reservoirs)

pub record SoundNode (makes : List Make) (n : Store) : Type 0 where
  pub card : Checked n.card
  pub node : node.Sound makes n
  pub contents : WithinCapacity n.reservoirs

abbrev pub SoundStanding : List Make → Standing → Type 0
SoundStanding makes outside = ⊥
SoundStanding makes new = Unit {0}
SoundStanding makes (open_with n) = SoundNode makes n
SoundStanding makes withdrawn = Unit {0}

-- no load is above what everything discharged carries at the largest concentration
abbrev pub LoadsWithin : Book → Type 0
LoadsWithin b = AllByRecursion (λ load. load ≤ largest_concentration * b.discharged) b.loads

pub record Sound (makes : List Make) (d : District) : Type 0 where
  pub numbers : length d.roll ≡ number_count
  pub standings : AllByRecursion (SoundStanding makes) d.roll
  -- each open number has a cell
  pub cells : open_count d.roll ≤ usable_cells d
  pub closes : Closes (reading_of d)
  pub within : income d.book ≤ largest_income
  pub loads : LoadsWithin d.book
