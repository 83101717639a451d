-- Two reservoirs alike, run side by side: the one that is offered more gives no less.
use Rattle.std.specs.Prelude.{ℕ, ◌≤◌, List, [], ◌∷◌, Ok, Err, Result}
use Rattle.std.specs.List.{AllByRecursion}
use Rattle.quantity.specs.declared.water.Centilitres.{Centilitres}
use Rattle.reservoir.specs.Answers.{Takes}
use Rattle.reservoir.specs.Cells.{AtMost}
use Rattle.reservoir.specs.Meaning.{Settings, Make}
use Rattle.reservoir.specs.declared.fault.Fault.{Fault}
use Rattle.routing.specs.Runs.{Taking, empty, gives}

-- a taking by each of two reservoirs
pub record Pair : Type 0 where
  pub first : Taking
  pub second : Taking

-- both accept or both refuse
abbrev pub Together : Result Centilitres Fault → Result Centilitres Fault → Type 0
Together (Ok g) (Ok h) = Unit {0}
Together (Ok g) (Err e) = ⊥
Together (Err e) (Ok g) = ⊥
Together (Err e) (Err f) = Unit {0}

-- The pairs, in this order, are takings of two reservoirs with settings s and, at first, cells c and d; in each pair
-- the second is offered at least as much, and both accept or both refuse.
abbrev pub PairRun : Make → Settings → List ℕ → List ℕ → List Pair → Type 0
PairRun make s c d [] = Unit {0}
PairRun make s c d (p ∷ ps) =
    Takes make s c p.first.volume p.first.answer p.first.after
    × (Takes make s d p.second.volume p.second.answer p.second.after
    × ((p.first.volume ≤ p.second.volume)
    × (Together p.first.answer p.second.answer
    × PairRun make s p.first.after p.second.after ps)))

-- in each pair the second gives at least as much, and then holds at least as much in each cell
abbrev pub NoLess : List Pair → Type 0
NoLess ps =
    AllByRecursion (λ p. (gives p.first.answer ≤ gives p.second.answer) × AtMost p.first.after p.second.after) ps

-- More gives no less, for every such list of pairs of two reservoirs that were empty.
abbrev pub MoreGivesNoLess : Make → Type 0
MoreGivesNoLess make = (s : Settings) (ps : List Pair) → make.Valid s →
    PairRun make s (empty make s) (empty make s) ps → NoLess ps
