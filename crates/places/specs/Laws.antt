-- Laws over all places together, of volumes that each reservoir accepts.
use Rattle.std.specs.Prelude.{◌≡◌, ℕ, ◌+◌, List, [], ◌∷◌}
use Rattle.reservoir.specs.Cells.{held, AtMost}
use Rattle.reservoir.specs.Meaning.{Make}
use Rattle.places.specs.States.{State, EachFits, EachAccepts, each_gives, each_leaves, each_holds}

-- the sum over all places
abbrev pub total : List ℕ → ℕ
total volumes = held volumes

-- as many reservoirs, each with the settings of its fellow, and each cell at most the fellow's
abbrev pub EachAtMost : List State → List State → Type 0
EachAtMost [] [] = Unit {0}
EachAtMost [] (t ∷ ts) = ⊥
EachAtMost (s ∷ ss) [] = ⊥
EachAtMost (s ∷ ss) (t ∷ ts) = ((s.settings ≡ t.settings) × AtMost s.cells t.cells) × EachAtMost ss ts

-- what all hold afterwards, and what all give, is what all held and what all took
abbrev pub Balance : List Make → Type 0
Balance makes = (states : List State) (volumes : List ℕ) → EachFits makes states → EachAccepts states volumes →
    total (each_holds (each_leaves makes states volumes)) + total (each_gives makes states volumes)
    ≡ total (each_holds states) + total volumes

-- the reservoirs fit their makes again
abbrev pub Keeps : List Make → Type 0
Keeps makes = (states : List State) (volumes : List ℕ) → EachFits makes states → EachAccepts states volumes →
    EachFits makes (each_leaves makes states volumes)

-- the law of more: with the same settings, and cells that hold at least as much, at least as much taken in each
-- place gives at least as much in each place, and leaves cells that hold at least as much
abbrev pub More : List Make → Type 0
More makes = (states fuller : List State) (volumes larger : List ℕ) → EachFits makes states → EachFits makes fuller →
    EachAccepts states volumes → EachAccepts fuller larger → EachAtMost states fuller → AtMost volumes larger →
    AtMost (each_gives makes states volumes) (each_gives makes fuller larger)
    × EachAtMost (each_leaves makes states volumes) (each_leaves makes fuller larger)

pub record Laws (makes : List Make) : Type 0 where
  pub balance : Balance makes
  pub keeps : Keeps makes
  pub more : More makes
