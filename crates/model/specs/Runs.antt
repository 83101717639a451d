-- Lists of calls to a district, one after the other.
use Rattle.std.specs.Prelude.{List, [], ◌∷◌}
use Rattle.std.specs.List.{AllByRecursion}
use Rattle.card.specs.Limits.{AreasWithin, ConcentrationsWithin}
use Rattle.card.specs.declared.card.Card.{Card}
use Rattle.ground.specs.Limits.{Admissible}
use Rattle.places.specs.States.{EachFits}
use Rattle.reservoir.specs.Meaning.{Make}
use Rattle.model.specs.State.{District}
use Rattle.model.specs.Calls.{Call, opening, stepping, withdrawing, looking, reading}
use Rattle.model.specs.Rules.{does}

-- a card that was checked
pub record Checked (c : Card) : Type 0 where
  pub areas : AreasWithin c.areas
  pub soil : Admissible c.soil
  pub concentrations : ConcentrationsWithin c.concentrations.by_flow

-- the calls that a caller can make: an opening is on a checked card, over reservoirs that fit their makes
abbrev pub Proper : List Make → Call → Type 0
Proper makes (opening k c ss) = Checked c × EachFits makes ss
Proper makes (stepping k f) = Unit {0}
Proper makes (withdrawing k) = Unit {0}
Proper makes (looking k) = Unit {0}
Proper makes reading = Unit {0}

abbrev pub AllProper : List Make → List Call → Type 0
AllProper makes calls = AllByRecursion (Proper makes) calls

-- the district that a list of calls leaves, refused ones among them
abbrev pub after_all : List Make → District → List Call → District
after_all makes d [] = d
after_all makes d (call ∷ calls) = after_all makes (does makes d call).after calls
