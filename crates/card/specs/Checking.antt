-- What checking a card answers.
use Rattle.std.specs.Prelude.{◌≡◌, Ok, Err, Result}
use Rattle.ground.specs.Limits.{Admissible}
use Rattle.card.specs.Limits.{AreasWithin, ConcentrationsWithin}
use Rattle.card.specs.declared.card.Card.{Card}
use Rattle.card.specs.declared.card.CheckedCard.{CheckedCard}
use Rattle.card.specs.declared.fault.CardFault.{CardFault}
use Rattle.card.specs.declared.fault.CardFault.TheVariants.{Areas, Soil, Concentrations}

-- the numbers of a checked card
abbrev pub numbers_of : CheckedCard → Card
numbers_of checked = record {
  areas = checked.areas.numbers;
  soil = checked.soil.numbers;
  concentrations = checked.concentrations.numbers;
}

-- the first fault of a card, in the order areas, soil, concentrations
abbrev pub FirstFault : Card → CardFault → Type 0
FirstFault card Areas = AreasWithin card.areas → ⊥
FirstFault card Soil = AreasWithin card.areas × (Admissible card.soil → ⊥)
FirstFault card Concentrations =
    AreasWithin card.areas
    × Admissible card.soil
    × (ConcentrationsWithin card.concentrations.by_flow → ⊥)

-- Checking: refused with the first fault if there is one; else the numbers are the card's.
abbrev pub Checks : Card → Result CheckedCard CardFault → Type 0
Checks card (Ok checked) =
    (AreasWithin card.areas × Admissible card.soil × ConcentrationsWithin card.concentrations.by_flow)
    × (numbers_of checked ≡ card)
Checks card (Err fault) = FirstFault card fault
