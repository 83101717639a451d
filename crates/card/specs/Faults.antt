-- The numbers of a card's faults. The cards are layer 3; a card has no place.
use Rattle.reservoir.specs.declared.fault.Refusal.{Refusal}
use Rattle.card.specs.declared.fault.CardFault.{CardFault}
use Rattle.card.specs.declared.fault.CardFault.TheVariants.{Areas, Soil, Concentrations}

abbrev pub refusal : CardFault → Refusal
refusal Areas = record { cause = 1; layer = 3; place = 0 }
refusal Soil = record { cause = 2; layer = 3; place = 0 }
refusal Concentrations = record { cause = 3; layer = 3; place = 0 }
