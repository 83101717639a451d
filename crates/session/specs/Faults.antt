-- The numbers of a sheet's faults. The sheet is layer 1; faults of a card, of reservoirs and of the district keep their own.
use Rattle.card.specs.Faults as cards
use Rattle.places.specs.Faults.{placed_refusal}
use Rattle.reservoir.specs.declared.fault.Refusal.{Refusal}
use Rattle.roll.specs.Faults.{district_refusal}
use Rattle.session.specs.declared.fault.SheetFault.{SheetFault}
use Rattle.session.specs.declared.fault.SheetFault.TheVariants.{NoForm, OutOfTurn, OfCard, OfReservoir, OfDistrict}

-- a line that has no form
abbrev pub malformed : Refusal
malformed = record { cause = 13; layer = 1; place = 0 }

-- a letter out of turn
abbrev pub out_of_turn : Refusal
out_of_turn = record { cause = 14; layer = 1; place = 0 }

abbrev pub sheet_refusal : SheetFault → Refusal
sheet_refusal NoForm = malformed
sheet_refusal OutOfTurn = out_of_turn
sheet_refusal (OfCard fault) = cards.refusal fault
sheet_refusal (OfReservoir fault) = placed_refusal fault
sheet_refusal (OfDistrict fault) = district_refusal fault
