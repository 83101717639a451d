-- Laws of sheets.
use Rattle.std.specs.Prelude.{◌≡◌, List, Err, Result}
use Rattle.card.specs.Checking.{Checks}
use Rattle.card.specs.declared.card.Card.{Card}
use Rattle.card.specs.declared.card.CheckedCard.{CheckedCard}
use Rattle.card.specs.declared.fault.CardFault.{CardFault}
use Rattle.command.specs.Meanings.{Meaning}
use Rattle.reservoir.specs.Meaning.{Make}
use Rattle.reservoir.specs.declared.fault.Refusal.{Refusal}
use Rattle.session.specs.Cards.{card_fault, fault_in}
use Rattle.session.specs.Equipments.{Equipping}
use Rattle.session.specs.Rules.{line_does}
use Rattle.session.specs.Stages.{Session, idling}

-- A refused line leaves the district and its book as they were, and no half-made card.
abbrev pub RefusedLineDropsCard : List Make → Type 0
RefusedLineDropsCard makes = (equipped : Equipping) (s : Session) (meaning : Meaning) (r : Refusal) →
    (line_does makes equipped s meaning).answer ≡ Err r → (line_does makes equipped s meaning).after ≡ idling s.district

-- The fault that the rules of sheets find in a card is the one that checking it answers.
abbrev pub CardFaultIsCheck : Type 0
CardFaultIsCheck = (card : Card) (r : Result CheckedCard CardFault) → Checks card r → card_fault card ≡ fault_in r
