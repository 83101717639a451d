-- What a call of the district leads to in a session.
use Rattle.std.proofs.Common.{ℕ, List, None, Ok, Err, Option, sym, ap, subst}
use Rattle.card.specs.Checking.{Checks, numbers_of}
use Rattle.card.specs.Faults as cards
use Rattle.card.specs.declared.card.Card.{Card}
use Rattle.card.specs.declared.card.CheckedCard.{CheckedCard}
use Rattle.card.specs.declared.fault.CardFault.{CardFault}
use Rattle.model.specs.Calls as calls
use Rattle.model.specs.Calls.{Call, opening, Granted}
use Rattle.model.specs.Rules.{does}
use Rattle.model.specs.State.{District}
use Rattle.places.specs.States.{State}
use Rattle.reservoir.specs.Meaning.{Make}
use Rattle.district.specs.Answers.{FollowsRules}
use Rattle.session.specs.Cards.{card_fault}
use Rattle.session.specs.Entries.{Entry, opened}
use Rattle.session.specs.Follows.{Gives}
use Rattle.session.specs.Rules.{called, entry_of, ends}
use Rattle.session.specs.Stages.{idling}
use Rattle.session.proofs.Cards.{card_fault_is_check}

pub call_gives : (makes : List Make) (d e : District) (call : Call) (entry : Granted call → Entry) (a : calls.Answer call) → FollowsRules makes d call a e →
    Gives makes d (called call entry (does makes d call)) (entry_of call entry a) (idling e)
call_gives makes d e call entry a h s = (ap (called call entry) (h s).0, (h s).1)

-- a card that is refused
pub card_refused : (makes : List Make) (d : District) (k : ℕ) (card : Card) (ss : List State) (fault : CardFault) → Checks card (Err fault) →
    Gives makes d (ends makes d k card ss (card_fault card)) (Err (cards.refusal fault)) (idling d)
card_refused makes d k card ss fault h s = (ap (ends makes d k card ss) (card_fault_is_check card (Err fault) h), s)

-- a card that is checked and opened, whatever the district answers
pub card_gives : (makes : List Make) (d e : District) (k : ℕ) (card : Card) (ss : List State) (checked : CheckedCard)
    (a : calls.Answer (opening k (numbers_of checked) ss)) → Checks card (Ok checked) → FollowsRules makes d (opening k (numbers_of checked) ss) a e →
    Gives makes d (ends makes d k card ss (card_fault card)) (entry_of (opening k (numbers_of checked) ss) (opened k) a) (idling e)
card_gives makes d e k card ss checked a c h =
    let answer = entry_of (opening k (numbers_of checked) ss) (opened k) a in
    subst (λ (f : Option CardFault). Gives makes d (ends makes d k card ss f) answer (idling e)) (sym (card_fault_is_check card (Ok checked) c))
    (subst (λ (n : Card). Gives makes d (ends makes d k n ss None) answer (idling e)) c.1
    (call_gives makes d e (opening k (numbers_of checked) ss) (opened k) a h))
