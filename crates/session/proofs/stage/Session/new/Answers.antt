use Rattle.session.proofs.Cards.{card_fault_is_check}
use Rattle.session.proofs.stage.Session.new.Goals as goal

pub returns-clause-card_fault_is_check : goal.returns-clause-card_fault_is_check
returns-clause-card_fault_is_check g c = card_fault_is_check
