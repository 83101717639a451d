-- The next word read as a number.
use Rattle.words.proofs.Numbers.{form_of, next_number}
use Rattle.words.proofs.words.Words.next_number.Goals as goal

pub returns : goal.returns
returns g c =
    next_number (form_of g.met.T.Numeral.legible) c.args.self.now c.next_word.new.self c.in_ok-next_word.field-0 c.in_ok-next_word.ensures _ c.of_word.ensures
