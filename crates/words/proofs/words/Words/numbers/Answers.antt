-- A turn of the loop of `numbers`, and the way out where no number comes, by the lemmas of `Progress`.
use Rattle.std.proofs.Common.{arith}
use Rattle.words.proofs.Progress.{none_at_word, progress_step}
use Rattle.words.proofs.words.Words.numbers.Goals as goal

pub returns-in_err-number : goal.returns-in_err-number
returns-in_err-number g c =
    rw c.from_residual.ensures (none_at_word g.met.T.Numeral.legible c.loop-number.invariant (omega arith) c.default-numbers.result c.in_err-number.ensures)

pub loop-number-preserved : goal.loop-number-preserved
loop-number-preserved g c = progress_step g.met.T.Numeral.legible c.loop-number.invariant (omega arith) c.in_ok-number.field-0 c.in_ok-number.ensures
