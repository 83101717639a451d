-- The loop of `numbers`.
use Rattle.words.specs.Readings.{ahead}
use Rattle.words.proofs.Progress.{Progress}
use Rattle.words.proofs.words.Words.numbers.Given as goal

abbrev pub invariant-loop-number : goal.invariant-loop-number
invariant-loop-number g l = Progress g.T.Numeral.form g.T.Numeral.size g.row.N (ahead l.initial.self) l.number-items l.number-index (ahead l.self)
