-- The loop of `naturals`.
use Rattle.decimal.proofs.Lines.{Progress}
use Rattle.decimal.proofs.naturals.Given as goal

abbrev pub invariant-loop-number : goal.invariant-loop-number
invariant-loop-number g l = Progress g.row.N l.line l.number-items l.number-index l.rest
