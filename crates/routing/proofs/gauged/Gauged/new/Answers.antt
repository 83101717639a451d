use Rattle.std.proofs.Common.{length, ap, arith}
use Rattle.reservoir.specs.Cells.{held}
use Rattle.reservoir.specs.Lists.{held_zeros}
use Rattle.routing.proofs.Laws.{runs_balance, more_gives_no_less}
use Rattle.routing.proofs.gauged.Gauged.new.Goals as goal

pub returns-clause-balanced : goal.returns-clause-balanced
returns-clause-balanced g c =
    let e = ap held c.empty.ensures.all_zero in
    let h = held_zeros (length (g.R.Reservoir.cells c.args.reservoir)) in omega arith

pub returns-clause-runs_balance : goal.returns-clause-runs_balance
returns-clause-runs_balance g c = runs_balance g.R.Reservoir.make g.met.R.Reservoir.meaning

pub returns-clause-more_gives_no_less : goal.returns-clause-more_gives_no_less
returns-clause-more_gives_no_less g c = more_gives_no_less g.R.Reservoir.make g.met.R.Reservoir.meaning
