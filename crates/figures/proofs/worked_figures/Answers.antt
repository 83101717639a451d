use Rattle.std.proofs.Common.{refl}
use Rattle.ground.specs.Rules.{soaked}
use Rattle.figures.specs.Table.{table}
use Rattle.figures.proofs.Computed.{all_pass_means}
use Rattle.figures.proofs.worked_figures.Goals as goal

pub returns : goal.returns
unfolding soaked
returns c = record { count = refl; all_hold = all_pass_means table refl }
