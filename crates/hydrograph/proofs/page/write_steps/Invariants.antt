use Rattle.std.proofs.Common.{length}
use Rattle.lines.specs.Runs.{ahead}
use Rattle.hydrograph.proofs.page.write_steps.Given as goal

abbrev pub decreases-loop-line : goal.decreases-loop-line
decreases-loop-line l = length (ahead l.reader)
