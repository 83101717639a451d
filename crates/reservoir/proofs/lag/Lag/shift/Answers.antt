use Rattle.std.proofs.Common.{arith}
use Rattle.reservoir.specs.Delay.{moved_within}
use Rattle.reservoir.proofs.lag.Lag.shift.Goals as goal

pub invariant_of-self-clause-within : goal.invariant_of-self-clause-within
invariant_of-self-clause-within c =
    let w = moved_within c.args.self.now.n c.args.self.now.cells c.rotate_left.new.self c.args.volume c.args.self.now.used.0 (omega arith) c.rotate_left.ensures.after in
    omega arith
