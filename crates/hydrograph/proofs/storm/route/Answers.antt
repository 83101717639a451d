use Rattle.std.proofs.Common.{arith}
use Rattle.std.proofs.lemmas.Result.{err_from_is_err_and}
use Rattle.hydrograph.proofs.storm.route.Goals as goal

pub returns-in_err-step : goal.returns-in_err-step
returns-in_err-step g c =
    let number = c.in_ok-number.number in
    let refused = c.in_err-step.ensures in
    let p = err_from_is_err_and c.from_residual-in_err-step.result c.from_residual-in_err-step.ensures.1 in
    rw (p.1, p.2) ((number, ((c.natural.ensures number).0 (grind arith), (refused.0, refused.1.0))), refused.1.1)
