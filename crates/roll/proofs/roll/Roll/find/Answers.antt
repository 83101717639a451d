use Rattle.std.proofs.Common.{refl}
use Rattle.model.specs.State.{withdrawn}
use Rattle.roll.specs.declared.mark.Mark.TheVariants.{Withdrawn}
use Rattle.roll.proofs.Standings.{stands_by, is_open_in, not_open_at}
use Rattle.roll.proofs.roll.Roll.find.Goals as goal

pub returns-in-Open : goal.returns-in-Open
returns-in-Open g c = is_open_in g.P.Places.reservoirs c.args.self.now c.args.number _ c.in-Open.cell c.in_ok-mark.ensures c.in-Open.is

pub returns-in-Withdrawn : goal.returns-in-Withdrawn
returns-in-Withdrawn g c =
    not_open_at _ withdrawn _ (stands_by g.P.Places.reservoirs c.args.self.now c.args.number _ Withdrawn c.in_ok-mark.ensures c.in-Withdrawn.is) refl
