use Rattle.std.proofs.Common.{refl}
use Rattle.model.specs.State.{open_with, withdrawn}
use Rattle.roll.specs.Rolls.{rolled}
use Rattle.roll.specs.declared.mark.Mark.TheVariants.{New, Withdrawn}
use Rattle.roll.proofs.Standings.{stands_by, is_open_in, stands_open, marked_as, not_vacant_at, vacancy_found}
use Rattle.roll.proofs.roll.Roll.vacancy.Goals as goal

pub returns-in-New : goal.returns-in-New
returns-in-New g c =
    let r = c.args.self.now in
    vacancy_found g.P.Places.reservoirs r c.args.number (marked_as r.marks c.args.number _ New c.in_ok-mark.ensures c.in-New.is)
    _ _ c.ok_or.ensures.value c.unused_cell.ensures

pub returns-in-Open : goal.returns-in-Open
returns-in-Open g c =
    let r = c.args.self.now in
    let o = is_open_in g.P.Places.reservoirs r c.args.number _ c.in-Open.field-0 c.in_ok-mark.ensures c.in-Open.is in
    let s = stands_open g.P.Places.reservoirs r c.args.number c.in-Open.field-0 o in
    not_vacant_at (rolled g.P.Places.reservoirs r) _ (open_with s.0) _ s.1 refl

pub returns-in-Withdrawn : goal.returns-in-Withdrawn
returns-in-Withdrawn g c =
    not_vacant_at (rolled g.P.Places.reservoirs c.args.self.now) _ withdrawn _
    (stands_by g.P.Places.reservoirs c.args.self.now c.args.number _ Withdrawn c.in_ok-mark.ensures c.in-Withdrawn.is) refl
