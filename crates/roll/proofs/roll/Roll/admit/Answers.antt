use Rattle.std.proofs.Common.{◌-◌, Some}
use Rattle.roll.specs.declared.mark.Mark.TheVariants.{Open}
use Rattle.roll.proofs.Entries.{linked_changed, entering, entered_as, as_rolled}
use Rattle.roll.proofs.roll.Roll.admit.Goals as goal

pub invariant_of-self : goal.invariant_of-self
invariant_of-self g c =
    let r = c.args.self.now in
    record {
      linked = linked_changed r (c.args.number - 1) (Open c.in_ok-cell.cell) c.in_ok-cell.cell (Some c.args.node)
          (entering r c.args.number c.in_ok-cell.cell c.args.node c.in_ok-cell.ensures.0);
    }

pub returns : goal.returns
returns g c =
    (c.in_ok-cell.ensures.1, as_rolled _ _ _ (entered_as g.P.Places.reservoirs c.args.self.now c.args.number c.in_ok-cell.cell c.args.node c.in_ok-cell.ensures.0))
