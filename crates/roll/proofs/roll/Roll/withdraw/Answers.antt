use Rattle.std.proofs.Common.{◌-◌, ◌<◌, length, vec_items, sym, ◌∙◌, arith}
use Rattle.roll.specs.declared.mark.Mark.TheVariants.{Withdrawn}
use Rattle.roll.proofs.Entries.{linked_changed, withdrawing, withdrawn_as, as_rolled}
use Rattle.roll.proofs.Standings.{standing_open}
use Rattle.roll.proofs.roll.Roll.withdraw.Goals as goal

pub invariant_of-self : goal.invariant_of-self
invariant_of-self g c =
    let r = c.args.self.now in
    record {
      linked = linked_changed r (c.args.number - 1) Withdrawn c.in_ok-cell.cell c.take.new.self
          (withdrawing r c.args.number c.in_ok-cell.cell c.in_ok-cell.ensures c.take.new.self c.take.ensures.after);
    }

pub returns : goal.returns
returns g c =
    let r = c.args.self.now in
    let h = c.in_ok-cell.ensures in
    let l : c.in_ok-cell.cell < length (vec_items r.cells) = omega (arith, h.within, r.cells.ok.0) in (
      standing_open g.P.Places.reservoirs (vec_items r.cells) r.marks c.args.number c.in_ok-cell.cell _ c.in-Some.node
          r.linked.numbers h.marked l (sym c.index_mut.ensures.value ∙ sym c.take.ensures.value ∙ c.in-Some.is),
      as_rolled _ _ _ (withdrawn_as g.P.Places.reservoirs r c.args.number c.in_ok-cell.cell c.take.new.self h c.take.ensures.after),
    )
