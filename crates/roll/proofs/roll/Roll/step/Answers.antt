use Rattle.std.proofs.Common.{◌<◌, length, vec_items, sym, ◌∙◌, arith}
use Rattle.std.proofs.lemmas.Result.{err_from_is_err_and}
use Rattle.node.specs.Answers.{store}
use Rattle.roll.specs.Rolls.{rolled}
use Rattle.roll.proofs.Entries.{linked_stepped, stepped_as, as_rolled, step_accepted, step_refuses}
use Rattle.roll.proofs.Standings.{standing_open}
use Rattle.roll.proofs.roll.Roll.step.Goals as goal

pub invariant_of-self : goal.invariant_of-self
invariant_of-self g c =
    record { linked = linked_stepped c.args.self.now c.args.number c.in_ok-cell.cell c.in_ok-cell.ensures c.step.new.self }

pub returns-in_err-step-in-Some : goal.returns-in_err-step-in-Some
returns-in_err-step-in-Some g c =
    let p = err_from_is_err_and c.from_residual-in_err-step-in-Some.result c.from_residual-in_err-step-in-Some.ensures.1 in
    let r = c.args.self.now in
    let h = c.in_ok-cell.ensures in
    let l : c.in_ok-cell.cell < length (vec_items r.cells) = omega (arith, h.within, r.cells.ok.0) in
    rw (p.1, p.2)
    (step_refuses g.P.Places.makes (rolled g.P.Places.reservoirs r) _ c.args.number c.args.forcing
    (store g.P.Places.reservoirs c.in-Some.node) (store g.P.Places.reservoirs c.step.new.self)
    (standing_open g.P.Places.reservoirs (vec_items r.cells) r.marks c.args.number c.in_ok-cell.cell _ c.in-Some.node
    r.linked.numbers h.marked l (sym c.index_mut.ensures.value ∙ c.in-Some.is))
    (as_rolled _ _ _ (stepped_as g.P.Places.reservoirs r c.args.number c.in_ok-cell.cell c.step.new.self h))
    _ h.marked.from_one c.in_err-step-in-Some.ensures)

pub returns : goal.returns
returns g c =
    let r = c.args.self.now in
    let h = c.in_ok-cell.ensures in
    let l : c.in_ok-cell.cell < length (vec_items r.cells) = omega (arith, h.within, r.cells.ok.0) in
    step_accepted g.P.Places.makes (rolled g.P.Places.reservoirs r) _ c.args.number c.args.forcing
    (store g.P.Places.reservoirs c.in-Some.node) (store g.P.Places.reservoirs c.step.new.self)
    (standing_open g.P.Places.reservoirs (vec_items r.cells) r.marks c.args.number c.in_ok-cell.cell _ c.in-Some.node
    r.linked.numbers h.marked l (sym c.index_mut.ensures.value ∙ c.in-Some.is))
    (as_rolled _ _ _ (stepped_as g.P.Places.reservoirs r c.args.number c.in_ok-cell.cell c.step.new.self h))
    _ c.in_ok-step-in-Some.ensures
