use Rattle.std.proofs.Common.{◌≡◌, ◌<◌, length, arith}
use Rattle.roll.proofs.Entries.{linked_new, written_whole}
use Rattle.roll.proofs.roll.Roll.new.Goals as goal

pub invariant_of-result : goal.invariant_of-result
invariant_of-result g c =
    let items = c.loop-cell.cell-items in
    let long : length items ≡ c.args.cells.len = omega (arith, c.loop-cell.auto.cell-items, c.deref_mut-cell-items.ensures.len) in
    let linked = linked_new items (λ k l. let h : k < c.loop-cell.cell-index = omega (arith, c.loop-cell.auto.cell-items) in c.loop-cell.invariant k h) in
    rw (written_whole items c.args.cells.items c.args.cells.len long (omega (arith, c.args.cells.ok.0))) (record { linked = linked })
