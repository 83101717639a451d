use Rattle.std.proofs.Common.{◌≡◌, ℕ, ◌<◌, false, get_or, is_some, None}
use Rattle.roll.proofs.roll.Roll.new.Given as goal

abbrev pub invariant-loop-cell : goal.invariant-loop-cell
invariant-loop-cell g l = (k : ℕ) → k < l.cell-index → is_some (get_or l.cell-items k None) ≡ false
