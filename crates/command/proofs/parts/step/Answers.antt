-- Behind the letter s, word by word.
use Rattle.std.proofs.Common.{w32, SFits, rules}
use Rattle.std.proofs.lemmas.Int.{to_z-of_z}
use Rattle.command.proofs.Steps.{none_at_rain, none_at_evaporation, none_at_seepage, at_end}
use Rattle.command.proofs.parts.step.Goals as goal

pub returns-in_err-next_number : goal.returns-in_err-next_number
returns-in_err-next_number c =
    rw c.from_residual-in_err-next_number.ensures (none_at_rain _ c.in_ok-number.ensures c.in_err-next_number.ensures)

pub returns-in_err-next_number-2 : goal.returns-in_err-next_number-2
returns-in_err-next_number-2 c =
    rw c.from_residual-in_err-next_number-2.ensures
    (none_at_evaporation _ c.in_ok-number.ensures _ c.in_ok-next_number.ensures c.in_err-next_number-2.ensures)

pub returns-in_err-seepage : goal.returns-in_err-seepage
returns-in_err-seepage c =
    rw c.from_residual-in_err-seepage.ensures
    (none_at_seepage _ c.in_ok-number.ensures _ c.in_ok-next_number.ensures _ c.in_ok-next_number-2.ensures
    c.in_err-seepage.ensures)

pub returns : goal.returns
returns c =
    let fits : SFits w32 c.in_ok-seepage.seepage = search rules in
    rw (c.then_some.ensures, c.is_done.ensures)
    (at_end _ c.in_ok-number.ensures _ c.in_ok-next_number.ensures _ c.in_ok-next_number-2.ensures
    _ c.in_ok-seepage.ensures _ (to_z-of_z w32 _ fits))
