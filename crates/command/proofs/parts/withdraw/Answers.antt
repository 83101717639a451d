-- Behind the letter w, by the commands of natural numbers.
use Rattle.std.proofs.Common.{refl, arith}
use Rattle.command.specs.Letters.{letter_w}
use Rattle.command.proofs.Forms.{listed_writes, none_behind, some_behind}
use Rattle.command.proofs.parts.withdraw.Goals as goal

pub returns-in-err-number : goal.returns-in-err-number
returns-in-err-number c = rw c.from-residual.ensures (none_behind letter_w (λ e. omega arith) c.in-err-number.ensures)

pub returns : goal.returns
returns c =
    let l = listed_writes 1 _ ((c.in-ok-number.ensures _).0 refl) in
    some_behind letter_w (λ e. omega arith) c.in-ok-number.ensures refl (refl, l.0, l.1)
