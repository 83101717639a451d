-- Behind the letter o, by the commands of natural numbers.
use Rattle.std.proofs.Common.{refl, arith}
use Rattle.command.specs.Letters.{letter_o}
use Rattle.command.proofs.Forms.{listed_writes, none_behind, some_behind}
use Rattle.command.proofs.parts.begin.Goals as goal

pub returns-in_err-number : goal.returns-in_err-number
returns-in_err-number c = rw c.from_residual.ensures (none_behind letter_o (λ e. omega arith) c.in_err-number.ensures)

pub returns : goal.returns
returns c =
    let l = listed_writes 5 _ ((c.in_ok-number.ensures _).0 refl) in
    some_behind letter_o (λ e. omega arith) c.in_ok-number.ensures refl (refl, l.0, l.1)
