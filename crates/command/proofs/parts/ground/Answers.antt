-- Behind the letter g, by the commands of natural numbers.
use Rattle.std.proofs.Common.{refl, arith}
use Rattle.command.specs.Letters.{letter_g}
use Rattle.command.proofs.Forms.{listed_writes, none_behind, some_behind}
use Rattle.command.proofs.parts.ground.Goals as goal

pub returns-in_err-wilting_point : goal.returns-in_err-wilting_point
returns-in_err-wilting_point c = rw c.from_residual.ensures (none_behind letter_g (λ e. omega arith) c.in_err-wilting_point.ensures)

pub returns : goal.returns
returns c =
    let l = listed_writes 8 _ ((c.in_ok-wilting_point.ensures _).0 refl) in
    some_behind letter_g (λ e. omega arith) c.in_ok-wilting_point.ensures refl (refl, l.0, l.1)
