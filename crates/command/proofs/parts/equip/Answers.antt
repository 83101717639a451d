-- Behind the letter k, by the commands of natural numbers.
use Rattle.std.proofs.Common.{◌≡◌, refl, arith, rules}
use Rattle.command.specs.Letters.{letter_k}
use Rattle.command.specs.declared.command.Fractions.{Fractions}
use Rattle.command.proofs.Forms.{of_pairs, fractions_listed, listed_writes, none_behind, some_behind}
use Rattle.command.proofs.parts.equip.Goals as goal

pub returns-in_err-numbers : goal.returns-in_err-numbers
returns-in_err-numbers c = rw c.from_residual.ensures (none_behind letter_k (λ e. omega arith) c.in_err-numbers.ensures)

pub returns : goal.returns
returns c =
    let writes = (c.in_ok-numbers.ensures _).0 refl in
    let blank : Fractions = record { recession = 0; retention = 0 } in
    let made : c.from_fn-fractions.result ≡ fractions_listed c.in_ok-numbers.numbers =
    of_pairs c.in_ok-numbers.numbers c.as_chunks.result.0.now c.from_fn-fractions.result blank writes.0 c.as_chunks.ensures.front
    c.from_fn-fractions.ensures.items.long (λ k lt. let called = c.from_fn-fractions.ensures.items.at k blank lt in search rules) in
    let l = listed_writes 12 _ writes in
    rw made (some_behind letter_k (λ e. omega arith) c.in_ok-numbers.ensures refl (refl, (l.0, refl), l.1))
