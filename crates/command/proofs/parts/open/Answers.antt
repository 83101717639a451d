-- Behind the letter c, by the commands of natural numbers.
use Rattle.std.proofs.Common.{◌≡◌, refl, ◌∙◌, arith, rules}
use Rattle.quantity.specs.declared.load.Concentration.{Concentration}
use Rattle.command.specs.Letters.{letter_c}
use Rattle.command.proofs.Forms.{of_threes, concentrations_complete, concentrations_listed, listed_writes, none_behind, some_behind}
use Rattle.command.proofs.parts.open.Goals as goal

pub returns-in_err-numbers : goal.returns-in_err-numbers
returns-in_err-numbers c = rw c.from_residual.ensures (none_behind letter_c (λ e. omega arith) c.in_err-numbers.ensures)

pub returns : goal.returns
returns c =
    let writes = (c.in_ok-numbers.ensures _).0 refl in
    let zero : Concentration = record { 0 = 0 } in
    let made : c.unwrap-by_flow.result ≡ concentrations_listed c.in_ok-numbers.field-0 =
    let whole : c.unwrap-by_flow.result ≡ c.as_chunks.result.0.now = search rules in
    whole ∙ of_threes c.in_ok-numbers.field-0 c.map-concentrations.result c.as_chunks.result.0.now zero
    c.map-concentrations.ensures.items.long (λ i lt. let called = c.map-concentrations.ensures.items.at i 0 zero lt in search rules)
    c.as_chunks.ensures.front in
    let l = listed_writes 21 _ writes in
    rw made (some_behind letter_c (λ e. omega arith) c.in_ok-numbers.ensures refl (refl, (l.0, concentrations_complete c.in_ok-numbers.field-0), l.1))
