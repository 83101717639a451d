-- Each way out of `natural`, by what a decimal form is.
use Rattle.std.proofs.Common.{arith, rules, ltb-false, ltb-true}
use Rattle.decimal.proofs.Exactly.{none}
use Rattle.decimal.proofs.Forms.{form, digits_read}
use Rattle.decimal.proofs.natural.Goals as goal

pub returns-then-word-gt-MOST_DIGITS : goal.returns-then-word-gt-MOST_DIGITS
returns-then-word-gt-MOST_DIGITS c = none (λ n writes. omega (arith, (form _ n writes).few))

pub returns-in-empty : goal.returns-in-empty
returns-in-empty c = none (λ n writes. omega (arith, ltb-true, (form _ n writes).filled))

pub returns-in-48 : goal.returns-in-48
returns-in-48 c = none (λ n writes. omega (arith, ltb-false, (form _ n writes).lead (omega arith)))

pub returns-in_default : goal.returns-in_default
returns-in_default c = digits_read c.args.word.now _ (omega (arith, ltb-false)) (omega arith) (λ zero. search rules) c.digits_value.ensures
