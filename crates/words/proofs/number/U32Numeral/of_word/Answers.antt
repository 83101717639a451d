-- Each way out of `of_word`, by the forms of at most nine digits.
use Rattle.std.proofs.Common.{◌^◌, ◌<◌, refl, arith}
use Rattle.decimal.proofs.Exactly.{none}
use Rattle.words.specs.Laws.{natural_legible}
use Rattle.words.proofs.Forms.{few_digits, natural_few, written}
use Rattle.words.proofs.number.U32Numeral.of_word.Goals as goal

-- the number that was read has at most nine digits
below : (c : goal.In_ok-natural) → c.in_ok-natural.field-0 < 10 ^ 9
below c = few_digits c.args.word.now c.in_ok-natural.field-0 ((c.in_ok-natural.ensures _).0 refl) c.if-word-gt-MOST_DIGITS.false

pub returns-then-word-gt-MOST_DIGITS : goal.returns-then-word-gt-MOST_DIGITS
returns-then-word-gt-MOST_DIGITS c = none (λ n writes. omega (arith, natural_few _ n writes))

pub overflow_cast-result : goal.overflow_cast-result
overflow_cast-result c = omega (arith, below c)

pub returns : goal.returns
returns c = written natural_legible _ _ (below c, ((c.in_ok-natural.ensures _).0 refl).1)
