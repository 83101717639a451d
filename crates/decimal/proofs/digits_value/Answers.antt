-- One digit more in `digits_value`, by the library's lemmas of digits.
use Rattle.std.proofs.Common.{arith}
use Rattle.std.proofs.lemmas.Int.Digits.{digits_more, digits_value_more}
use Rattle.std.proofs.lemmas.Str.Parse.{digit_at}
use Rattle.decimal.proofs.Forms.{room, digit_value}
use Rattle.decimal.proofs.digits_value.Goals as goal

pub returns-in_err-digit : goal.returns-in_err-digit
returns-in_err-digit c =
    let digit = digit_at c.args.word.now c.loop-byte.byte-index in
    rw c.from_residual.ensures (λ digits. c.in_err-digit.ensures.value (rw c.from.ensures (rw (digit_value _ (digit digits c.loop-byte-test.true)) (omega (arith, digit digits c.loop-byte-test.true)))))

pub overflow_mul-number : goal.overflow_mul-number
overflow_mul-number c = omega (arith, room _ c.loop-byte.byte-index (omega arith) c.loop-byte.invariant.0)

pub overflow_add-number : goal.overflow_add-number
overflow_add-number c = omega (arith, room _ c.loop-byte.byte-index (omega arith) c.loop-byte.invariant.0, c.in_ok-digit.ensures.value, c.from-in-loop-byte.ensures)

pub loop-byte-preserved : goal.loop-byte-preserved
loop-byte-preserved c =
    let digit = rw c.from.ensures at c.in_ok-digit.ensures.value in (
      digits_more 10 c.args.word.now c.loop-byte.byte-index c.loop-byte-test.true c.loop-byte.invariant.0 digit.0,
      omega (arith, digits_value_more 10 c.args.word.now c.loop-byte.byte-index c.loop-byte-test.true, digit.1, c.from-in-loop-byte.ensures),
    )
