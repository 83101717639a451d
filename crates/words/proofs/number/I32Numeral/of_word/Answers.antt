-- Each way out of `of_word`, by the forms of at most nine digits.
use Rattle.std.proofs.Common.{◌≡◌, ℕ, suc, pos, refl, arith, w32, to_z, ltb-false}
use Rattle.std.proofs.lemmas.Slice.{first_rest}
use Rattle.std.proofs.lemmas.Int.{ints}
use Rattle.words.specs.Laws.{signed_legible}
use Rattle.words.proofs.Forms.{minus_none, minus_some, written}
use Rattle.words.proofs.number.I32Numeral.of_word.Goals as goal

pub returns-in_err-size-in-45 : goal.returns-in_err-size-in-45
returns-in_err-size-in-45 c =
    rw c.from_residual.ensures (minus_none (first_rest c.args.word.now 0 (omega (arith, ltb-false))) (omega arith)
    (λ n writes. let e = (c.in_err-size-in-45.ensures (suc n)).1 writes in let z : ◌≡◌ {A = ℕ} 0 1 = cc in omega arith))

pub overflow_cast-result : goal.overflow_cast-result
overflow_cast-result c = omega (arith, ints, ((c.in_ok-size-in-45.ensures _).0 refl).0)

pub overflow_sub-result : goal.overflow_sub-result
overflow_sub-result c = omega (arith, ints, ((c.in_ok-size-in-45.ensures _).0 refl).0)

pub overflow_cast-result-in_default : goal.overflow_cast-result-in_default
overflow_cast-result-in_default c = omega (arith, ints, ((c.in_ok-of_word-in_default.ensures _).0 refl).0)

pub returns-in-0 : goal.returns-in-0
returns-in-0 c =
    minus_none (first_rest c.args.word.now 0 (omega (arith, ltb-false))) (omega arith)
    (λ n writes. let e : c.in_ok-size-in-45.size ≡ suc n = cc ((c.in_ok-size-in-45.ensures (suc n)).1 writes) in omega arith)

pub returns-in_default-2 : goal.returns-in_default-2
returns-in_default-2 c =
    let writes = (c.in_ok-size-in-45.ensures _).0 refl in
    minus_some (first_rest c.args.word.now 0 (omega (arith, ltb-false))) (omega arith) c.in_ok-size-in-45.size _ (omega arith) writes (omega (arith, ints, writes.0))

pub returns-in_ok-of_word-in_default : goal.returns-in_ok-of_word-in_default
returns-in_ok-of_word-in_default c =
    let writes = (c.in_ok-of_word-in_default.ensures _).0 refl in
    let is : to_z w32 c.in_ok-of_word-in_default.field-0 ≡ pos c.in_ok-of_word-in_default.field-0 = omega (arith, ints, writes.0) in
    rw is (written signed_legible _ (pos c.in_ok-of_word-in_default.field-0) writes)
