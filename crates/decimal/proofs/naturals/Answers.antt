-- Each turn of the loop of `naturals`, and each way out, by the lemmas of `Lines`.
use Rattle.std.proofs.Common.{◌≡◌, refl, arith, rules, not, is_some}
use Rattle.decimal.proofs.Lines.{progress_step, none_at_end, none_at_word, done}
use Rattle.decimal.proofs.naturals.Goals as goal

pub returns-in_err-rest : goal.returns-in_err-rest
returns-in_err-rest g c = rw c.from_residual.ensures (none_at_end (omega arith) (rw c.in_err-rest.was at c.loop-number.invariant))

pub returns-in_err-number : goal.returns-in_err-number
returns-in_err-number g c =
    rw c.from_residual-in_err-number.ensures
    (none_at_word (omega arith) _ _ (rw c.in_ok-rest.was at c.loop-number.invariant) c.split_word.ensures.whole
    c.split_word.ensures.word c.in_err-number.ensures)

pub loop-number-preserved : goal.loop-number-preserved
loop-number-preserved g c =
    progress_step (omega arith) _ _ (rw c.in_ok-rest.was at c.loop-number.invariant) c.split_word.ensures.whole
    c.in_ok-number.field-0 ((c.in_ok-number.ensures _).0 refl)

pub returns : goal.returns
returns g c =
    rw (c.then_some.ensures) (let e : c.is_none.result ≡ not (is_some c.loop-number.rest) = search rules in rw e (done _ (omega arith) c.loop-number.invariant))
