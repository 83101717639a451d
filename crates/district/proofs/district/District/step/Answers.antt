use Rattle.std.proofs.Common.{Ok, Err, sym}
use Rattle.std.proofs.lemmas.Result.{err_from_is_err_and}
use Rattle.book.specs.Books.{book_of}
use Rattle.model.proofs.Offered.{verdict_offered}
use Rattle.node.specs.Answers.{store, yielded}
use Rattle.roll.specs.Rolls.{rolled}
use Rattle.district.proofs.Follows.{step_refused_by, step_too_large, step_granted, step_answered}
use Rattle.district.proofs.district.District.step.Goals as goal

pub returns-in_err-offer : goal.returns-in_err-offer
returns-in_err-offer g c =
    let d = c.args.self.now in
    let p = err_from_is_err_and c.from_residual-in_err-offer.result c.from_residual-in_err-offer.ensures.1 in
    rw (p.1, p.2)
    (step_refused_by g.P.Places.makes g.met.P.Places.meanings (rolled g.P.Places.reservoirs d.roll) (book_of d.book) c.args.number
    (store g.P.Places.reservoirs c.in_ok-node.node.now) c.in_ok-node.ensures c.args.forcing _
    (verdict_offered _ _ (Err _) c.in_err-offer.ensures))

pub returns-then-not-has_room_for : goal.returns-then-not-has_room_for
returns-then-not-has_room_for g c =
    let d = c.args.self.now in
    step_too_large g.P.Places.makes g.met.P.Places.meanings (rolled g.P.Places.reservoirs d.roll) (book_of d.book) c.args.number
    (store g.P.Places.reservoirs c.in_ok-node.node.now) c.in_ok-node.ensures c.args.forcing
    (verdict_offered _ _ (Ok tt) c.in_ok-offer.ensures)
    c.income-income.result.rain.0 c.income-income.result.rise.0 c.plus.result.0 c.income-income.ensures.rain c.income-income.ensures.rise c.plus.ensures
    (sym c.if-not-has_room_for.ensures)

pub returns : goal.returns
returns g c =
    let d = c.args.self.now in
    let l = rolled g.P.Places.reservoirs d.roll in
    let n = store g.P.Places.reservoirs c.in_ok-node.node.now in
    let e = c.in_ok-node.ensures in
    let s = step_answered g.P.Places.makes l (rolled g.P.Places.reservoirs c.step.new.self) c.args.number c.args.forcing n
    c.in_ok-answer.answer e c.in_ok-answer.ensures in
    step_granted g.P.Places.makes g.met.P.Places.meanings l (book_of d.book) c.args.number n e c.args.forcing
    (verdict_offered _ _ (Ok tt) c.in_ok-offer.ensures)
    c.income-income.result.rain.0 c.income-income.result.rise.0 c.plus.result.0 c.income-income.ensures.rain c.income-income.ensures.rise c.plus.ensures
    (sym c.if-not-has_room_for.ensures)
    (yielded c.in_ok-answer.answer) (rolled g.P.Places.reservoirs c.step.new.self) (book_of c.book_step.new.self)
    s.0 s.1 c.book_step.ensures
