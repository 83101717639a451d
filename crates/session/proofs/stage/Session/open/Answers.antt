use Rattle.model.specs.Calls.{granted, refused}
use Rattle.std.proofs.lemmas.Result.{err_from_is_err_and}
use Rattle.session.proofs.Calls.{card_refused, card_gives}
use Rattle.session.proofs.stage.Session.open.Goals as goal

pub returns-in_err-card : goal.returns-in_err-card
returns-in_err-card g c =
    let p = err_from_is_err_and c.from_residual.result c.from_residual.ensures.1 in
    rw (p.1, p.2, c.requires) (card_refused g.P.Places.makes _ c.args.number c.args.card _ _ c.in_err-card.ensures)

pub returns-in_err-brought_in : goal.returns-in_err-brought_in
returns-in_err-brought_in g c =
    let p = err_from_is_err_and c.from_residual-in_err-brought_in.result c.from_residual-in_err-brought_in.ensures.1 in
    rw (p.1, p.2, c.requires)
    (card_gives g.P.Places.makes _ _ c.args.number c.args.card _ c.in_ok-card.card (refused _) c.in_ok-card.ensures
    c.in_err-brought_in.ensures)

pub returns : goal.returns
returns g c =
    rw c.requires
    (card_gives g.P.Places.makes _ _ c.args.number c.args.card _ c.in_ok-card.card (granted c.in_ok-brought_in.brought_in.0)
    c.in_ok-card.ensures c.in_ok-brought_in.ensures)
