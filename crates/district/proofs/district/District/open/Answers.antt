use Rattle.std.proofs.Common.{◌-◌, ◌^◌, min, sym, ap, ◌∙◌}
use Rattle.book.specs.Books.{book_of}
use Rattle.card.specs.Checking.{numbers_of}
use Rattle.model.specs.State.{open_with}
use Rattle.node.specs.Stores.{storage}
use Rattle.roll.specs.Rolls.{rolled, with_standing}
use Rattle.district.proofs.Follows.{opening_granted}
use Rattle.district.proofs.district.District.open.Goals as goal

pub returns : goal.returns
returns g c =
    let d = c.args.self.now in
    let h = c.in_ok-vacancy.ensures in
    let card = c.args.card in
    opening_granted g.P.Places.makes g.met.P.Places.meanings (rolled g.P.Places.reservoirs d.roll) (book_of d.book) c.args.number
    (numbers_of card) (g.P.Places.reservoirs c.args.reservoirs) c.storage-volume.result.0
    (c.storage-volume.ensures ∙ ap (λ s. min (storage s) (2 ^ 64 - 1)) c.open-node.ensures.opened)
    h.1.0 h.1.1
    (record { areas = card.areas.within; soil = card.soil.admissible; concentrations = card.concentrations.within }, g.met.P.Places.fits c.args.reservoirs)
    (sym c.if-not-has_room_for.ensures)
    (rolled g.P.Places.reservoirs c.admit.new.self) (book_of c.book_opening.new.self)
    (c.in_ok-admit.ensures.1 ∙ ap (λ s. with_standing (rolled g.P.Places.reservoirs d.roll) c.args.number (open_with s)) c.open-node.ensures.opened)
    c.book_opening.ensures
