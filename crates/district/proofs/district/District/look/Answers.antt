use Rattle.book.specs.Books.{book_of}
use Rattle.node.specs.Answers.{store}
use Rattle.places.specs.Numbers.{listed}
use Rattle.roll.specs.Rolls.{rolled}
use Rattle.district.proofs.Follows.{look_granted}
use Rattle.district.proofs.district.District.look.Goals as goal

pub returns : goal.returns
returns g c =
    let d = c.args.self.now in
    let v = c.look.result in
    look_granted g.P.Places.makes g.met.P.Places.meanings (rolled g.P.Places.reservoirs d.roll) (book_of d.book) c.args.number
    (store g.P.Places.reservoirs c.in_ok-node.node.now) c.in_ok-node.ensures
    v.moisture.0 v.depression.0 (listed v.contents) c.look.ensures.shows.moisture c.look.ensures.shows.depression c.look.ensures.shows.contents
