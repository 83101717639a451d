use Rattle.book.specs.Books.{book_of}
use Rattle.node.specs.Answers.{store}
use Rattle.roll.specs.Rolls.{rolled}
use Rattle.district.proofs.Follows.{withdrawal_granted}
use Rattle.district.proofs.district.District.withdraw.Goals as goal

pub returns : goal.returns
returns g c =
    let d = c.args.self.now in
    let h = c.in_ok-node.ensures in
    withdrawal_granted g.P.Places.makes g.met.P.Places.meanings (rolled g.P.Places.reservoirs d.roll) (book_of d.book) c.args.number
    (store g.P.Places.reservoirs c.in_ok-node.node) h.0 c.storage-ceded.result.0
    (rolled g.P.Places.reservoirs c.withdraw.new.self) (book_of c.book_withdrawal.new.self)
    c.storage-ceded.ensures h.1 c.book_withdrawal.ensures
