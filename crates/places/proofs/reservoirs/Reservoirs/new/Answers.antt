use Rattle.places.proofs.Together.{laws}
use Rattle.places.proofs.reservoirs.Reservoirs.new.Goals as goal

pub returns-clause-laws : goal.returns-clause-laws
returns-clause-laws g c =
    let makes = g.met.M in
    laws _ (
      makes.Open.Reservoir.meaning,
      (
        makes.Paved.Reservoir.meaning,
        (
          makes.Sewer.Reservoir.meaning,
          (makes.Surface.Reservoir.meaning, (makes.Quick.Reservoir.meaning, (makes.Slow.Reservoir.meaning, tt))),
        ),
      ),
    )
