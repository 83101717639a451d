use Rattle.node.proofs.Steps.{stays_sound, steps_balance, more_rain_gives_no_less}
use Rattle.node.proofs.node.Node.open.Goals as goal

pub returns : goal.returns
returns g c = record {
  opened = cc;
  stays_sound = stays_sound g.P.Places.makes g.met.P.Places.meanings;
  steps_balance = steps_balance g.P.Places.makes g.met.P.Places.meanings;
  more_rain_gives_no_less = more_rain_gives_no_less g.P.Places.makes g.met.P.Places.meanings;
}
