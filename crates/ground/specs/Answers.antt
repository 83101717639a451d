-- What the code answers of a step, as plain numbers.
use Rattle.ground.specs.Rules.{Soaked}
use Rattle.ground.specs.declared.step.Soaking.{Soaking}

abbrev pub amounts : Soaking → Soaked
amounts r = record {
  infiltration = r.infiltration.0;
  excess = r.excess.0;
  transpiration = r.transpiration.0;
  percolation = r.percolation.0;
  sinking = r.sinking.0;
  moisture = r.ground.moisture.0;
  depression = r.ground.depression.0;
}
