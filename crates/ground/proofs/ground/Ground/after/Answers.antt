use Rattle.std.proofs.Common.{◌+◌, ◌-◌, refl, arith}
use Rattle.ground.proofs.Steps.{balance, percolated_within, stays_within, more_gives_no_less, in_turn}
use Rattle.ground.proofs.ground.Ground.after.Goals as goal

pub invariant_of-result : goal.invariant_of-result
invariant_of-result c =
    let ground = c.args.self.now in
    let transpired = (ground.moisture.0 + c.infiltration-infiltration.result.0) - c.transpiration-transpiration.result.0 in
    let w = percolated_within ground.soil.numbers ground.soil.admissible transpired (omega arith) in
    record {
      within = record {
        in_soil = omega (arith, c.percolation-percolation.ensures.value);
        in_storage = omega (arith, c.depression_storage.ensures);
      };
    }

pub returns : goal.returns
returns c =
    let ground = c.args.self.now in
    record {
      value = in_turn ground.soil.numbers ground.moisture.0 ground.depression.0 c.args.forcing.now.numbers _ _ _ _ _ _
          c.infiltration-infiltration.ensures.value c.excess.ensures.value c.transpiration-transpiration.ensures.value
          c.percolation-percolation.ensures.value c.sinking-sinking.ensures.value c.depression_storage.ensures;
      same_soil = refl;
      balance = balance;
      within = stays_within;
      more = more_gives_no_less;
    }
