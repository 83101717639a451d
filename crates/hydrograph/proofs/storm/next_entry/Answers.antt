use Rattle.std.proofs.Common.{rules, tests}
use Rattle.hydrograph.proofs.Found.{found}
use Rattle.hydrograph.proofs.storm.next_entry.Goals as goal

pub returns : goal.returns
returns c = found _ (λ q x b h k. search (rules, tests)) _ _ _ _ c.find.ensures.ran
