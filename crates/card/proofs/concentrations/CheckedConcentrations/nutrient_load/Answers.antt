use Rattle.std.proofs.Common.{◌^◌, ◌∙◌, rules, arith}
use Rattle.std.proofs.lemmas.Iterator.{YieldsList-from_slice, YieldsList-from_map, YieldsList-from_zip}
use Rattle.std.proofs.lemmas.Iterator.Consumers.{YieldsList-at, sum_from_yields_List}
use Rattle.std.proofs.lemmas.Iterator.Adapters.{fits_from_length, at_most_from_yields_List}
use Rattle.std.proofs.lemmas.Slice.Zip.{length-zip}
use borrow.Author.Tests.{tests}
use Rattle.card.proofs.Carried.{carries, zipped_carries}
use Rattle.card.proofs.concentrations.CheckedConcentrations.nutrient_load.Goals as goal

-- no load is above 2^96, and there are seven
pub sum-tenths-requires-clause-fits : goal.sum-tenths-requires-clause-fits
sum-tenths-requires-clause-fits c =
    let flows = c.args.flows.now in
    let by_flow = c.args.self.now.numbers.by_flow in
    let zipped =
    YieldsList-from_zip (YieldsList-at c.zip.ensures.first (YieldsList-from_slice flows c.iter.ensures.rest))
    (YieldsList-from_slice {s = c.zip.result.b} by_flow c.zip.ensures.second.0) in
    fits_from_length {s = c.map.result} _ _ 7 (2 ^ 128)
    (at_most_from_yields_List (YieldsList-at c.map.ensures.source zipped) (omega (arith, length-zip flows by_flow)))
    c.map.ensures.closure (omega arith) (λ x r q k. search (rules, tests))

pub returns : goal.returns
returns c =
    let flows = c.args.flows.now in
    let by_flow = c.args.self.now.numbers.by_flow in
    let zipped =
    YieldsList-from_zip (YieldsList-at c.zip.ensures.first (YieldsList-from_slice flows c.iter.ensures.rest))
    (YieldsList-from_slice {s = c.zip.result.b} by_flow c.zip.ensures.second.0) in
    sum_from_yields_List c.map.result c.sum-tenths.result c.sum-tenths.ensures.ran
    (YieldsList-from_map _ (carries c.args.nutrient) (YieldsList-at c.map.ensures.source zipped) c.map.ensures.closure
    (λ x r q k. search (rules, tests)))
    ∙ zipped_carries c.args.nutrient flows by_flow
