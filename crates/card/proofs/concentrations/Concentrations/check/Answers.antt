use Rattle.std.proofs.Common.{rules}
use Rattle.std.proofs.lemmas.Iterator.{YieldsList-from_slice}
use Rattle.std.proofs.lemmas.Iterator.Adapters.{YieldsList-from_flatten}
use Rattle.std.proofs.lemmas.Iterator.Search.{all_from_yields_List}
use borrow.Author.Tests.{tests}
use Rattle.card.proofs.Within.{may_be, all_may_be}
use Rattle.card.proofs.concentrations.Concentrations.check.Goals as goal

pub returns-then-not-within : goal.returns-then-not-within
returns-then-not-within c =
    let tested =
    all_from_yields_List may_be _ _ c.all-within.result c.all-within.ensures.ran
    (YieldsList-from_flatten _ _ _ (λ of_flow. of_flow) (λ x j b. YieldsList-from_slice x.now b.0)
    (YieldsList-from_slice c.args.self.by_flow (cc)) c.flatten.ensures.front c.flatten.ensures.back c.flatten.ensures.done)
    (λ x b q k. search (rules, tests)) in
    λ h. let all = all_may_be c.args.self.by_flow h in cc
