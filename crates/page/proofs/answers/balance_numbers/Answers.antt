use Rattle.std.proofs.Common.{ℕ, List, ◌∷◌, ap, ◌∙◌}
use Rattle.page.proofs.Triples.{three}
use Rattle.page.proofs.answers.balance_numbers.Goals as goal

pub returns : goal.returns
returns c =
    let b = c.args.reading.now.book in
    ap (λ (l : List ℕ). b.rain.0 ∷ b.rise.0 ∷ b.brought_in.0 ∷ b.evaporated.0 ∷ b.discharged.0 ∷ b.sunk.0 ∷ b.ceded.0 ∷ c.args.reading.now.storage.0 ∷ l)
    (three c.whole_grams.result 0 0 0 c.whole_grams.ensures.three ∙ c.whole_grams.ensures.each)
