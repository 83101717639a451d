-- The word between a space and the next.
use Rattle.std.proofs.Common.{refl, ap, sym, ◌∙◌, arith, rules, ltb-false}
use Rattle.std.proofs.lemmas.Slice.{first_rest}
use Rattle.std.proofs.lemmas.List.{drop-drop, places, take_rest}
use Rattle.words.specs.Readings.{column_of}
use Rattle.words.proofs.Numbers.{end_of_end, parted}
use Rattle.words.proofs.words.Words.next_word.Goals as goal

pub invariant_of-self : goal.invariant_of-self
invariant_of-self c =
    let back = rw take_rest at c.split_at.ensures.back ∙ drop-drop c.unwrap_or.result 1 c.args.self.now.rest.now in record { ends = end_of_end _ _ _ _ c.args.self.now.ends back }

pub returns-in-32 : goal.returns-in-32
returns-in-32 c =
    let cut = parted _ _ _ _ (search rules) c.split_at.ensures.front c.split_at.ensures.back in
    let first = first_rest c.args.self.now.rest.now 0 (omega (arith, ltb-false)) in
    (cc (first, cut.0), search (rules, places), cut.1, (refl, ap (column_of c.args.self.now.line) (sym cut.0)), refl)
