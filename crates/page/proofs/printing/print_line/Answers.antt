use Rattle.std.proofs.Common.{ℕ, List, [], ◌∷◌, ◌++◌, map, string_bytes, decimal, sym, ap, ◌∙◌, append_assoc, arith}
use Rattle.std.proofs.lemmas.List.{take_all}
use Rattle.words.specs.Numbers.{spaced}
use Rattle.page.proofs.printing.print_line.Goals as goal

pub returns : goal.returns
returns c =
    let was = string_bytes c.args.page.now in
    let all = spaced (map decimal c.args.numbers.now) in
    let begun = c.in_ok-push.ensures.bytes ∙ ap (λ (l : List ℕ). was ++ l) (c.in_ok-push.ensures.ascii c.requires.ascii) in
    c.in_ok-push-2.ensures.bytes
    ∙ ap (λ (l : List ℕ). string_bytes c.loop-number.page ++ l) (c.in_ok-push-2.ensures.ascii (omega arith))
    ∙ ap (λ (l : List ℕ). l ++ (10 ∷ []))
    (c.loop-number.invariant ∙ ap (λ (ns : List ℕ). string_bytes c.push.new.self ++ spaced (map decimal ns)) (take_all _ _ c.loop-number-test.false)
    ∙ ap (λ (l : List ℕ). l ++ all) begun)
    ∙ append_assoc (was ++ (c.args.letter ∷ [])) all (10 ∷ []) ∙ append_assoc was (c.args.letter ∷ []) (all ++ (10 ∷ []))
