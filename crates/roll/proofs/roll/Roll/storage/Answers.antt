use Rattle.std.proofs.Common.{◌≡◌, ℕ, ◌-◌, ◌^◌, min, List, sum_by, vec_items, ap, ◌∙◌, arith, rules}
use Rattle.std.proofs.lemmas.Fn.{fold_over, slice_gives, fronts}
use Rattle.std.proofs.lemmas.List.Sums.{sum_by_push}
use Rattle.model.specs.State.{stored}
use Rattle.quantity.specs.declared.water.Centilitres.{Centilitres}
use Rattle.roll.specs.Rolls.{standing_of}
use Rattle.roll.specs.declared.mark.Mark.{Mark}
use Rattle.roll.proofs.Standings.{stored_by_marks, kept_by}
use Rattle.roll.proofs.roll.Roll.storage.Goals as goal

pub returns : goal.returns
returns g c =
    let r = c.args.self.now in
    let under : Mark → ℕ = λ m. stored (standing_of g.P.Places.reservoirs (vec_items r.cells) m) in
    let J : List Mark → Centilitres → Type 0 = λ ms s. s.0 ≡ min (sum_by under ms) (2 ^ 64 - 1) in
    let sum : J c.iter.result.rest.now c.fold.result =
    fold_over fronts (λ y. y.now) _ J _ (λ ys a x b f' j k. let more = sum_by_push under ys x.now in search rules)
    _ _ _ _ (slice_gives c.iter.result) (omega (arith, c.zero.ensures)) c.fold.ensures.ran in
    let all = ap (sum_by under) c.iter.ensures.rest ∙ stored_by_marks g.P.Places.reservoirs (vec_items r.cells) r.marks in
    record { sum = sum ∙ ap (λ n. min n (2 ^ 64 - 1)) all; kept = kept_by g.P.Places.reservoirs r }
