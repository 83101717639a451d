use Rattle.std.proofs.Common.{ℕ, ◌+◌, ◌++◌, length, string_bytes, vec_items, sym, ap, ◌∙◌, arith}
use Rattle.lines.proofs.Steps.{length_lines}
use Rattle.session.specs.Entries.{told}
use Rattle.session.specs.Stages.{Session}
use Rattle.page.specs.Pages.{page_from}
use Rattle.page.specs.Printed.{answer_line}
use Rattle.page.proofs.Running.{starts, goes_on, ends}
use Rattle.page.proofs.page.page.Goals as goal

pub loop-line-init : goal.loop-line-init
loop-line-init g c =
    let reader = c.new-line-items.ensures in
    rw (c.into_iter-line-iterator.ensures.into_iter_gives, c.new-page.ensures.bytes) (
      starts g.E.Nodes.Places.makes g.E.Equipment.equipped _ _ _ _ reader.all_ahead reader.none_counted c.new-session.ensures.sound,
      ap (λ x. x.now) reader.same_text,
      sym reader.none_counted,
    )

pub loop-line-preserved : goal.loop-line-preserved
loop-line-preserved g c =
    let next = c.in-Some.ensures.steps in
    let inv = c.loop-line.invariant in (
      goes_on g.E.Nodes.Places.makes g.E.Equipment.equipped _ _ _ _ _ _ _ _ _ _ _ _ c.read.result (told c.run-answer.result) inv.0
          next.0 next.1 next.2 c.read.ensures c.run-answer.ensures c.in_ok-print_answer-2.ensures,
      ap (λ x. x.now) next.3 ∙ inv.1,
      next.1 ∙ sym next.2,
    )

pub overflow_add-last : goal.overflow_add-last
overflow_add-last g c =
    let reader = c.loop-line.line-iterator in
    let counted = reader.counted in
    let lines = length_lines reader.text.now in
    let text = ap length c.loop-line.invariant.1 in
    let count = c.loop-line.invariant.2 in
    record { fits = omega arith }

pub returns : goal.returns
returns g c =
    let makes = g.E.Nodes.Places.makes in
    let equipped = g.E.Equipment.equipped in
    let next = c.in-None.ensures.steps in
    let page = string_bytes c.loop-line.page in
    let count = c.loop-line.invariant.2 in
    let print = c.in_ok-print_answer-3.ensures ∙ ap (λ (n : ℕ). page ++ answer_line (n + 1) (told c.finish.result)) count in
    let run = ends makes equipped _ _ _ _ _ page _ (told c.finish.result) c.loop-line.invariant.0 next.0 c.finish.ensures print in
    record {
      too_large = λ large. elim (let none : ⊥ = omega arith in none) [ ];
      run = λ within. (run.0, run.1, ap (λ bytes. vec_items bytes) c.into_bytes-2.ensures.value ∙ run.2 ∙ ap (λ (s : Session). page_from makes equipped s 1 run.0) c.new-session.ensures.starts);
    }
