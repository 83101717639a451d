-- One call of `next`, by the step from a line to the next.
use Rattle.std.proofs.Common.{◌-◌, length, take, drop, sym, refl, ◌∙◌, arith, rules}
use Rattle.std.proofs.lemmas.List.{at_drop_all}
use Rattle.lines.specs.Lines.{lines_of}
use Rattle.lines.proofs.Steps.{LineLength, Step, length_lines, next_ahead, next_counted, next_placed}
use Rattle.lines.proofs.reading.ReaderIterator.next.Goals as goal
use Rattle.lines.proofs.reading.ReaderIterator.next.Goals.{Joined-end-text, then-end-text, else-end-text}

line : (c : goal.Joined-end-text) → LineLength (take (length c.args.self.now.text.now - c.args.self.now.position) (drop c.args.self.now.position c.args.self.now.text.now)) c.unwrap_or.result
line c = record { within = search rules; lacks = search rules; ends = search rules }

step : (c : goal.Joined-end-text) → Step c.args.self.now.text.now c.args.self.now.position c.args.self.now.count c.unwrap_or.result c.if-end-text.position
step c = record {
  before = omega arith;
  placed = c.args.self.now.placed;
  line = line c;
  moved = elim c.if-end-text.branch [ then-end-text w ↦ omega (arith, w.position-is, (line c).within) | else-end-text w ↦ omega (arith, w.position-is, (line c).within) ];
}

pub returns-then-start-text-clause-steps : goal.returns-then-start-text-clause-steps
unfolding lines_of
returns-then-start-text-clause-steps c = (sym c.args.self.now.placed ∙ at_drop_all lines_of c.args.self.now.text.now _ (omega arith), search rules)

pub overflow_add-number : goal.overflow_add-number
overflow_add-number c =
    omega (arith, next_counted (step (goal.at.overflow_add-number c).Joined-end-text), length_lines c.args.self.now.text.now)

pub invariant_of-self : goal.invariant_of-self
invariant_of-self c =
    let s = step (goal.at.invariant_of-self c).Joined-end-text in record { within = omega (arith, s.moved); counted = next_counted s; placed = next_placed s }

pub returns-clause-steps : goal.returns-clause-steps
returns-clause-steps c = (next_ahead (step (goal.at.returns-clause-steps c).Joined-end-text), refl, refl, refl)
