-- The command of a line, by the kind of the line.
use Rattle.std.proofs.Common.{◌≡◌, arith, rules}
use Rattle.command.proofs.Meanings.{command_or_malformed, means, no_command}
use Rattle.command.proofs.reading.read.Goals as goal
use Rattle.command.proofs.reading.read.Goals.{in-Areas, in-Soil, in-Fractions, in-Concentrations, in-Step, in-Withdrawal, in-Reading, in-Other}

is : (c : goal.After-ok_or) → c.ok_or.result ≡ command_or_malformed c.match-of.command
is c = search rules

pub returns : goal.returns
returns c =
    rw (is c) (elim c.match-of.branch [
      | in-Areas w ↦ means _ _ _ _ (omega arith) w.in-Areas.ensures (λ e. omega arith) (rw w.command-is w.begin-command.ensures)
      | in-Soil w ↦ means _ _ _ _ (omega arith) w.in-Soil.ensures (λ e. omega arith) (rw w.command-is w.ground-command.ensures)
      | in-Fractions w ↦ means _ _ _ _ (omega arith) w.in-Fractions.ensures (λ e. omega arith) (rw w.command-is w.equip-command.ensures)
      | in-Concentrations w ↦ means _ _ _ _ (omega arith) w.in-Concentrations.ensures (λ e. omega arith) (rw w.command-is w.open-command.ensures)
      | in-Step w ↦ means _ _ _ _ (omega arith) w.in-Step.ensures (λ e. omega arith) (rw w.command-is w.step-command.ensures)
      | in-Withdrawal w ↦ means _ _ _ _ (omega arith) w.in-Withdrawal.ensures (λ e. omega arith) (rw w.command-is w.withdraw-command.ensures)
      | in-Reading w ↦ means _ _ _ _ (omega arith) w.in-Reading.ensures (λ e. omega arith) (rw w.command-is w.read_book-command.ensures)
      | in-Other w ↦
          let (first, line_is, other) = w.in-Other.ensures in
          means _ _ first _ (omega arith) line_is other.1.1.1.1.1.1.1.0 (rw w.command-is (no_command first _ other))
    ])
