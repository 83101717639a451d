use Rattle.std.proofs.Common.{◌≡◌, string_bytes}
use Rattle.lines.specs.Lines.{lines_of}
use Rattle.lines.specs.Runs.{ahead}
use Rattle.session.specs.Stages.{session_of}
use Rattle.page.proofs.Running.{Progress}
use Rattle.page.proofs.page.page.Given as goal

abbrev pub invariant-loop-line : goal.invariant-loop-line
invariant-loop-line g l =
    Progress g.E.Nodes.Places.makes g.E.Equipment.equipped (session_of g.E.Nodes.Places.reservoirs l.initial.session) (lines_of l.sheet) (ahead l.line-iterator)
    (session_of g.E.Nodes.Places.reservoirs l.session) l.line-iterator.count (string_bytes l.page)
    × (l.line-iterator.text.now ≡ l.sheet)
    × (l.last ≡ l.line-iterator.count)
