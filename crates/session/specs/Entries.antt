-- What a line of a sheet has printed, if it is accepted and prints anything.
use Rattle.std.specs.Prelude.{ℕ, List, Some, None, Ok, Err, Option, Result}
use Rattle.district.specs.Answers.{answered_reading}
use Rattle.model.specs.Calls.{Reading}
use Rattle.node.specs.Answers.{flows_in}
use Rattle.reservoir.specs.declared.fault.Refusal.{Refusal}
use Rattle.session.specs.Faults.{sheet_refusal}
use Rattle.session.specs.declared.entry.Entry as code
use Rattle.session.specs.declared.entry.Entry.TheVariants.{Opened, Stepped, Withdrawn, Balance}
use Rattle.session.specs.declared.fault.SheetFault.{SheetFault}

pub data Entry : Type 0 where
  -- a number, and the volume that its node brought in
  opened : ℕ → ℕ → Entry
  -- a number, and the flows of its node in a step
  stepped : ℕ → List ℕ → Entry
  -- a number, and the volume that its node ceded
  withdrawn : ℕ → ℕ → Entry
  balance : Reading → Entry

-- What a line answers: an entry or none, or the refusal of the line.
abbrev pub Answer : Type 0
Answer = Result (Option Entry) Refusal

abbrev pub entered : Option code.Entry → Option Entry
entered None = None
entered (Some (Opened number volume)) = Some (opened number volume.0)
entered (Some (Stepped number flows)) = Some (stepped number (flows_in flows))
entered (Some (Withdrawn number volume)) = Some (withdrawn number volume.0)
entered (Some (Balance reading)) = Some (balance (answered_reading reading))

abbrev pub told : Result (Option code.Entry) SheetFault → Answer
told (Ok entry) = Ok (entered entry)
told (Err fault) = Err (sheet_refusal fault)
