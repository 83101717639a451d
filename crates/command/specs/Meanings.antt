-- What a line means.
use Rattle.std.specs.Prelude.{◌≡◌, ℕ, ◌≤◌, ◌⊎◌, ◌↔◌, List, [], ◌∷◌, length, Some, None, Ok, Option, Result}
use Rattle.command.specs.Letters.{mark}
use Rattle.command.specs.Written.{Writable, written}
use Rattle.command.specs.declared.command.Command.{Command}
use Rattle.command.specs.declared.command.Malformed.{Malformed}

-- a command, none where a line is passed over, or a line that has no form
abbrev pub Meaning : Type 0
Meaning = Result (Option Command) Malformed

abbrev pub longest_line : ℕ
longest_line = 200

-- The line is the command written out.
abbrev pub Writes : List ℕ → Command → Type 0
Writes line command = (length line ≤ longest_line) × Writable command × (line ≡ written command)

-- The line is empty, or a remark.
abbrev pub PassedOver : List ℕ → Type 0
PassedOver line = (length line ≤ longest_line) × ((line ≡ []) ⊎ ((remark : List ℕ) × (line ≡ mark ∷ remark)))

-- A line means a command if and only if it is that command written out, is passed over if and only if it is empty or a remark, and
-- is malformed otherwise.
pub record Means (line : List ℕ) (meaning : Meaning) : Type 0 where
  pub commands : (command : Command) → (meaning ≡ Ok (Some command)) ↔ Writes line command
  pub passes : (meaning ≡ Ok None) ↔ PassedOver line
