-- What stands behind the letter of a line.
use Rattle.std.specs.Prelude.{◌≡◌, ℕ, List}
use Rattle.words.specs.Numbers.{spaced}
use Rattle.command.specs.Written.{Writable, letter, words}
use Rattle.command.specs.declared.command.Command.{Command}

-- The command has this letter, and the bytes are what is written behind it.
abbrev pub Behind : ℕ → List ℕ → Command → Type 0
Behind first bytes command = (letter command ≡ first) × Writable command × (bytes ≡ spaced (words command))
