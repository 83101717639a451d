-- What a line means, by its first byte and what stands behind it.
use Rattle.std.proofs.Common.{◌≡◌, ◌≢◌, ℕ, ◌≤◌, List, ◌∷◌, length, Some, None, Ok, Err, Option, sym, ap, ◌∙◌, inl, inr, arith}
use Rattle.std.specs.List.{AllByRecursion}
use Rattle.decimal.specs.Reading.{SomeExactly}
use Rattle.decimal.proofs.Exactly.{none}
use Rattle.command.specs.Letters.{letters, mark}
use Rattle.command.specs.Meanings.{Means, Meaning, PassedOver, Writes, longest_line}
use Rattle.command.specs.Parts.{Behind}
use Rattle.command.specs.Written.{letter, written}
use Rattle.command.specs.declared.command.Command.{Command}
use Rattle.command.specs.declared.command.Command.TheVariants.{Begin, Ground, Equip, Open, Step, Withdraw, Read}

-- the meaning of a line that is no other than this command
abbrev pub command_or_malformed : Option Command → Meaning
command_or_malformed None = Err (record {})
command_or_malformed (Some command) = Ok (Some command)

well_formed : (command read : Option Command) → (command_or_malformed command ≡ Ok read) → command ≡ read
well_formed None read e = cc
well_formed (Some c) read e = cc

passed_none : (command : Option Command) → command_or_malformed command ≡ Ok None → ⊥
passed_none None e = cc
passed_none (Some c) e = cc

module _ (line bytes : List ℕ) (first : ℕ) (command : Option Command) (short : length line ≤ longest_line) (is : line ≡ first ∷ bytes) (no_mark : first ≢ mark) (exactly : SomeExactly command (Behind first bytes)) where
  writes : (c : Command) → Behind first bytes c → Writes line c
  writes c (letter_is, writable, bytes_are) = (short, writable, cc)

  behind : (c : Command) → Writes line c → Behind first bytes c
  behind c (_, writable, line_is) =
      let e : first ∷ bytes ≡ written c = sym is ∙ line_is in
      (cc, writable, cc)

  not_passed : PassedOver line → ⊥
  not_passed (_, inl e) = omega (arith, ap length (sym is ∙ e))
  not_passed (_, inr (remark, e)) = let cut : first ∷ bytes ≡ mark ∷ remark = sym is ∙ e in no_mark cc

  pub means : Means line (command_or_malformed command)
  means = record {
    commands = λ c. (λ e. writes c ((exactly c).0 (well_formed command (Some c) e)), λ w. ap command_or_malformed ((exactly c).1 (behind c w)));
    passes = (λ e. absurd (passed_none command e), λ passed. absurd (not_passed passed));
  }

not_letter : (first : ℕ) → AllByRecursion (λ l. first ≢ l) letters → (command : Command) → letter command ≢ first
not_letter first other (Begin number areas) e = other.0 (sym e)
not_letter first other (Ground soil) e = other.1.0 (sym e)
not_letter first other (Equip fractions) e = other.1.1.0 (sym e)
not_letter first other (Open concentrations) e = other.1.1.1.0 (sym e)
not_letter first other (Step number forcing) e = other.1.1.1.1.0 (sym e)
not_letter first other (Withdraw number) e = other.1.1.1.1.1.0 (sym e)
not_letter first other Read e = other.1.1.1.1.1.1.0 (sym e)

-- behind another first byte there is no command
pub no_command : (first : ℕ) (bytes : List ℕ) → AllByRecursion (λ l. first ≢ l) letters → SomeExactly None (Behind first bytes)
no_command first bytes other = none (λ command behind. not_letter first other command behind.0)
