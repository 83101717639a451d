-- The command of a step: three natural numbers and a signed one, read word by word.
use Rattle.std.proofs.Common.{◌≡◌, ℕ, List, [], ◌∷◌, length, ℤ, Some, None, decimal, sym, refl, ap, ◌∙◌, ⊎_elim, arith, eq-eqb, ne_eqb, ◌==◌}
use Rattle.std.specs.Bool.{then_some}
use Rattle.std.specs.Fmt.{signed_decimal}
use Rattle.std.proofs.lemmas.Bool.{cases_eq}
use Rattle.std.proofs.lemmas.List.{nil_from_length}
use Rattle.decimal.specs.Reading.{SomeExactly}
use Rattle.decimal.proofs.Exactly.{none, some}
use Rattle.ground.specs.declared.forcing.Forcing.{Forcing}
use Rattle.words.specs.Numbers.{WritesNatural, WritesSigned, spaced}
use Rattle.words.specs.Readings.{NextNumber, NoNumber}
use Rattle.words.proofs.Numbers.{natural_form, signed_form, not_unread, read_next}
use Rattle.command.specs.Letters.{letter_s}
use Rattle.command.specs.Parts.{Behind}
use Rattle.command.specs.Written.{Writable, words}
use Rattle.command.specs.declared.command.Command.{Command}
use Rattle.command.specs.declared.command.Command.TheVariants.{Begin, Ground, Equip, Open, Step, Withdraw, Read}

-- the step is writable, and the bytes are what is written behind its letter
abbrev StepBehind : List ℕ → ℕ → Forcing → Type 0
StepBehind bytes number forcing = Writable (Step number forcing) × (bytes ≡ spaced (words (Step number forcing)))

step_behind : (bytes : List ℕ) (command : Command) → Behind letter_s bytes command → (number : ℕ) × (forcing : Forcing) × StepBehind bytes number forcing × (command ≡ Step number forcing)
step_behind bytes (Begin number areas) (is, _, _) = absurd (omega arith)
step_behind bytes (Ground soil) (is, _, _) = absurd (omega arith)
step_behind bytes (Equip fractions) (is, _, _) = absurd (omega arith)
step_behind bytes (Open concentrations) (is, _, _) = absurd (omega arith)
step_behind bytes (Step number forcing) (is, writable, written) = (number, forcing, (writable, written), refl)
step_behind bytes (Withdraw number) (is, _, _) = absurd (omega arith)
step_behind bytes Read (is, _, _) = absurd (omega arith)

never_behind : {bytes : List ℕ} → ((number : ℕ) (forcing : Forcing) → StepBehind bytes number forcing → ⊥) → SomeExactly None (Behind letter_s bytes)
never_behind {bytes} never = none (λ command behind. let s = step_behind bytes command behind in never s.0 s.1 s.2)

-- the words of a step from its rain on
abbrev from_seepage : Forcing → List (List ℕ)
from_seepage forcing = signed_decimal forcing.seepage ∷ []

abbrev from_evaporation : Forcing → List (List ℕ)
from_evaporation forcing = decimal forcing.evaporation.0 ∷ from_seepage forcing

abbrev from_rain : Forcing → List (List ℕ)
from_rain forcing = decimal forcing.rain.0 ∷ from_evaporation forcing

-- After each word, every step that is behind the letter has the numbers read so far, and its other words are ahead.
module _ {all b1 : List ℕ} (number : ℕ) (first : NextNumber WritesNatural all (Some number) b1) where
  after_number : (n : ℕ) (f : Forcing) → StepBehind all n f → (number ≡ n) × (b1 ≡ spaced (from_rain f))
  after_number n f (below, whole) = read_next natural_form (from_rain f) _ n (below.0, refl) whole number first

  pub none_at_rain : NoNumber WritesNatural b1 → SomeExactly None (Behind letter_s all)
  none_at_rain unread = never_behind (λ n f b. not_unread natural_form (from_evaporation f) _ f.rain.0 (b.0.1.0, refl) (after_number n f b).1 unread)

  module _ {b2 : List ℕ} (rain : ℕ) (second : NextNumber WritesNatural b1 (Some rain) b2) where
    after_rain : (n : ℕ) (f : Forcing) → StepBehind all n f → (rain ≡ f.rain.0) × (b2 ≡ spaced (from_evaporation f))
    after_rain n f b = read_next natural_form (from_evaporation f) _ f.rain.0 (b.0.1.0, refl) (after_number n f b).1 rain second

    pub none_at_evaporation : NoNumber WritesNatural b2 → SomeExactly None (Behind letter_s all)
    none_at_evaporation unread =
        never_behind (λ n f b. not_unread natural_form (from_seepage f) _ f.evaporation.0 (b.0.1.1.0, refl) (after_rain n f b).1 unread)

    module _ {b3 : List ℕ} (evaporation : ℕ) (third : NextNumber WritesNatural b2 (Some evaporation) b3) where
      after_evaporation : (n : ℕ) (f : Forcing) → StepBehind all n f → (evaporation ≡ f.evaporation.0) × (b3 ≡ spaced (from_seepage f))
      after_evaporation n f b = read_next natural_form (from_seepage f) _ f.evaporation.0 (b.0.1.1.0, refl) (after_rain n f b).1 evaporation third

      pub none_at_seepage : NoNumber WritesSigned b3 → SomeExactly None (Behind letter_s all)
      none_at_seepage unread = never_behind (λ n f b. not_unread signed_form [] _ f.seepage (b.0.1.1.1.0, refl) (after_evaporation n f b).1 unread)

      module _ {b4 : List ℕ} (seepage : ℤ) (fourth : NextNumber WritesSigned b3 (Some seepage) b4) where
        after_seepage : (n : ℕ) (f : Forcing) → StepBehind all n f → (seepage ≡ f.seepage) × (b4 ≡ [])
        after_seepage n f b = read_next signed_form [] _ f.seepage (b.0.1.1.1.0, refl) (after_evaporation n f b).1 seepage fourth

        -- they make the step exactly where nothing more is ahead
        pub at_end : (z : ℤ) → z ≡ seepage → SomeExactly (then_some (length b4 == 0) (Step number (record { rain = record { 0 = rain }; evaporation = record { 0 = evaporation }; seepage = z }))) (Behind letter_s all)
        at_end z is =
            ⊎_elim
            (λ empty.
            let nothing = nil_from_length b4 empty in
            rw (eq-eqb _ 0 empty, is)
            (some _
            (refl, (first.1.0, (second.1.0, (third.1.0, (fourth.1.0, tt)))), cc)
            (λ command behind.
            let (n, f, b, same) = step_behind all command behind in
            (λ i. Step ((after_number n f b).0 i) (record { rain = record { 0 = (after_rain n f b).0 i }; evaporation = record { 0 = (after_evaporation n f b).0 i }; seepage = (after_seepage n f b).0 i }))
            ∙ sym same)))
            (λ filled. rw (ne_eqb _ 0 filled) (never_behind (λ n f b. filled (ap length (after_seepage n f b).1))))
            (cases_eq (length b4) 0)
