-- Commands written out as lines: a letter, then numbers, each after one space.
use Rattle.std.specs.Prelude.{◌≡◌, ℕ, ◌^◌, ◌<◌, List, [], ◌∷◌, map, length, decimal, unsigned_abs}
use Rattle.card.specs.Limits.{Complete}
use Rattle.card.specs.declared.areas.Areas.{Areas}
use Rattle.ground.specs.declared.soil.Soil.{Soil}
use Rattle.quantity.specs.declared.load.Concentration.{Concentration}
use Rattle.std.specs.Fmt.{signed_decimal}
use Rattle.std.specs.List.{flat_map, AllByRecursion}
use Rattle.words.specs.Numbers.{spaced}
use Rattle.command.specs.Letters.{letter_o, letter_g, letter_k, letter_c, letter_s, letter_w, letter_r}
use Rattle.command.specs.declared.command.Command.{Command}
use Rattle.command.specs.declared.command.Command.TheVariants.{Begin, Ground, Equip, Open, Step, Withdraw, Read}
use Rattle.command.specs.declared.command.Fractions.{Fractions}

abbrev pub letter : Command → ℕ
letter (Begin number areas) = letter_o
letter (Ground soil) = letter_g
letter (Equip fractions) = letter_k
letter (Open concentrations) = letter_c
letter (Step number forcing) = letter_s
letter (Withdraw number) = letter_w
letter Read = letter_r

-- The numbers of each part, in their order on a line.
abbrev pub areas_numbers : Areas → List ℕ
areas_numbers a = a.«open».0 ∷ a.paved.0 ∷ a.sewer.0 ∷ a.unpaved.0 ∷ []

abbrev pub soil_numbers : Soil → List ℕ
soil_numbers s =
    s.wilting_point.0 ∷ s.field_capacity.0 ∷ s.saturation.0 ∷ s.infiltration_limit.0
    ∷ s.percolation_limit.0 ∷ s.depression_limit.0 ∷ s.crop_factor ∷ s.slow_share ∷ []

abbrev pub fraction_numbers : List Fractions → List ℕ
fraction_numbers fractions = flat_map (λ f. f.recession ∷ f.retention ∷ []) fractions

-- flow by flow
abbrev pub concentration_numbers : List (List Concentration) → List ℕ
concentration_numbers by_flow = flat_map (λ of_flow. map (λ c. c.0) of_flow) by_flow

-- the words behind the letter
abbrev pub words : Command → List (List ℕ)
words (Begin number areas) = map decimal (number ∷ areas_numbers areas)
words (Ground soil) = map decimal (soil_numbers soil)
words (Equip fractions) = map decimal (fraction_numbers fractions)
words (Open concentrations) = map decimal (concentration_numbers concentrations.by_flow)
words (Step number f) = decimal number ∷ decimal f.rain.0 ∷ decimal f.evaporation.0 ∷ signed_decimal f.seepage ∷ []
words (Withdraw number) = decimal number ∷ []
words Read = []

abbrev pub written : Command → List ℕ
written command = letter command ∷ spaced (words command)

-- numbers of at most nine digits
abbrev pub NineDigits : List ℕ → Type 0
NineDigits ns = AllByRecursion (λ n. n < 10 ^ 9) ns

-- Every number of the command has at most nine digits, and its lists are complete.
abbrev pub Writable : Command → Type 0
Writable (Begin number areas) = NineDigits (number ∷ areas_numbers areas)
Writable (Ground soil) = NineDigits (soil_numbers soil)
Writable (Equip fractions) = NineDigits (fraction_numbers fractions) × (length fractions ≡ 6)
Writable (Open concentrations) =
    NineDigits (concentration_numbers concentrations.by_flow) × Complete concentrations.by_flow
Writable (Step number f) = NineDigits (number ∷ f.rain.0 ∷ f.evaporation.0 ∷ unsigned_abs f.seepage ∷ [])
Writable (Withdraw number) = NineDigits (number ∷ [])
Writable Read = Unit {0}
