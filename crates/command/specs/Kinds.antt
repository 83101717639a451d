-- The kind of a line: its first byte, with the other bytes ahead.
use Rattle.std.specs.Prelude.{◌≡◌, ℕ, List, [], ◌∷◌, ◌≢◌}
use Rattle.std.specs.List.{AllByRecursion}
use Rattle.words.specs.Readings.{ahead}
use Rattle.command.specs.Letters.{letters, letter_o, letter_g, letter_k, letter_c, letter_s, letter_w, letter_r, mark}
use Rattle.command.specs.declared.kind.Kind.{Kind}
use Rattle.command.specs.declared.kind.Kind.TheVariants.{Empty, Remark, Areas, Soil, Fractions, Concentrations, Step, Withdrawal, Reading, Other}

abbrev pub OfKind : List ℕ → Kind → Type 0
OfKind line Empty = line ≡ []
OfKind line (Remark words) = line ≡ mark ∷ ahead words
OfKind line (Areas words) = line ≡ letter_o ∷ ahead words
OfKind line (Soil words) = line ≡ letter_g ∷ ahead words
OfKind line (Fractions words) = line ≡ letter_k ∷ ahead words
OfKind line (Concentrations words) = line ≡ letter_c ∷ ahead words
OfKind line (Step words) = line ≡ letter_s ∷ ahead words
OfKind line (Withdrawal words) = line ≡ letter_w ∷ ahead words
OfKind line (Reading words) = line ≡ letter_r ∷ ahead words
OfKind line (Other words) = (first : ℕ) × (line ≡ first ∷ ahead words) × AllByRecursion (λ l. first ≢ l) letters
