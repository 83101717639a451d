-- The lines of a text of bytes. The byte 10 ends a line; after the last line it may be missing.
-- The standard library has `flat_map f xs`, which is f of each element of xs, one after another; `AllByRecursion P xs`, that P
-- holds of each element; and `LacksByte 10 l`, that the byte 10 is not in l.
use Rattle.std.specs.Prelude.{◌≡◌, ℕ, ◌<◌, cond, ◌⊎◌, ◌↔◌, List, [], ◌∷◌, ◌++◌, length, ◌==◌}
use Rattle.std.specs.Str.Iter.{LacksByte}
use Rattle.std.specs.List.{flat_map, AllByRecursion}

-- lines with a byte put before the first of them; where there is none, the byte is a line
abbrev pub extended : ℕ → List (List ℕ) → List (List ℕ)
extended b [] = (b ∷ []) ∷ []
extended b (l ∷ ls) = (b ∷ l) ∷ ls

-- the lines of a text
unfoldable pub lines_of : List ℕ → List (List ℕ)
lines_of [] = []
lines_of (b ∷ bs) = cond (b == 10) ([] ∷ lines_of bs) (extended b (lines_of bs))

-- lines laid out as a text, with the byte 10 after each
abbrev pub ended : List (List ℕ) → List ℕ
ended ls = flat_map (λ l. l ++ (10 ∷ [])) ls

-- The lines are laid out as the text with the byte 10 after each but the last, which is not empty.
pub record Unended (text : List ℕ) (ls : List (List ℕ)) : Type 0 where
  pub others : List (List ℕ)
  pub last : List ℕ
  pub filled : 0 < length last
  pub lines : ls ≡ others ++ (last ∷ [])
  pub bytes : text ≡ ended others ++ last

-- The lines have no byte 10, and are laid out as the text: with the byte 10 after each or, where the last is not empty, with none after it.
abbrev pub LaidOut : List ℕ → List (List ℕ) → Type 0
LaidOut text ls = AllByRecursion (LacksByte 10) ls × ((text ≡ ended ls) ⊎ Unended text ls)

-- The lines of a text are exactly those that are laid out as the text.
abbrev pub LinesAreLaidOut : Type 0
LinesAreLaidOut = (text : List ℕ) (ls : List (List ℕ)) → (lines_of text ≡ ls) ↔ LaidOut text ls
