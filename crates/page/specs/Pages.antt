-- The page of a sheet.
use Rattle.std.specs.Prelude.{◌≡◌, ℕ, ◌+◌, ◌<◌, ◌≤◌, List, [], ◌∷◌, ◌++◌, length}
use Rattle.command.specs.Meanings.{Meaning, Means}
use Rattle.lines.specs.Lines.{lines_of}
use Rattle.reservoir.specs.Meaning.{Make}
use Rattle.session.specs.Equipments.{Equipping}
use Rattle.session.specs.Faults.{malformed}
use Rattle.session.specs.Rules.{line_does, finishes}
use Rattle.session.specs.Stages.{Session, new_session}
use Rattle.page.specs.Printed.{answer_line, refusal_line}

-- What lines of these meanings print in a session, the first of them the line of the number n, and then the end of the sheet.
unfoldable pub page_from : List Make → Equipping → Session → ℕ → List Meaning → List ℕ
page_from makes equipped s n [] = answer_line n (finishes s.stage)
page_from makes equipped s n (m ∷ ms) =
    answer_line n (line_does makes equipped s m).answer ++ page_from makes equipped (line_does makes equipped s m).after (n + 1) ms

-- each line means what stands in its place
abbrev pub EachMeans : List (List ℕ) → List Meaning → Type 0
EachMeans [] [] = Unit {0}
EachMeans [] (m ∷ ms) = ⊥
EachMeans (l ∷ ls) [] = ⊥
EachMeans (l ∷ ls) (m ∷ ms) = Means l m × EachMeans ls ms

abbrev pub largest_sheet : ℕ
largest_sheet = 65536

-- The page of a sheet, run on a new district of so many cells: what its lines print, one after the other, each by its meaning. Of a
-- sheet that is too large nothing is run.
pub record PageOf (makes : List Make) (equipped : Equipping) (cells : ℕ) (sheet page : List ℕ) : Type 0 where
  pub too_large : largest_sheet < length sheet → page ≡ refusal_line 0 malformed
  pub run : length sheet ≤ largest_sheet →
      (meanings : List Meaning) × EachMeans (lines_of sheet) meanings × (page ≡ page_from makes equipped (new_session cells) 1 meanings)
