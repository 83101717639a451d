-- The lines of a storm that say something: all but those that are passed over.
use Rattle.std.specs.Prelude.{◌≡◌, ℕ, ◌+◌, ◌<◌, Bool, true, cond, List, [], ◌∷◌, length, Some, None, Option, ◌==◌}
use Rattle.lines.specs.Runs.{ahead}
use Rattle.lines.specs.declared.reader.Line.{Line}
use Rattle.lines.specs.declared.reader.Reader.{Reader}

-- passed over: an empty line, and a remark, which opens with '#', the byte 35
abbrev pub passed : List ℕ → Bool
passed [] = true
passed (b ∷ bs) = b == 35

-- a line that is not passed over, with its number and the lines after it
pub record Entry : Type 0 where
  pub number : ℕ
  pub bytes : List ℕ
  pub rest : List (List ℕ)

-- the first such line, where n lines were handed out before
abbrev pub entry : ℕ → List (List ℕ) → Option Entry
entry n [] = None
entry n (l ∷ ls) = cond (passed l) (entry (n + 1) ls) (Some (record { number = n + 1; bytes = l; rest = ls }))

-- what a reader hands out next of these, and the reader that it leaves
abbrev pub NextEntry : Reader → Option Line → Reader → Type 0
NextEntry before None after = entry before.count (ahead before) ≡ None
NextEntry before (Some line) after =
    (entry before.count (ahead before) ≡ Some (record { number = line.number; bytes = line.bytes.now; rest = ahead after }))
    × (length (ahead after) < length (ahead before))
