-- What a reader has ahead, what a call of `next` answers, and which lines a run of calls hands out.
use Rattle.std.specs.Prelude.{◌≡◌, ℕ, ◌+◌, List, [], ◌∷◌, ◌++◌, map, drop, Some, None, Option}
use Rattle.lines.specs.Lines.{lines_of}
use Rattle.lines.specs.declared.reader.Line.{Line}
use Rattle.lines.specs.declared.reader.Reader.{Reader}

-- the lines that a reader has ahead: those of its text after the lines handed out
abbrev pub ahead : Reader → List (List ℕ)
ahead reader = drop reader.count (lines_of reader.text.now)

-- What `next` answers, and the reader that it leaves: `None` where nothing is ahead, and then nothing changes;
-- else the first line ahead with its number, and the others are still ahead.
abbrev pub NextLine : Reader → Option Line → Reader → Type 0
NextLine before None after = (ahead before ≡ []) × (after ≡ before)
NextLine before (Some line) after =
    (ahead before ≡ line.bytes.now ∷ ahead after)
    × (line.number ≡ before.count + 1)
    × (after.count ≡ before.count + 1)
    × (after.text ≡ before.text)

-- calls of `next` lead from the one reader to the other, and hand out these lines in this order
abbrev pub Run : Reader → List Line → Reader → Type 0
Run before [] after = after ≡ before
Run before (line ∷ lines) after = (next : Reader) × NextLine before (Some line) next × Run next lines after

-- lines with their numbers, the first of which is n
abbrev pub numbered : ℕ → List (List ℕ) → List (ℕ × List ℕ)
numbered n [] = []
numbered n (l ∷ ls) = (n, l) ∷ numbered (n + 1) ls

-- the numbers and the bytes of lines that were handed out
abbrev pub contents : List Line → List (ℕ × List ℕ)
contents lines = map (λ line. (line.number, line.bytes.now)) lines

-- In every run from the reader, the lines handed out and then those still ahead are the lines of the text, numbered 1, 2, 3 and so on.
abbrev pub HandsOutInOrder : Reader → List ℕ → Type 0
HandsOutInOrder reader text = (lines : List Line) (after : Reader) → Run reader lines after →
    contents lines ++ numbered (after.count + 1) (ahead after) ≡ numbered 1 (lines_of text)

-- In every run from the reader until `next` answers `None`, the lines handed out are the lines of the text and nothing else,
-- numbered 1, 2, 3 and so on.
abbrev pub HandsOutAll : Reader → List ℕ → Type 0
HandsOutAll reader text = (lines : List Line) (after end : Reader) → Run reader lines after → NextLine after None end →
    contents lines ≡ numbered 1 (lines_of text)
