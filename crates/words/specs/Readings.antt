-- What the words of a line have ahead, and what their calls hand out.
use Rattle.std.specs.Prelude.{◌≡◌, ℕ, ◌-◌, ◌<◌, ◌≤◌, ◌⊎◌, List, [], ◌∷◌, ◌++◌, length, Some, None, Option, ◌≢◌, slice_index}
use Rattle.lines.specs.declared.reader.Line.{Line}
use Rattle.std.specs.Str.Iter.{LacksByte}
use Rattle.words.specs.declared.words.Word.{Word}
use Rattle.words.specs.declared.words.Words.{Words}

-- the bytes that are not read yet
abbrev pub ahead : Words → List ℕ
ahead words = words.rest.now

-- bytes that begin with a space
abbrev pub Spaced : List ℕ → Type 0
Spaced bytes = (more : List ℕ) × (bytes ≡ 32 ∷ more)

-- bytes in which a word ends at once: there are none, or they begin with a space
abbrev pub Ends : List ℕ → Type 0
Ends bytes = (bytes ≡ []) ⊎ Spaced bytes

-- The first space stands after n bytes; where there is none, n is the number of bytes.
pub record WordLength (bytes : List ℕ) (n : ℕ) : Type 0 where
  pub within : n ≤ length bytes
  pub lacks : (k : ℕ) → k < n → slice_index bytes k ≢ 32
  pub ends : n < length bytes → slice_index bytes n ≡ 32

-- A line taken apart: none where it is empty; else its first byte, and the words behind it.
abbrev pub TakesApart : Line → Option (ℕ × Words) → Type 0
TakesApart line None = line.bytes.now ≡ []
TakesApart line (Some (first, words)) = (line.bytes.now ≡ first ∷ ahead words) × (words.line ≡ line)

-- The place of bytes at the end of a line: how many bytes of the line stand before them.
abbrev pub column_of : Line → List ℕ → ℕ
column_of line bytes = length line.bytes.now - length bytes

-- The next word: none where no space comes next, and then nothing changes; else the word between that space and the next or
-- the end, with its place, and what follows it is still ahead.
abbrev pub NextWord : Words → Option Word → Words → Type 0
NextWord before None after = (Spaced (ahead before) → ⊥) × (after ≡ before)
NextWord before (Some word) after =
    (ahead before ≡ 32 ∷ word.bytes.now ++ ahead after)
    × LacksByte 32 word.bytes.now
    × Ends (ahead after)
    × ((word.line ≡ before.line.number) × (word.column ≡ column_of before.line (word.bytes.now ++ ahead after)))
    × (after.line ≡ before.line)

-- The bytes do not begin with a space and a word that writes a number.
abbrev pub NoNumber : {X : Type 0} → (List ℕ → X → Type 0) → List ℕ → Type 0
NoNumber {X} Writes bytes = (x : X) (word rest : List ℕ) → Writes word x → bytes ≡ 32 ∷ word ++ rest → Ends rest → ⊥

-- The next word as a number, from the bytes that are ahead before and after: some x where the next word writes x, and then
-- what follows it is still ahead; none where it writes no number, or there is no word.
abbrev pub NextNumber : {X : Type 0} → (List ℕ → X → Type 0) → List ℕ → Option X → List ℕ → Type 0
NextNumber Writes before None after = NoNumber Writes before
NextNumber Writes before (Some x) after = (word : List ℕ) × Writes word x × (before ≡ 32 ∷ word ++ after) × Ends after
