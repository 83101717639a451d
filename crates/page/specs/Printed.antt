-- Lines as they are printed: a letter, then numbers, each after one space, and the byte 10.
use Rattle.std.specs.Prelude.{ℕ, ◌/◌, List, [], ◌∷◌, ◌++◌, map, Some, None, Ok, Err, decimal}
use Rattle.model.specs.Calls.{Reading}
use Rattle.quantity.specs.Amounts.{gram}
use Rattle.reservoir.specs.declared.fault.Refusal.{Refusal}
use Rattle.session.specs.Entries.{Entry, Answer, opened, stepped, withdrawn, balance}
use Rattle.words.specs.Numbers.{spaced}

abbrev pub printed : ℕ → List ℕ → List ℕ
printed letter numbers = letter ∷ (spaced (map decimal numbers) ++ (10 ∷ []))

abbrev pub letter_O : ℕ
letter_O = 79

abbrev pub letter_S : ℕ
letter_S = 83

abbrev pub letter_W : ℕ
letter_W = 87

abbrev pub letter_B : ℕ
letter_B = 66

abbrev pub letter_X : ℕ
letter_X = 88

-- loads in whole grams
abbrev pub grams : List ℕ → List ℕ
grams loads = map (λ load. load / gram) loads

-- the seven totals of water, the storage, and the loads
abbrev pub balance_numbers : Reading → List ℕ
balance_numbers r =
    r.totals.rain ∷ r.totals.rise ∷ r.totals.brought_in ∷ r.totals.evaporated ∷ r.totals.discharged ∷ r.totals.sunk
    ∷ r.totals.ceded ∷ r.storage ∷ grams r.totals.loads

abbrev pub entry_line : Entry → List ℕ
entry_line (opened number volume) = printed letter_O (number ∷ volume ∷ [])
entry_line (stepped number flows) = printed letter_S (number ∷ flows)
entry_line (withdrawn number volume) = printed letter_W (number ∷ volume ∷ [])
entry_line (balance reading) = printed letter_B (balance_numbers reading)

-- a refusal, of the line of a number
abbrev pub refusal_line : ℕ → Refusal → List ℕ
refusal_line line r = printed letter_X (line ∷ r.layer ∷ r.cause ∷ r.place ∷ [])

-- what is printed of an answer to the line of a number
abbrev pub answer_line : ℕ → Answer → List ℕ
answer_line line (Ok None) = []
answer_line line (Ok (Some entry)) = entry_line entry
answer_line line (Err refusal) = refusal_line line refusal
