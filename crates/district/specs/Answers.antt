-- What the calls of a district answer and leave.
use Rattle.std.specs.Prelude.{◌≡◌, ℕ, List, Ok, Err, Result}
use Rattle.book.specs.Books.{book_of}
use Rattle.model.specs.Calls as calls
use Rattle.model.specs.Calls.{Call, Granted, Answer, refused, granted}
use Rattle.model.specs.Rules.{does}
use Rattle.model.specs.Soundness.{Sound}
use Rattle.model.specs.State as model
use Rattle.node.specs.declared.answer.View.{View}
use Rattle.places.specs.Numbers.{listed}
use Rattle.places.specs.States.{State}
use Rattle.quantity.specs.declared.water.Centilitres.{Centilitres}
use Rattle.reservoir.specs.Meaning.{Make}
use Rattle.roll.specs.Faults.{district_refusal}
use Rattle.roll.specs.Rolls.{Rolled, rolled}
use Rattle.roll.specs.declared.fault.DistrictFault.{DistrictFault}
use Rattle.district.specs.declared.district.District.{District}
use Rattle.district.specs.declared.district.Reading.{Reading}

-- A district as the rules have it.
abbrev pub district_with : Rolled → model.Book → model.District
district_with l b = record { roll = l.roll; cells = l.cells; book = b }

abbrev pub district_of : {P : Type 0} → (P → List State) → District P → model.District
district_of reservoirs d = district_with (rolled reservoirs d.roll) (book_of d.book)

-- What is granted, by its numbers.
abbrev pub volume : Centilitres → ℕ
volume v = v.0

abbrev pub viewed : View → calls.View
viewed v = record { moisture = v.moisture.0; depression = v.depression.0; contents = listed v.contents }

abbrev pub answered_reading : Reading → calls.Reading
answered_reading r = record { totals = book_of r.book; storage = r.storage.0 }

-- an answer as the rules have it: what is granted by its numbers, a fault as it is told
abbrev pub answered : {T : Type 0} (call : Call) → (T → Granted call) → Result T DistrictFault → Answer call
answered call numbers (Ok x) = granted (numbers x)
answered call numbers (Err fault) = refused (district_refusal fault)

-- From a sound district a call answers and leaves just what the rules give, and what it leaves is sound.
abbrev pub FollowsRules : List Make → model.District → (call : Call) → Answer call → model.District → Type 0
FollowsRules makes before call answer after =
    Sound makes before → (does makes before call ≡ record { answer = answer; after = after }) × Sound makes after
