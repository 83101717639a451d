-- The rules of a sheet: what each line answers and leaves. Any refused line drops the half-made card.
use Rattle.std.specs.Prelude.{ℕ, List, Some, None, Ok, Err, Option, Result}
use Rattle.card.specs.Faults as cards
use Rattle.card.specs.declared.areas.Areas.{Areas}
use Rattle.card.specs.declared.card.Card.{Card}
use Rattle.card.specs.declared.fault.CardFault.{CardFault}
use Rattle.command.specs.Meanings.{Meaning}
use Rattle.command.specs.declared.command.Command.{Command}
use Rattle.command.specs.declared.command.Command.TheVariants.{Begin, Ground, Equip, Open, Step, Withdraw, Read}
use Rattle.ground.specs.declared.soil.Soil.{Soil}
use Rattle.model.specs.Calls as calls
use Rattle.model.specs.Calls.{Call, opening, stepping, withdrawing, reading, Granted, refused, granted}
use Rattle.model.specs.Rules.{does}
use Rattle.model.specs.State.{District}
use Rattle.places.specs.Faults.{placed_refusal}
use Rattle.places.specs.States.{State}
use Rattle.places.specs.declared.fault.PlacedFault.{PlacedFault}
use Rattle.reservoir.specs.Meaning.{Make}
use Rattle.reservoir.specs.declared.fault.Refusal.{Refusal}
use Rattle.session.specs.Cards.{card_fault}
use Rattle.session.specs.Entries.{Entry, Answer, opened, stepped, withdrawn, balance}
use Rattle.session.specs.Equipments.{Equipping}
use Rattle.session.specs.Faults.{malformed, out_of_turn}
use Rattle.session.specs.Stages.{Stage, idle, has_areas, has_soil, has_reservoirs, Session, idling}

-- what a line answers, and the session that it leaves
pub record Done : Type 0 where
  pub answer : Answer
  pub after : Session

abbrev pub refuses : District → Refusal → Done
refuses d r = record { answer = Err r; after = idling d }

-- the card goes on, and nothing is printed
abbrev pub goes_on : District → Stage → Done
goes_on d stage = record { answer = Ok None; after = record { district = d; stage = stage } }

-- A call of the district: what it grants makes an entry.
abbrev pub entry_of : (call : Call) → (Granted call → Entry) → calls.Answer call → Answer
entry_of call entry (refused r) = Err r
entry_of call entry (granted x) = Ok (Some (entry x))

abbrev pub called : (call : Call) → (Granted call → Entry) → calls.Done call → Done
called call entry done = record { answer = entry_of call entry done.answer; after = idling done.after }

-- `k` makes the reservoirs
abbrev pub equips : District → ℕ → Areas → Soil → Result (List State) PlacedFault → Done
equips d number areas soil (Ok reservoirs) = goes_on d (has_reservoirs number areas soil reservoirs)
equips d number areas soil (Err fault) = refuses d (placed_refusal fault)

-- `c` checks the card and opens its node
abbrev pub ends : List Make → District → ℕ → Card → List State → Option CardFault → Done
ends makes d number card reservoirs (Some fault) = refuses d (cards.refusal fault)
ends makes d number card reservoirs None =
    called (opening number card reservoirs) (opened number) (does makes d (opening number card reservoirs))

-- a command where no card is half made
abbrev pub obeys : List Make → District → Command → Done
obeys makes d (Begin number areas) = goes_on d (has_areas number areas)
obeys makes d (Ground soil) = refuses d out_of_turn
obeys makes d (Equip fractions) = refuses d out_of_turn
obeys makes d (Open concentrations) = refuses d out_of_turn
obeys makes d (Step number forcing) =
    called (stepping number forcing) (λ y. stepped number y.flows) (does makes d (stepping number forcing))
obeys makes d (Withdraw number) = called (withdrawing number) (withdrawn number) (does makes d (withdrawing number))
obeys makes d Read = called reading balance (does makes d reading)

-- a command where the card has its areas: only the soil is in turn
abbrev pub takes_soil : District → ℕ → Areas → Command → Done
takes_soil d number areas (Begin n a) = refuses d out_of_turn
takes_soil d number areas (Ground soil) = goes_on d (has_soil number areas soil)
takes_soil d number areas (Equip fractions) = refuses d out_of_turn
takes_soil d number areas (Open concentrations) = refuses d out_of_turn
takes_soil d number areas (Step n f) = refuses d out_of_turn
takes_soil d number areas (Withdraw n) = refuses d out_of_turn
takes_soil d number areas Read = refuses d out_of_turn

-- where it has its soil too: only the fractions are
abbrev pub takes_fractions : Equipping → District → ℕ → Areas → Soil → Command → Done
takes_fractions equipped d number areas soil (Begin n a) = refuses d out_of_turn
takes_fractions equipped d number areas soil (Ground g) = refuses d out_of_turn
takes_fractions equipped d number areas soil (Equip fractions) = equips d number areas soil (equipped fractions)
takes_fractions equipped d number areas soil (Open concentrations) = refuses d out_of_turn
takes_fractions equipped d number areas soil (Step n f) = refuses d out_of_turn
takes_fractions equipped d number areas soil (Withdraw n) = refuses d out_of_turn
takes_fractions equipped d number areas soil Read = refuses d out_of_turn

-- where it has its reservoirs too: only the concentrations are
abbrev pub takes_concentrations : List Make → District → ℕ → Areas → Soil → List State → Command → Done
takes_concentrations makes d number areas soil reservoirs (Begin n a) = refuses d out_of_turn
takes_concentrations makes d number areas soil reservoirs (Ground g) = refuses d out_of_turn
takes_concentrations makes d number areas soil reservoirs (Equip fractions) = refuses d out_of_turn
takes_concentrations makes d number areas soil reservoirs (Open concentrations) =
    let card : Card = record { areas = areas; soil = soil; concentrations = concentrations } in
    ends makes d number card reservoirs (card_fault card)
takes_concentrations makes d number areas soil reservoirs (Step n f) = refuses d out_of_turn
takes_concentrations makes d number areas soil reservoirs (Withdraw n) = refuses d out_of_turn
takes_concentrations makes d number areas soil reservoirs Read = refuses d out_of_turn

abbrev pub commanded : List Make → Equipping → District → Stage → Command → Done
commanded makes equipped d idle command = obeys makes d command
commanded makes equipped d (has_areas number areas) command = takes_soil d number areas command
commanded makes equipped d (has_soil number areas soil) command = takes_fractions equipped d number areas soil command
commanded makes equipped d (has_reservoirs number areas soil reservoirs) command =
    takes_concentrations makes d number areas soil reservoirs command

-- A line: one without a form is refused, one that is passed over changes nothing.
abbrev pub line_does : List Make → Equipping → Session → Meaning → Done
line_does makes equipped s (Err fault) = refuses s.district malformed
line_does makes equipped s (Ok None) = record { answer = Ok None; after = s }
line_does makes equipped s (Ok (Some command)) = commanded makes equipped s.district s.stage command

-- The end of the sheet is refused where a card is half made.
abbrev pub finishes : Stage → Answer
finishes idle = Ok None
finishes (has_areas number areas) = Err out_of_turn
finishes (has_soil number areas soil) = Err out_of_turn
finishes (has_reservoirs number areas soil reservoirs) = Err out_of_turn
