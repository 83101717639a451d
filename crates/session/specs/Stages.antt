-- A session as the rules of sheets have it: a district, and how far a card for it is made.
use Rattle.std.specs.Prelude.{ℕ, List}
use Rattle.card.specs.declared.areas.Areas.{Areas}
use Rattle.district.specs.Answers.{district_of}
use Rattle.district.specs.declared.district.District as districts
use Rattle.ground.specs.declared.soil.Soil.{Soil}
use Rattle.model.specs.State.{District, new_district}
use Rattle.places.specs.States.{State}
use Rattle.session.specs.declared.stage.Session as sessions
use Rattle.session.specs.declared.stage.Stage as stages
use Rattle.session.specs.declared.stage.Stage.TheVariants.{Idle, HasAreas, HasSoil, HasReservoirs}

-- Each stage but the first has the number of the node that the card is for.
pub data Stage : Type 0 where
  -- no card is half made
  idle : Stage
  has_areas : ℕ → Areas → Stage
  has_soil : ℕ → Areas → Soil → Stage
  has_reservoirs : ℕ → Areas → Soil → List State → Stage

pub record Session : Type 0 where
  pub district : District
  pub stage : Stage

-- a session with no card half made
abbrev pub idling : District → Session
idling d = record { district = d; stage = idle }

abbrev pub new_session : ℕ → Session
new_session cells = idling (new_district cells)

-- a stage over places of the type P, whose reservoirs the first argument gives
abbrev pub stage_of : {P : Type 0} → (P → List State) → stages.Stage P → Stage
stage_of reservoirs Idle = idle
stage_of reservoirs (HasAreas number areas) = has_areas number areas
stage_of reservoirs (HasSoil number areas soil) = has_soil number areas soil
stage_of reservoirs (HasReservoirs number areas soil places) = has_reservoirs number areas soil (reservoirs places)

abbrev pub staged : {P : Type 0} → (P → List State) → districts.District P → stages.Stage P → Session
staged reservoirs d stage = record { district = district_of reservoirs d; stage = stage_of reservoirs stage }

abbrev pub session_of : {P : Type 0} → (P → List State) → sessions.Session P → Session
session_of reservoirs s = staged reservoirs s.district s.stage
