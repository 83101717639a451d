-- What the calls of a node answer and leave.
use Rattle.std.specs.Prelude.{◌≡◌, ℕ, ◌+◌, List, [], ◌∷◌, ◌++◌, Ok, Err, Result}
use Rattle.card.specs.Limits.{hard_areas}
use Rattle.card.specs.Loads.{tenths}
use Rattle.ground.specs.Limits.{InRange}
use Rattle.ground.specs.declared.forcing.Forcing.{Forcing}
use Rattle.places.specs.Answers.{Refuses}
use Rattle.places.specs.Numbers.{listed}
use Rattle.places.specs.declared.fault.PlacedFault.{PlacedFault}
use Rattle.places.specs.States.{State, EachAccepts, each_content}
use Rattle.quantity.specs.Amounts.{volume_of}
use Rattle.reservoir.specs.Meaning.{Make}
use Rattle.node.specs.Stores.{Store}
use Rattle.node.specs.Rules.{Yielded, Accepted, hard_evaporation, soaking, inflows, rained, risen}
use Rattle.node.specs.declared.answer.Flows.{Flows}
use Rattle.node.specs.declared.answer.Income.{Income}
use Rattle.node.specs.declared.answer.View.{View}
use Rattle.node.specs.declared.answer.Yield.{Yield}
use Rattle.node.specs.declared.fault.StepFault.{StepFault}
use Rattle.node.specs.declared.fault.StepFault.TheVariants.{OutOfRange, Reservoir}
use Rattle.node.specs.declared.node.Node.{Node}
use Rattle.node.specs.declared.plan.Plan.{Plan}

-- the store of a node over places of the type P, whose reservoirs the first argument gives
abbrev pub store : {P : Type 0} → (P → List State) → Node P → Store
store reservoirs n = record {
  card = record { areas = n.areas.numbers; soil = n.ground.soil.numbers; concentrations = n.concentrations.numbers };
  moisture = n.ground.moisture.0;
  depression = n.ground.depression.0;
  reservoirs = reservoirs n.reservoirs;
}

-- what a step would do, as the rules give it
pub record Plans (n : Store) (f : Forcing) (p : Plan) : Type 0 where
  pub into : listed p.inflows ≡ inflows n.card f (soaking n f)
  pub rising : p.rising.0 ≡ risen n.card f
  pub evaporated : p.evaporated.0 ≡ volume_of (hard_evaporation f) (hard_areas n.card.areas)
      + volume_of (soaking n f).transpiration n.card.areas.unpaved.0
  pub sunk : p.sunk.0 ≡ volume_of (soaking n f).sinking n.card.areas.unpaved.0
  pub soil : p.ground.soil.numbers ≡ n.card.soil
  pub moisture : p.ground.moisture.0 ≡ (soaking n f).moisture
  pub depression : p.ground.depression.0 ≡ (soaking n f).depression

-- the numbers of what a step answers
abbrev pub flows_in : Flows → List ℕ
flows_in flows = listed flows.reservoirs ++ (flows.rising.0 ∷ [])

abbrev pub yielded : Yield → Yielded
yielded y = record {
  flows = flows_in y.flows;
  evaporated = y.evaporated.0;
  sunk = y.sunk.0;
  loads = tenths y.loads;
}

-- the lowest place without room is named, with the forcing in range
abbrev pub RefusesAt : Store → Forcing → PlacedFault → Type 0
RefusesAt n f fault = InRange f × Refuses n.reservoirs (inflows n.card f (soaking n f)) fault

-- Offering a step, of which nothing happens.
abbrev pub Offers : Store → Forcing → Result (Unit {0}) StepFault → Type 0
Offers n f (Ok done) = InRange f × EachAccepts n.reservoirs (inflows n.card f (soaking n f))
Offers n f (Err OutOfRange) = InRange f → ⊥
Offers n f (Err (Reservoir fault)) = RefusesAt n f fault

-- A step: the answer and the node that it leaves. It happens as the rules have it, or it is refused and the node is as it was.
abbrev pub Steps : List Make → Store → Forcing → Result Yield StepFault → Store → Type 0
Steps makes n f (Ok y) m = Accepted makes n f (yielded y) m
Steps makes n f (Err OutOfRange) m = (InRange f → ⊥) × (m ≡ n)
Steps makes n f (Err (Reservoir fault)) m = RefusesAt n f fault × (m ≡ n)

-- what comes in under a forcing
pub record Brings (n : Store) (f : Forcing) (i : Income) : Type 0 where
  pub rain : i.rain.0 ≡ rained n.card f
  pub rise : i.rise.0 ≡ risen n.card f

-- what looking at a node answers; a content too large for a volume is the largest volume
pub record Shows (n : Store) (v : View) : Type 0 where
  pub moisture : v.moisture.0 ≡ n.moisture
  pub depression : v.depression.0 ≡ n.depression
  pub contents : listed v.contents ≡ each_content n.reservoirs
