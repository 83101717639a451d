-- The calls of a district and what they answer.
use Rattle.std.specs.Prelude.{ℕ, List}
use Rattle.card.specs.declared.card.Card.{Card}
use Rattle.ground.specs.declared.forcing.Forcing.{Forcing}
use Rattle.node.specs.Rules.{Yielded}
use Rattle.places.specs.States.{State}
use Rattle.reservoir.specs.declared.fault.Refusal.{Refusal}
use Rattle.model.specs.State.{Book, District}

-- a call: all but the reading name a number first
pub data Call : Type 0 where
  -- opens a node on a card over six reservoirs
  opening : ℕ → Card → List State → Call
  -- steps a node under a forcing
  stepping : ℕ → Forcing → Call
  withdrawing : ℕ → Call
  looking : ℕ → Call
  reading : Call

-- a node as it is looked at: the soil moisture, the depression storage and what each reservoir holds
pub record View : Type 0 where
  pub moisture : ℕ
  pub depression : ℕ
  pub contents : List ℕ

-- a reading: the totals, and the storage of all open nodes
pub record Reading : Type 0 where
  pub totals : Book
  pub storage : ℕ

-- What a call answers where it is accepted: an opening the volume brought in, a withdrawal the volume ceded.
abbrev pub Granted : Call → Type 0
Granted (opening k c ss) = ℕ
Granted (stepping k f) = Yielded
Granted (withdrawing k) = ℕ
Granted (looking k) = View
Granted reading = Reading

pub data Answer (call : Call) : Type 0 where
  refused : Refusal → Answer call
  granted : Granted call → Answer call

-- what a call answers, and the district that it leaves
pub record Done (call : Call) : Type 0 where
  pub answer : Answer call
  pub after : District
