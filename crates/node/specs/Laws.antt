-- The laws of a node, over every six makes that keep a reservoir's meaning.
use Rattle.std.specs.Prelude.{◌≡◌, ◌+◌, ◌≤◌, List, [], ◌∷◌}
use Rattle.card.specs.declared.card.Card.{Card}
use Rattle.ground.specs.Laws.{Wetter}
use Rattle.ground.specs.Limits.{Admissible, Holds}
use Rattle.ground.specs.declared.forcing.Forcing.{Forcing}
use Rattle.places.specs.Laws.{total, EachAtMost}
use Rattle.places.specs.States.{State, EachFits}
use Rattle.reservoir.specs.Cells.{AtMost}
use Rattle.reservoir.specs.Meaning.{Make}
use Rattle.node.specs.Stores.{Store, opened, storage}
use Rattle.node.specs.Rules.{Yielded, Accepted, rained, risen}

-- what every node keeps: an admissible soil, moisture and depression storage within it, reservoirs that fit their makes
pub record Sound (makes : List Make) (n : Store) : Type 0 where
  pub soil : Admissible n.card.soil
  pub within : Holds n.card.soil n.moisture n.depression
  pub fits : EachFits makes n.reservoirs

-- A node is sound when it is opened, and an accepted step leaves it sound.
pub record StaysSound (makes : List Make) : Type 0 where
  pub opens : (card : Card) (ss : List State) → Admissible card.soil → EachFits makes ss → Sound makes (opened card ss)
  pub steps : (n m : Store) (f : Forcing) (y : Yielded) → Sound makes n → Accepted makes n f y m → Sound makes m

-- The balance of a step: rain, rising seepage and the storage before are what evaporated, what flows and what sank, and the
-- storage after.
abbrev pub StepsBalance : List Make → Type 0
StepsBalance makes = (n m : Store) (f : Forcing) (y : Yielded) → Sound makes n → Accepted makes n f y m →
    rained n.card f + risen n.card f + storage n ≡ y.evaporated + total y.flows + y.sunk + storage m

-- a pair of steps, one of each of two nodes: both accepted, with what each is answered and leaves, or both refused
pub data Pair : Type 0 where
  accepted : (f : Forcing) (y : Yielded) (n : Store) (g : Forcing) (z : Yielded) (m : Store) → Pair
  refused : (f g : Forcing) → Pair

-- The pairs, in this order, are steps of the two nodes. In each the second forcing has at least the rain and seepage and at
-- most the evaporation of the first. A refused step, whatever its cause, changes nothing.
abbrev pub PairRun : List Make → Store → Store → List Pair → Type 0
PairRun makes a b [] = Unit {0}
PairRun makes a b (accepted f y n g z m ∷ ps) =
    Wetter f g × (Accepted makes a f y n × (Accepted makes b g z m × PairRun makes n m ps))
PairRun makes a b (refused f g ∷ ps) = Wetter f g × PairRun makes a b ps

-- the second node has at least as much in each store: moisture, depression storage and every cell
pub record EachStoreAtMost (a b : Store) : Type 0 where
  pub moisture : a.moisture ≤ b.moisture
  pub depression : a.depression ≤ b.depression
  pub reservoirs : EachAtMost a.reservoirs b.reservoirs

-- In each accepted pair the second answer has at least each flow and each load of the first; after each pair the second
-- node has at least as much in each store. a and b are the nodes before the pairs.
abbrev pub NoLess : Store → Store → List Pair → Type 0
NoLess a b [] = Unit {0}
NoLess a b (accepted f y n g z m ∷ ps) =
    AtMost y.flows z.flows × (AtMost y.loads z.loads × (EachStoreAtMost n m × NoLess n m ps))
NoLess a b (refused f g ∷ ps) = EachStoreAtMost a b × NoLess a b ps

-- More rain gives no less, for every list of such pairs of two nodes opened alike: on one card, over reservoirs with equal
-- makes and settings.
abbrev pub MoreRainGivesNoLess : List Make → Type 0
MoreRainGivesNoLess makes = (card : Card) (ss : List State) (ps : List Pair) → Admissible card.soil → EachFits makes ss →
    PairRun makes (opened card ss) (opened card ss) ps → NoLess (opened card ss) (opened card ss) ps
