-- What accepted calls add to the book.
use Rattle.std.specs.Prelude.{ℕ, ◌+◌, List, [], ◌∷◌}
use Rattle.card.specs.declared.card.Card.{Card}
use Rattle.ground.specs.declared.forcing.Forcing.{Forcing}
use Rattle.node.specs.Rules.{Yielded, rained, risen}
use Rattle.places.specs.Laws.{total}
use Rattle.model.specs.State.{Book}

-- an opening brings a volume in
abbrev pub book_opening : Book → ℕ → Book
book_opening b volume = record {
  rain = b.rain;
  rise = b.rise;
  brought_in = b.brought_in + volume;
  evaporated = b.evaporated;
  discharged = b.discharged;
  sunk = b.sunk;
  ceded = b.ceded;
  loads = b.loads;
}

-- to each load the load of the same nutrient
abbrev pub plus_loads : List ℕ → List ℕ → List ℕ
plus_loads [] more = []
plus_loads (l ∷ ls) [] = l ∷ ls
plus_loads (l ∷ ls) (m ∷ more) = (l + m) ∷ plus_loads ls more

-- a step of a node on a card: all seven flows are discharged
abbrev pub book_step : Book → Card → Forcing → Yielded → Book
book_step b c f y = record {
  rain = b.rain + rained c f;
  rise = b.rise + risen c f;
  brought_in = b.brought_in;
  evaporated = b.evaporated + y.evaporated;
  discharged = b.discharged + total y.flows;
  sunk = b.sunk + y.sunk;
  ceded = b.ceded;
  loads = plus_loads b.loads y.loads;
}

-- a withdrawal cedes a volume
abbrev pub book_withdrawal : Book → ℕ → Book
book_withdrawal b volume = record {
  rain = b.rain;
  rise = b.rise;
  brought_in = b.brought_in;
  evaporated = b.evaporated;
  discharged = b.discharged;
  sunk = b.sunk;
  ceded = b.ceded + volume;
  loads = b.loads;
}
