-- A node at the level of definitions: its card, and its stores, which are the soil moisture, the depression storage and
-- the cells of its six reservoirs.
use Rattle.std.specs.Prelude.{ℕ, ◌+◌, List}
use Rattle.card.specs.declared.card.Card.{Card}
use Rattle.ground.specs.Limits.{field_capacity}
use Rattle.places.specs.Laws.{total}
use Rattle.places.specs.States.{State, each_emptied, each_holds}
use Rattle.quantity.specs.Amounts.{volume_of}

pub record Store : Type 0 where
  pub card : Card
  pub moisture : ℕ
  pub depression : ℕ
  pub reservoirs : List State

-- a node as it is opened on a card over reservoirs: every cell 0, the soil at field capacity, nothing in depression storage
abbrev pub opened : Card → List State → Store
opened card reservoirs = record {
  card = card;
  moisture = field_capacity card.soil;
  depression = 0;
  reservoirs = each_emptied reservoirs;
}

-- a node's storage: what its reservoirs hold, and the moisture and depression storage over the unpaved area
abbrev pub storage : Store → ℕ
storage n = total (each_holds n.reservoirs) + volume_of (n.moisture + n.depression) n.card.areas.unpaved.0
