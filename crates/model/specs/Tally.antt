-- A tally of a district, kept from the calls and their answers alone. It has sums of its own, and none of the booking's.
use Rattle.std.specs.Prelude.{ℕ, suc, ◌+◌, ◌-◌, ◌*◌, Bool, true, false, List, [], ◌∷◌, replicate, ℤ, pos, negsuc, sum, count_by, slice_index_or, slice_set}
use Rattle.card.specs.declared.card.Card.{Card}
use Rattle.ground.specs.declared.forcing.Forcing.{Forcing}
use Rattle.node.specs.Rules.{Yielded}
use Rattle.reservoir.specs.Meaning.{Make}
use Rattle.model.specs.State.{Book, District, new_district}
use Rattle.model.specs.Calls.{Call, opening, stepping, withdrawing, looking, reading, Reading, Answer, refused, granted}
use Rattle.model.specs.Rules.{does}
use Rattle.model.specs.Runs.{after_all}

-- what a tally knows of a number: the card that it is open on, if it is open
pub data Known : Type 0 where
  not_open : Known
  open_on : Card → Known

-- what is known of each number, from 1 on, and totals by the names of the book's
pub record Tally : Type 0 where
  pub numbers : List Known
  pub totals : Book

abbrev pub known : List Known → ℕ → Known
known numbers k = slice_index_or (not_open ∷ numbers) k not_open

-- how many numbers are open by a tally
abbrev pub is_open_on : Known → Bool
is_open_on not_open = false
is_open_on (open_on c) = true

abbrev pub open_in_tally : Tally → ℕ
open_in_tally t = count_by is_open_on t.numbers

-- the tally before the first call
abbrev pub no_tally : Tally
no_tally = record {
  numbers = replicate 256 not_open;
  totals = record {
    rain = 0;
    rise = 0;
    brought_in = 0;
    evaporated = 0;
    discharged = 0;
    sunk = 0;
    ceded = 0;
    loads = 0 ∷ 0 ∷ 0 ∷ [];
  };
}

-- all four areas of a card
abbrev pub all_four : Card → ℕ
all_four c = c.areas.open.0 + c.areas.paved.0 + c.areas.sewer.0 + c.areas.unpaved.0

-- a seepage as far as it is above 0
abbrev pub above_zero : ℤ → ℕ
above_zero (pos n) = n
above_zero (negsuc n) = 0

-- loads added up, nutrient by nutrient
abbrev pub added_loads : List ℕ → List ℕ → List ℕ
added_loads [] ys = []
added_loads (x ∷ xs) [] = x ∷ xs
added_loads (x ∷ xs) (y ∷ ys) = (x + y) ∷ added_loads xs ys

abbrev pub tally_opening : Book → Card → Book
tally_opening t c = record {
  rain = t.rain;
  rise = t.rise;
  brought_in = t.brought_in + c.soil.field_capacity.0 * c.areas.unpaved.0;
  evaporated = t.evaporated;
  discharged = t.discharged;
  sunk = t.sunk;
  ceded = t.ceded;
  loads = t.loads;
}

abbrev pub tally_step : Book → Known → Forcing → Yielded → Book
tally_step t not_open f y = t
tally_step t (open_on c) f y = record {
  rain = t.rain + f.rain.0 * all_four c;
  rise = t.rise + above_zero f.seepage * all_four c;
  brought_in = t.brought_in;
  evaporated = t.evaporated + y.evaporated;
  discharged = t.discharged + sum y.flows;
  sunk = t.sunk + y.sunk;
  ceded = t.ceded;
  loads = added_loads t.loads y.loads;
}

abbrev pub tally_withdrawal : Book → ℕ → Book
tally_withdrawal t volume = record {
  rain = t.rain;
  rise = t.rise;
  brought_in = t.brought_in;
  evaporated = t.evaporated;
  discharged = t.discharged;
  sunk = t.sunk;
  ceded = t.ceded + volume;
  loads = t.loads;
}

-- the tally after a call and its answer
abbrev pub hears : Tally → (call : Call) → Answer call → Tally
hears t (opening k c ss) (refused r) = t
hears t (opening k c ss) (granted volume) =
    record { numbers = slice_set t.numbers (k - 1) (open_on c); totals = tally_opening t.totals c }
hears t (stepping k f) (refused r) = t
hears t (stepping k f) (granted y) =
    record { numbers = t.numbers; totals = tally_step t.totals (known t.numbers k) f y }
hears t (withdrawing k) (refused r) = t
hears t (withdrawing k) (granted volume) =
    record { numbers = slice_set t.numbers (k - 1) not_open; totals = tally_withdrawal t.totals volume }
hears t (looking k) answer = t
hears t reading answer = t

-- a call with its answer
abbrev pub Event : Type 0
Event = (call : Call) × Answer call

-- the tally of a list of events
abbrev pub tallied : Tally → List Event → Tally
tallied t [] = t
tallied t (e ∷ es) = tallied (hears t e.0 e.1) es

-- the calls of a list with the answers that a district gives
abbrev pub events : List Make → District → List Call → List Event
events makes d [] = []
events makes d (call ∷ calls) = (call, (does makes d call).answer) ∷ events makes (does makes d call).after calls

-- What is stored under a number, by the answer to looking at it: six contents, and the moisture and depression storage over
-- the unpaved area of its card.
abbrev pub shown : {k : ℕ} → Card → Answer (looking k) → ℕ
shown c (refused r) = 0
shown c (granted v) = sum v.contents + (v.moisture + v.depression) * c.areas.unpaved.0

abbrev pub shown_under : List Make → District → ℕ → Known → ℕ
shown_under makes d k not_open = 0
shown_under makes d k (open_on c) = shown c (does makes d (looking k)).answer

-- the sum over the numbers from k on
abbrev pub shown_from : List Make → District → ℕ → List Known → ℕ
shown_from makes d k [] = 0
shown_from makes d k (x ∷ xs) = shown_under makes d k x + shown_from makes d (suc k) xs

-- The tally of a list of calls to a new district, and what it says that a reading then shows: its totals, and its storage,
-- which is asked by looking.
abbrev pub tally_of : List Make → ℕ → List Call → Tally
tally_of makes cells calls = tallied no_tally (events makes (new_district cells) calls)

abbrev pub tally_says : List Make → ℕ → List Call → Reading
tally_says makes cells calls = record {
  totals = (tally_of makes cells calls).totals;
  storage = shown_from makes (after_all makes (new_district cells) calls) 1 (tally_of makes cells calls).numbers;
}
