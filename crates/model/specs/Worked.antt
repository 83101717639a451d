-- A run of a district with one cell and a few single calls, worked by hand. Every refusal is met.
use Rattle.std.specs.Prelude.{◌≡◌, ℕ, ◌-◌, List, [], ◌∷◌, map, replicate, ℤ, pos, neg_ℤ}
use Rattle.card.specs.declared.card.Card.{Card}
use Rattle.ground.specs.declared.forcing.Forcing.{Forcing}
use Rattle.node.specs.Rules.{Yielded}
use Rattle.places.specs.States.{State}
use Rattle.reservoir.specs.Makes.{linear, fractions}
use Rattle.reservoir.specs.Meaning.{Make}
use Rattle.reservoir.specs.declared.fault.Refusal.{Refusal}
use Rattle.model.specs.State.{new, open_with, District, new_district}
use Rattle.model.specs.Calls.{opening, stepping, withdrawing, looking, reading, View, Reading, refused, granted}
use Rattle.model.specs.Rules.{does}
use Rattle.model.specs.Tally.{Event, events}

-- linear reservoirs that keep a half of their storage and three quarters of what they take
abbrev pub six_linear : List Make
six_linear = linear ∷ linear ∷ linear ∷ linear ∷ linear ∷ linear ∷ []

abbrev pub holding : ℕ → State
holding volume = record { settings = fractions 32768 49152; cells = volume ∷ [] }

-- what they hold is emptied by an opening
abbrev pub six_holding : ℕ → List State
six_holding volume = holding volume ∷ holding volume ∷ holding volume ∷ holding volume ∷ holding volume ∷ holding volume ∷ []

abbrev pub a_card : Card
a_card = record {
  areas = record { «open» = record { 0 = 100 }; paved = record { 0 = 200 }; sewer = record { 0 = 300 }; unpaved = record { 0 = 400 } };
  soil = record {
    wilting_point = record { 0 = 10000 };
    field_capacity = record { 0 = 30000 };
    saturation = record { 0 = 40000 };
    infiltration_limit = record { 0 = 2000 };
    percolation_limit = record { 0 = 1000 };
    depression_limit = record { 0 = 500 };
    crop_factor = 80;
    slow_share = 50;
  };
  concentrations = record { by_flow = replicate 7 (record { 0 = 100 } ∷ record { 0 = 200 } ∷ record { 0 = 300 } ∷ []) };
}

abbrev pub forcing_of : ℕ → ℕ → ℤ → Forcing
forcing_of rain evaporation seepage =
    record { rain = record { 0 = rain }; evaporation = record { 0 = evaporation }; seepage = seepage }

abbrev pub told : ℕ → ℕ → ℕ → Refusal
told cause layer place = record { cause = cause; layer = layer; place = place }

-- flows, what evaporated, what sank, and loads
abbrev pub yields : List ℕ → ℕ → ℕ → List ℕ → Yielded
yields flows evaporated sunk loads =
    record { flows = flows; evaporated = evaporated; sunk = sunk; loads = loads }

abbrev pub views : ℕ → ℕ → List ℕ → View
views moisture depression contents = record { moisture = moisture; depression = depression; contents = contents }

abbrev pub read_at_last : Reading
read_at_last = record {
  totals = record {
    rain = 6000000;
    rise = 100000;
    brought_in = 24000000;
    evaporated = 856000;
    discharged = 1711400;
    sunk = 800000;
    ceded = 14732600;
    loads = 171140000 ∷ 342280000 ∷ 513420000 ∷ [];
  };
  storage = 12000000;
}

-- Steps have 30 mm of rain and 4 mm of evaporation, the first 1 mm of rising and the second 20 mm of sinking seepage. An opening
-- brings in field capacity over the unpaved area. At last the cell is used again.
abbrev pub worked : List Event
worked =
    (opening 0 a_card (six_holding 7), refused (told 6 2 0))
    ∷ (opening 257 a_card (six_holding 7), refused (told 6 2 0))
    ∷ (stepping 1 (forcing_of 3000 400 (pos 100)), refused (told 11 2 0))
    ∷ (opening 1 a_card (six_holding 7), granted 12000000)
    ∷ (opening 1 a_card (six_holding 7), refused (told 7 2 0))
    ∷ (opening 2 a_card (six_holding 7), refused (told 9 2 0))
    ∷ (stepping 1 (forcing_of 100001 400 (pos 100)), refused (told 12 3 0))
    ∷ (stepping 1 (forcing_of 3000 400 (pos 100)), granted (yields (62500 ∷ 125000 ∷ 187500 ∷ 50000 ∷ 8400 ∷ 8400 ∷ 100000 ∷ []) 428000 0 (54180000 ∷ 108360000 ∷ 162540000 ∷ [])))
    ∷ (looking 1, granted (views 31512 500 (187500 ∷ 375000 ∷ 562500 ∷ 150000 ∷ 25200 ∷ 25200 ∷ [])))
    ∷ (stepping 1 (forcing_of 3000 400 (neg_ℤ (pos 2000))), granted (yields (156250 ∷ 312500 ∷ 468750 ∷ 175000 ∷ 28550 ∷ 28550 ∷ 0 ∷ []) 428000 800000 (116960000 ∷ 233920000 ∷ 350880000 ∷ [])))
    ∷ (withdrawing 1, granted 14732600)
    ∷ (looking 1, refused (told 8 2 0))
    ∷ (withdrawing 2, refused (told 11 2 0))
    ∷ (opening 2 a_card (six_holding 7), granted 12000000)
    ∷ (reading, granted read_at_last)
    ∷ []

-- a district with a node open under 1, of which two reservoirs are full, and a book in which this much more may come in
abbrev pub with_room_for : ℕ → District
with_room_for volume = record {
  roll = open_with (record {
    card = a_card;
    moisture = 30000;
    depression = 0;
    reservoirs =
        holding 0 ∷ holding 0 ∷ holding 100000000000000 ∷ holding 100000000000000 ∷ holding 0 ∷ holding 0 ∷ [];
  })
      ∷ new ∷ [];
  cells = 64;
  book = record {
    rain = 1000000000000000000 - volume;
    rise = 0;
    brought_in = 0;
    evaporated = 0;
    discharged = 0;
    sunk = 0;
    ceded = 0;
    loads = 0 ∷ 0 ∷ 0 ∷ [];
  };
}

pub record WorkedCalls : Type 0 where
  pub run : events six_linear (new_district 1) (map (λ e. e.0) worked) ≡ worked
  -- the lower of the two full places is named
  pub no_room : (does six_linear (with_room_for 0) (stepping 1 (forcing_of 3000 400 (pos 0)))).answer ≡ refused (told 5 4 3)
  -- an opening brings 12,000,000 centilitres in
  pub opening_fits : (does six_linear (with_room_for 12000000) (opening 2 a_card (six_holding 0))).answer ≡ granted 12000000
  pub opening_past : (does six_linear (with_room_for 11999999) (opening 2 a_card (six_holding 0))).answer ≡ refused (told 10 2 0)
  -- a step of 5 mm of rain, which all evaporates from hard surface, and 0.01 mm of rising seepage brings 501,000 in
  pub step_fits : (does six_linear (with_room_for 501000) (stepping 1 (forcing_of 500 400 (pos 1)))).after.book.rise ≡ 1000
  pub step_past : (does six_linear (with_room_for 500999) (stepping 1 (forcing_of 500 400 (pos 1)))).answer ≡ refused (told 10 2 0)
