-- Why a call is refused, and the three numbers that say it: the cause, the layer that refuses, and the place of a
-- reservoir, 0 where there is none.
use Rattle.std.specs.Prelude.{ℕ, suc, ◌+◌, Bool, cond, ◌&&◌, List, [], ◌∷◌, pos, neg_ℤ, Ok, Err, Result, int_le, nat_le}
use Rattle.ground.specs.declared.forcing.Forcing.{Forcing}
use Rattle.node.specs.Faults.{step_refusal}
use Rattle.node.specs.Rules.{inflows, soaking}
use Rattle.node.specs.Stores.{Store}
use Rattle.node.specs.declared.fault.StepFault.{StepFault}
use Rattle.places.specs.States.{State}
use Rattle.reservoir.specs.Cells.{capacity, held}
use Rattle.reservoir.specs.declared.fault.Refusal.{Refusal}

-- the district's own causes; it is layer 2
abbrev pub by_district : ℕ → Refusal
by_district cause = record { cause = cause; layer = 2; place = 0 }

abbrev pub number_outside : Refusal
number_outside = by_district 6

abbrev pub number_open : Refusal
number_open = by_district 7

abbrev pub number_withdrawn : Refusal
number_withdrawn = by_district 8

abbrev pub no_unused_cell : Refusal
no_unused_cell = by_district 9

abbrev pub income_too_large : Refusal
income_too_large = by_district 10

abbrev pub number_new : Refusal
number_new = by_district 11

-- a node's cause, and a reservoir's at its place
abbrev pub forcing_out_of_range : Refusal
forcing_out_of_range = record { cause = 12; layer = 3; place = 0 }

abbrev pub no_room_at : ℕ → Refusal
no_room_at place = record { cause = 5; layer = 4; place = place }

-- Whether a node would make a step.
pub data Verdict : Type 0 where
  would_step : Verdict
  would_refuse : Refusal → Verdict

abbrev pub in_range : Forcing → Bool
in_range f =
    nat_le f.rain.0 100000
    && (nat_le f.evaporation.0 10000
    && (int_le (neg_ℤ (pos 10000)) f.seepage
    && int_le f.seepage (pos 10000)))

-- The reservoirs are asked in the order of their places, from a place on, and the first without room for its volume refuses.
-- A volume without a reservoir is refused too, and a reservoir without a volume refuses.
abbrev pub asked_for_room : ℕ → List State → List ℕ → Verdict
asked_for_room place [] [] = would_step
asked_for_room place [] (v ∷ vs) = would_refuse (no_room_at place)
asked_for_room place (s ∷ ss) [] = would_refuse (no_room_at place)
asked_for_room place (s ∷ ss) (v ∷ vs) =
    cond (nat_le (held s.cells + v) capacity) (asked_for_room (suc place) ss vs) (would_refuse (no_room_at place))

-- a node looks at the forcing first, then asks its reservoirs
unfoldable pub verdict : Store → Forcing → Verdict
verdict n f =
    cond (in_range f) (asked_for_room 1 n.reservoirs (inflows n.card f (soaking n f))) (would_refuse forcing_out_of_range)

-- the verdict that a node's own answer to an offered step tells
abbrev pub verdict_told : Result (Unit {0}) StepFault → Verdict
verdict_told (Ok done) = would_step
verdict_told (Err fault) = would_refuse (step_refusal fault)
