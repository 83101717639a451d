-- The kinds of worked figures, and what it means that a figure holds of the engine's rules.
use Rattle.std.specs.Prelude.{◌≡◌, ℕ, ◌<◌, List, map, ℤ, Ok, Err, Result}
use Rattle.std.specs.List.{AllByRecursion}
use Rattle.ground.specs.Rules.{Soaked, soaked}
use Rattle.ground.specs.declared.forcing.Forcing.{Forcing}
use Rattle.ground.specs.declared.soil.Soil.{Soil}
use Rattle.quantity.specs.Amounts.{load_of, gram, tenths_of}
use Rattle.quantity.specs.declared.water.Centilitres.{Centilitres}
use Rattle.reservoir.specs.Cells.{held}
use Rattle.reservoir.specs.Makes.{linear, lag, series, fractions, steps}
use Rattle.reservoir.specs.Meaning.{Settings, joined, Make}
use Rattle.reservoir.specs.declared.fault.Fault.{Fault}
use Rattle.routing.specs.Runs.{Taking, Run, empty, end_of}

-- a reservoir by its make and settings
pub data Kind : Type 0 where
  linear_of : ℕ → ℕ → Kind
  lag_of : ℕ → Kind
  series_of : Kind → Kind → Kind

abbrev pub make_of : Kind → Make
make_of (linear_of a b) = linear
make_of (lag_of n) = lag
make_of (series_of k l) = series (make_of k) (make_of l)

abbrev pub settings_of : Kind → Settings
settings_of (linear_of a b) = fractions a b
settings_of (lag_of n) = steps n
settings_of (series_of k l) = joined (settings_of k) (settings_of l)

-- what is seen of a taking: the volume, and what was given or that it was refused
pub data Seen : Type 0 where
  gives : ℕ → ℕ → Seen
  refused : ℕ → Seen

abbrev pub seen : ℕ → Result Centilitres Fault → Seen
seen volume (Ok given) = gives volume given.0
seen volume (Err fault) = refused volume

abbrev pub seen_in : List Taking → List Seen
seen_in ts = map (λ t. seen t.volume t.answer) ts

pub data Figure : Type 0 where
  -- a reservoir from empty: what is seen of its takings, and what it holds afterwards
  from_empty : Kind → List Seen → ℕ → Figure
  -- a step of the ground of a soil, from a moisture and a depression storage, under a forcing
  soaks : Soil → ℕ → ℕ → Forcing → Soaked → Figure
  -- a volume in centilitres at a concentration in hundredths of a mg/l: the grams and the rest that it carries
  carries : ℕ → ℕ → ℕ → ℕ → Figure

-- a soil by its numbers in order: wilting point, field capacity, saturation, the limits of infiltration, percolation and
-- depression storage, crop factor and slow share
abbrev pub soil_of : ℕ → ℕ → ℕ → ℕ → ℕ → ℕ → ℕ → ℕ → Soil
soil_of w f s i p d c l = record {
  wilting_point = record { 0 = w };
  field_capacity = record { 0 = f };
  saturation = record { 0 = s };
  infiltration_limit = record { 0 = i };
  percolation_limit = record { 0 = p };
  depression_limit = record { 0 = d };
  crop_factor = c;
  slow_share = l;
}

-- a forcing: rain, evaporation and seepage
abbrev pub forcing_of : ℕ → ℕ → ℤ → Forcing
forcing_of p e k = record { rain = record { 0 = p }; evaporation = record { 0 = e }; seepage = k }

-- the rules give this figure
abbrev pub Holds : Figure → Type 0
Holds (from_empty k os h) =
    (make_of k).Valid (settings_of k)
    × ((ts : List Taking) × (Run (make_of k) (settings_of k) (empty (make_of k) (settings_of k)) ts
    × ((seen_in ts ≡ os) × (held (end_of (empty (make_of k) (settings_of k)) ts) ≡ h))))
Holds (soaks soil moisture depression forcing result) = soaked soil moisture depression forcing ≡ result
Holds (carries volume concentration grams rest) = (load_of volume concentration ≡ tenths_of grams rest) × (rest < gram)

-- the rules give every figure of a table
abbrev pub AllHold : List Figure → Type 0
AllHold figures = AllByRecursion Holds figures
