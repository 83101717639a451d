-- The numbers of a book, and what its accounts make of a sum: one past the largest volume or mass is the largest.
use Rattle.std.specs.Prelude.{ℕ, ◌+◌, ◌-◌, ◌*◌, ◌^◌, min, List, [], ◌∷◌, map}
use Rattle.model.specs.State as model
use Rattle.node.specs.Rules.{Yielded}
use Rattle.places.specs.Laws.{total}
use Rattle.quantity.specs.Amounts.{gram, tenths_of}
use Rattle.quantity.specs.declared.mass.Mass.{Mass}
use Rattle.book.specs.declared.book.Book.{Book}

-- masses in tenths of a microgram
abbrev pub masses : List Mass → List ℕ
masses ms = map (λ m. tenths_of m.grams m.rest) ms

abbrev pub book_of : Book → model.Book
book_of b = record {
  rain = b.rain.0;
  rise = b.rise.0;
  brought_in = b.brought_in.0;
  evaporated = b.evaporated.0;
  discharged = b.discharged.0;
  sunk = b.sunk.0;
  ceded = b.ceded.0;
  loads = masses b.loads;
}

abbrev pub plus_water : ℕ → ℕ → ℕ
plus_water a b = min (a + b) (2 ^ 64 - 1)

abbrev pub plus_mass : ℕ → ℕ → ℕ
plus_mass a b = min (a + b) (2 ^ 64 * gram - 1)

-- to each mass the load of the same nutrient
abbrev pub plus_masses : List ℕ → List ℕ → List ℕ
plus_masses [] more = []
plus_masses (l ∷ ls) [] = l ∷ ls
plus_masses (l ∷ ls) (m ∷ more) = plus_mass l m ∷ plus_masses ls more

-- The book after an opening, a step and a withdrawal.
abbrev pub opening_kept : model.Book → ℕ → model.Book
opening_kept b volume = record {
  rain = b.rain;
  rise = b.rise;
  brought_in = plus_water b.brought_in volume;
  evaporated = b.evaporated;
  discharged = b.discharged;
  sunk = b.sunk;
  ceded = b.ceded;
  loads = b.loads;
}

abbrev pub step_kept : model.Book → ℕ → ℕ → Yielded → model.Book
step_kept b rain rise y = record {
  rain = plus_water b.rain rain;
  rise = plus_water b.rise rise;
  brought_in = b.brought_in;
  evaporated = plus_water b.evaporated y.evaporated;
  discharged = plus_water b.discharged (total y.flows);
  sunk = plus_water b.sunk y.sunk;
  ceded = b.ceded;
  loads = plus_masses b.loads y.loads;
}

abbrev pub withdrawal_kept : model.Book → ℕ → model.Book
withdrawal_kept b volume = record {
  rain = b.rain;
  rise = b.rise;
  brought_in = b.brought_in;
  evaporated = b.evaporated;
  discharged = b.discharged;
  sunk = b.sunk;
  ceded = plus_water b.ceded volume;
  loads = b.loads;
}
