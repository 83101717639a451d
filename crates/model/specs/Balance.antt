-- The water balance of a reading, and of what one reading has beyond another.
use Rattle.std.specs.Prelude.{◌≡◌, ℕ, ◌+◌, ℤ, pos, ◌+ℤ◌, ◌-ℤ◌}
use Rattle.model.specs.Calls.{Reading}

-- what came in is what left and what is stored
abbrev pub Closes : Reading → Type 0
Closes r =
    r.totals.rain + r.totals.rise + r.totals.brought_in
    ≡ r.totals.evaporated + r.totals.discharged + r.totals.sunk + r.totals.ceded + r.storage

-- the difference of two numbers, with its sign
abbrev pub from_to : ℕ → ℕ → ℤ
from_to a b = pos b -ℤ pos a

-- the same equation of the differences between two readings
abbrev pub ClosesBetween : Reading → Reading → Type 0
ClosesBetween q r =
    from_to q.totals.rain r.totals.rain
    +ℤ from_to q.totals.rise r.totals.rise
    +ℤ from_to q.totals.brought_in r.totals.brought_in
    ≡ from_to q.totals.evaporated r.totals.evaporated
    +ℤ from_to q.totals.discharged r.totals.discharged
    +ℤ from_to q.totals.sunk r.totals.sunk
    +ℤ from_to q.totals.ceded r.totals.ceded
    +ℤ from_to q.storage r.storage
