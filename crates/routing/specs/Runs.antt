-- Runs of a reservoir, and its water balance over them.
use Rattle.std.specs.Prelude.{◌≡◌, ℕ, ◌+◌, List, [], ◌∷◌, replicate, sum_by, Ok, Err, Result}
use Rattle.quantity.specs.declared.water.Centilitres.{Centilitres}
use Rattle.reservoir.specs.Answers.{Takes}
use Rattle.reservoir.specs.Cells.{held}
use Rattle.reservoir.specs.Meaning.{Settings, Make}
use Rattle.reservoir.specs.declared.fault.Fault.{Fault}

-- one taking as it is seen from outside: the volume offered, the answer, and the cells afterwards
pub record Taking : Type 0 where
  pub volume : ℕ
  pub answer : Result Centilitres Fault
  pub after : List ℕ

-- the cells of a reservoir that is empty
abbrev pub empty : Make → Settings → List ℕ
empty make s = replicate (make.size s) 0

-- the takings, in this order, are those of a reservoir with settings s and, at first, cells c
abbrev pub Run : Make → Settings → List ℕ → List Taking → Type 0
Run make s c [] = Unit {0}
Run make s c (t ∷ ts) = Takes make s c t.volume t.answer t.after × Run make s t.after ts

-- what one taking took, and what it gave: nothing where it was refused
abbrev pub takes : ℕ → Result Centilitres Fault → ℕ
takes volume (Ok given) = volume
takes volume (Err fault) = 0

abbrev pub gives : Result Centilitres Fault → ℕ
gives (Ok given) = given.0
gives (Err fault) = 0

-- everything taken and everything given in a run
abbrev pub taken_in : List Taking → ℕ
taken_in ts = sum_by (λ t. takes t.volume t.answer) ts

abbrev pub given_in : List Taking → ℕ
given_in ts = sum_by (λ t. gives t.answer) ts

-- the cells at the end of a run from cells c
abbrev pub end_of : List ℕ → List Taking → List ℕ
end_of c [] = c
end_of c (t ∷ ts) = end_of t.after ts

-- The balance of runs: of a reservoir that was empty, after any list of takings, refused ones among them,
-- everything taken is everything given and what is held.
abbrev pub RunsBalance : Make → Type 0
RunsBalance make = (s : Settings) (ts : List Taking) → make.Valid s → Run make s (empty make s) ts →
    taken_in ts ≡ given_in ts + held (end_of (empty make s) ts)
