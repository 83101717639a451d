-- The laws of whole runs, of every make that keeps a reservoir's meaning.
use Rattle.std.proofs.Common.{◌≡◌, ℕ, zero, suc, ◌+◌, ◌≤◌, List, [], ◌∷◌, length, replicate, Ok, Err, Result, sym, ap, ◌∙◌, subst, arith}
use Rattle.std.proofs.lemmas.List.{length-replicate}
use Rattle.std.proofs.lemmas.List.Sums.{sum_by-cons}
use Rattle.quantity.specs.declared.water.Centilitres.{Centilitres}
use Rattle.reservoir.specs.Answers.{Takes}
use Rattle.reservoir.specs.Cells.{held, AtMost}
use Rattle.reservoir.specs.Meaning.{Settings, Make, Meaning, Fits}
use Rattle.reservoir.specs.declared.fault.Fault.{Fault}
use Rattle.reservoir.specs.Lists.{held_zeros}
use Rattle.routing.specs.Runs.{Taking, Run, RunsBalance, empty, takes, gives, taken_in, given_in, end_of}
use Rattle.routing.specs.Pairs.{Pair, PairRun, NoLess, MoreGivesNoLess, Together}

-- one taking keeps the number of cells and the balance
fits_after : (m : Make) → Meaning m → (s : Settings) (c d : List ℕ) (v : ℕ) (r : Result Centilitres Fault) →
    Fits m s c → Takes m s c v r d → Fits m s d
fits_after m mm s c d v (Ok g) f t = (f.0, ap length t.1.1 ∙ mm.keeps s c v f t.0)
fits_after m mm s c d v (Err e) f t = (f.0, ap length t.1.1 ∙ f.1)

balance_after : (m : Make) → Meaning m → (s : Settings) (c d : List ℕ) (v : ℕ) (r : Result Centilitres Fault) →
    Fits m s c → Takes m s c v r d → held c + takes v r ≡ gives r + held d
balance_after m mm s c d v (Ok g) f t =
    let b = mm.balance s c v f t.0 in let e = ap held t.1.1 in omega arith
balance_after m mm s c d v (Err e) f t = let h = ap held t.1.1 in omega arith

-- the balance of a run from any cells
balance_over : (m : Make) → Meaning m → (s : Settings) (c : List ℕ) (ts : List Taking) →
    Fits m s c → Run m s c ts → held c + taken_in ts ≡ given_in ts + held (end_of c ts)
balance_over m mm s c [] f r = omega arith
balance_over m mm s c (t ∷ ts) f r =
    let x = balance_after m mm s c t.after t.volume t.answer f r.0 in
    let y = balance_over m mm s t.after ts (fits_after m mm s c t.after t.volume t.answer f r.0) r.1 in
    let v = sum_by-cons (λ (k : Taking). takes k.volume k.answer) t ts in
    let w = sum_by-cons (λ (k : Taking). gives k.answer) t ts in
    omega arith

pub runs_balance : (m : Make) → Meaning m → RunsBalance m
runs_balance m mm s ts v r =
    let x = balance_over m mm s (empty m s) ts (v, length-replicate (m.size s) 0) r in
    let y = held_zeros (m.size s) in omega arith

-- one pair of takings from cells in order
pair_after : (m : Make) → Meaning m → (s : Settings) (c d e f : List ℕ) (v w : ℕ) (q r : Result Centilitres Fault) →
    Fits m s c → Fits m s d → AtMost c d → Takes m s c v q e → Takes m s d w r f → v ≤ w → Together q r →
    (gives q ≤ gives r) × AtMost e f
pair_after m mm s c d e f v w (Ok g) (Ok h) x y o t u k z =
    let l = mm.more s c d v w x y t.0 u.0 o k in
    (omega (arith, l.0), subst (λ a. AtMost a f) (sym t.1.1) (subst (λ b. AtMost (m.leaves s c v) b) (sym u.1.1) l.1))
pair_after m mm s c d e f v w (Ok g) (Err h) x y o t u k z = elim z [ ]
pair_after m mm s c d e f v w (Err g) (Ok h) x y o t u k z = elim z [ ]
pair_after m mm s c d e f v w (Err g) (Err h) x y o t u k z =
    (omega arith, subst (λ a. AtMost a f) (sym t.1.1) (subst (λ b. AtMost c b) (sym u.1.1) o))

no_less_over : (m : Make) → Meaning m → (s : Settings) (c d : List ℕ) (ps : List Pair) →
    Fits m s c → Fits m s d → AtMost c d → PairRun m s c d ps → NoLess ps
no_less_over m mm s c d [] x y o r = tt
no_less_over m mm s c d (p ∷ ps) x y o r =
    let l = pair_after m mm s c d p.first.after p.second.after p.first.volume p.second.volume
    p.first.answer p.second.answer x y o r.0 r.1.0 r.1.1.0 r.1.1.1.0 in (
      l,
      no_less_over m mm s p.first.after p.second.after ps
          (fits_after m mm s c p.first.after p.first.volume p.first.answer x r.0)
          (fits_after m mm s d p.second.after p.second.volume p.second.answer y r.1.0) l.1 r.1.1.1.1,
    )

at_most_zeros : (n : ℕ) → AtMost (replicate n 0) (replicate n 0)
at_most_zeros zero = tt
at_most_zeros (suc n) = (omega arith, at_most_zeros n)

pub more_gives_no_less : (m : Make) → Meaning m → MoreGivesNoLess m
more_gives_no_less m mm s ps v r =
    let f : Fits m s (empty m s) = (v, length-replicate (m.size s) 0) in
    no_less_over m mm s (empty m s) (empty m s) ps f f (at_most_zeros (m.size s)) r
