-- Two reservoirs in series keep a reservoir's meaning where both do.
use Rattle.std.specs.Prelude.{ℕ, ◌≤◌, List, ◌++◌, length, take, drop}
use Rattle.std.proofs.Common.{arith}
use Rattle.std.proofs.lemmas.List.{length-append, length-take-le, length-drop}
use Rattle.reservoir.specs.Meaning.{Settings, joined, Make, Meaning, Fits, Accepts}
use Rattle.reservoir.specs.Makes.{series, of_first, of_second}
use Rattle.reservoir.specs.Lists.{held-++, held_split, at_most_take, at_most_drop, at_most-++}

-- What a series of two makes with a meaning knows of its parts: x is the settings and cells of the first,
-- y of the second, g what the first gives.
record Parts (m n : Make) (s : Settings) (c : List ℕ) (v : ℕ) : Type 0 where
  first : Fits m (of_first s) (take (m.size (of_first s)) c)
  second : Fits n (of_second s) (drop (m.size (of_first s)) c)
  room : Accepts (take (m.size (of_first s)) c) v
  passes : Accepts (drop (m.size (of_first s)) c) (m.gives (of_first s) (take (m.size (of_first s)) c) v)

parts : (m n : Make) → Meaning m → (s : Settings) (c : List ℕ) (v : ℕ) → Fits (series m n) s c → Accepts c v → Parts m n s c v
parts m n mm s c v f r =
    let k = m.size (of_first s) in
    let h : k ≤ length c = omega arith in
    let a : Fits m (of_first s) (take k c) = (f.0.0, length-take-le k c h) in
    let l = length-drop k c in
    let t = held_split k c in
    let q : Accepts (take k c) v = omega arith in
    let b = mm.balance (of_first s) (take k c) v a q in
    record { first = a; second = (f.0.1, omega arith); room = q; passes = omega arith }

pub series_meaning : {m n : Make} → Meaning m → Meaning n → Meaning (series m n)
series_meaning {m} {n} mm mn = record {
  keeps = λ s c v f r.
      let p = parts m n mm s c v f r in
      let a = take (m.size (of_first s)) c in
      let b = drop (m.size (of_first s)) c in
      let x = mm.keeps (of_first s) a v p.first p.room in
      let y = mn.keeps (of_second s) b (m.gives (of_first s) a v) p.second p.passes in
      let z = length-append (m.leaves (of_first s) a v) (n.leaves (of_second s) b (m.gives (of_first s) a v)) in omega arith;
  balance = λ s c v f r.
      let p = parts m n mm s c v f r in
      let a = take (m.size (of_first s)) c in
      let b = drop (m.size (of_first s)) c in
      let x = mm.balance (of_first s) a v p.first p.room in
      let y = mn.balance (of_second s) b (m.gives (of_first s) a v) p.second p.passes in
      let t = held_split (m.size (of_first s)) c in
      let z = held-++ (m.leaves (of_first s) a v) (n.leaves (of_second s) b (m.gives (of_first s) a v)) in omega arith;
  more = λ s c d v w f g r q h k.
      let p = parts m n mm s c v f r in
      let o = parts m n mm s d w g q in
      let i = m.size (of_first s) in
      let x = mm.more (of_first s) (take i c) (take i d) v w p.first o.first p.room o.room (at_most_take i c d h) k in
      let y = mn.more (of_second s) (drop i c) (drop i d) (m.gives (of_first s) (take i c) v) (m.gives (of_first s) (take i d) w)
      p.second o.second p.passes o.passes (at_most_drop i c d h) x.0 in (
        y.0,
        at_most-++ (m.leaves (of_first s) (take i c) v) (m.leaves (of_first s) (take i d) w)
            (n.leaves (of_second s) (drop i c) (m.gives (of_first s) (take i c) v))
            (n.leaves (of_second s) (drop i d) (m.gives (of_first s) (take i d) w)) x.1 y.1,
      );
}

pub series_fits : (m n : Make) (s t : Settings) (c d : List ℕ) → Fits m s c → Fits n t d → Fits (series m n) (joined s t) (c ++ d)
series_fits m n s t c d f g = let l = length-append c d in ((f.0, g.0), omega arith)
