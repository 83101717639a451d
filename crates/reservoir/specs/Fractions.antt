-- A linear reservoir keeps a reservoir's meaning.
use Rattle.std.specs.Prelude.{◌≡◌, ℕ, ◌+◌, ◌-◌, ◌*◌, ◌≤◌, List, [], ◌∷◌, length, slice_index, refl}
use Rattle.std.proofs.Common.{◌∙◌, ap, mul-le-mul_right, mul-add, arith}
use Rattle.reservoir.specs.Cells.{held}
use Rattle.reservoir.specs.Meaning.{Meaning, Fits}
use Rattle.reservoir.specs.Makes.{linear, fractions, kept, setting}
use Rattle.reservoir.specs.Lists.{at_most_first}

-- no more is kept than there is
pub kept_at_most : (a b s v : ℕ) → a ≤ b → b ≤ 65535 → kept a b s v ≤ s + v
kept_at_most a b s v h k =
    let x : a * s ≤ 65535 * s = mul-le-mul_right s (omega arith) in
    let y : b * v ≤ 65535 * v = mul-le-mul_right v k in omega arith

-- a fraction of more is at least as much, and grows by no more than the whole does
grows : (a s t : ℕ) → a ≤ 65535 → s ≤ t → (a * s ≤ a * t) × (a * t ≤ a * s + 65535 * (t - s))
grows a s t h k =
    let e : t ≡ s + (t - s) = omega arith in
    let x : a * (t - s) ≤ 65535 * (t - s) = mul-le-mul_right (t - s) h in
    let f : a * t ≡ a * s + a * (t - s) = ap (λ n. a * n) e ∙ mul-add a s (t - s) in (omega arith, omega arith)

-- of more, at least as much is given and at least as much is kept
kept_more : (a b s t v w : ℕ) → a ≤ b → b ≤ 65535 → s ≤ t → v ≤ w →
    ((s + v) - kept a b s v ≤ (t + w) - kept a b t w) × (kept a b s v ≤ kept a b t w)
kept_more a b s t v w h k i j =
    let x = grows a s t (omega arith) i in
    let y = grows b v w k j in (omega arith, omega arith)

held_one : (c : List ℕ) → length c ≡ 1 → held c ≡ slice_index c 0
held_one [] h = omega arith
held_one (x ∷ []) h = omega arith
held_one (x ∷ y ∷ ys) h = omega arith

pub linear_meaning : Meaning linear
linear_meaning = record {
  keeps = λ s c v f r. refl;
  balance = λ s c v f r.
      let x = kept_at_most (setting 0 s) (setting 1 s) (slice_index c 0) v f.0.0 f.0.1 in
      let y = held_one c f.1 in omega arith;
  more = λ s c d v w f g r q h k.
      let x = kept_more (setting 0 s) (setting 1 s) (slice_index c 0) (slice_index d 0) v w f.0.0 f.0.1 (at_most_first c d h) k in
      (x.0, (x.1, tt));
}

pub linear_fits : (recession retention storage : ℕ) → (recession ≤ retention) × (retention ≤ 65535) →
    Fits linear (fractions recession retention) (storage ∷ [])
linear_fits recession retention storage valid = (valid, refl)
