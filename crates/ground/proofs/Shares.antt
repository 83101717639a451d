-- A share of p parts in k, rounded down.
use Rattle.std.proofs.Common.{◌≡◌, ℕ, ◌+◌, ◌-◌, ◌*◌, ◌/◌, ◌<◌, ◌≤◌, le_trans, mul-le-mul_right, mul-le-mul_left, le-div_iff_mul-le, div-mul-le_self, arith}
use native.Mathlib.Nat.{add-mul-div_left, div-le_of_le-mul}

-- a quotient grows with its dividend
div_more : (k a b : ℕ) → 0 < k → a ≤ b → a / k ≤ b / k
div_more k a b pos le = (le-div_iff_mul-le pos).1 (le_trans (div-mul-le_self a k) le)

-- the share grows with the whole
pub share_more : (p k d e : ℕ) → 0 < k → d ≤ e → p * d / k ≤ p * e / k
share_more p k d e pos le = div_more k (p * d) (p * e) pos (mul-le-mul_left p le)

-- and by no more than the whole does
pub share_slower : (p k d e : ℕ) → 0 < k → p ≤ k → d ≤ e → p * e / k ≤ p * d / k + (e - d)
share_slower p k d e pos part le =
    let whole : d + (e - d) ≡ e = omega arith in
    let grows : p * (d + (e - d)) ≤ p * d + k * (e - d) = omega (arith, mul-le-mul_right (e - d) part) in
    let slower = div_more k (p * (d + (e - d))) (p * d + k * (e - d)) pos grows in
    rw (add-mul-div_left (p * d) (e - d) pos, whole) at slower

-- the share is no more than the whole
pub share_within : (p k d : ℕ) → p ≤ k → p * d / k ≤ d
share_within p k d part = div-le_of_le-mul k (mul-le-mul_right d part)
