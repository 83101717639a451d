-- The forms of natural and of signed numbers are legible.
use Rattle.std.specs.Prelude.{ℕ, zero, suc, ◌^◌, ◌<◌, List, ◌∷◌, ℤ, pos, negsuc, decimal, unsigned_abs}
use Rattle.std.specs.Fmt.{signed_decimal}
use Rattle.std.specs.Str.Iter.{LacksByte}
use Rattle.std.proofs.Common.{arith}
use Rattle.std.proofs.lemmas.Fmt.{decimal_injective, signed_decimal_injective}
use lib.Signed.{mag}
use Rattle.decimal.proofs.Forms.{decimal_lacks_space}
use Rattle.words.specs.Numbers.{Legible}

pub natural_legible : Legible decimal (λ n. n)
natural_legible = record {
  lacks = λ n below. decimal_lacks_space n (omega arith);
  apart = λ m n m_below n_below e. decimal_injective m n (omega arith) (omega arith) e;
}

minus_lacks : (digits : List ℕ) → LacksByte 32 digits → LacksByte 32 (45 ∷ digits)
minus_lacks digits lacks zero lt = λ is. omega arith
minus_lacks digits lacks (suc k) lt = lacks k (omega arith)

signed_lacks : (z : ℤ) → unsigned_abs z < 10 ^ 9 → LacksByte 32 (signed_decimal z)
signed_lacks (pos n) below = natural_legible.lacks n below
signed_lacks (negsuc n) below = minus_lacks (decimal (suc n)) (natural_legible.lacks (suc n) below)

small : (z : ℤ) → unsigned_abs z < 10 ^ 9 → mag z < 2 ^ 63
small (pos n) below = omega arith
small (negsuc n) below = omega arith

pub signed_legible : Legible signed_decimal unsigned_abs
signed_legible = record {
  lacks = signed_lacks;
  apart = λ y z y_below z_below e. signed_decimal_injective y z (small y y_below) (small z z_below) e;
}
