-- The forms of numbers of at most nine digits. It rests on the forms of longer numbers.
use Rattle.std.proofs.Common.{◌≡◌, ℕ, zero, suc, ◌-◌, ◌^◌, ◌<◌, ◌≤◌, List, ◌∷◌, length, ℤ, pos, negsuc, Some, None, sym, ◌∙◌, arith}
use Rattle.std.specs.Str.Iter.{LacksByte}
use Rattle.std.specs.Str.Parse.{AllDigits}
use Rattle.std.proofs.lemmas.Fmt.{length-decimal-le}
use Rattle.std.proofs.lemmas.Str.Parse.{digit_at, numerals_by_value, tells_digits, digits_value_short}
use Rattle.decimal.specs.Reading.{SomeExactly, Writes as WritesLong}
use Rattle.decimal.proofs.Exactly.{none, some}
use Rattle.decimal.proofs.Forms.{form as long_form}
use Rattle.words.specs.Laws.{signed_legible}
use Rattle.words.specs.Numbers.{Legible, Writes, WritesNatural, WritesSigned}

module _ {X : Type 0} {form : X → List ℕ} {size : X → ℕ} (legible : Legible form size) where
  pub no_space : (word : List ℕ) (x : X) → Writes form size word x → LacksByte 32 word
  no_space word x (below, e) = rw e (legible.lacks x below)

  -- a word writes one number
  pub once : (word : List ℕ) (x y : X) → Writes form size word x → Writes form size word y → x ≡ y
  once word x y (x_below, x_is) (y_below, y_is) = legible.apart x y x_below y_below (sym x_is ∙ y_is)

  pub written : (word : List ℕ) (x : X) → Writes form size word x → SomeExactly (Some x) (Writes form size word)
  written word x writes = some x writes (λ y. once word x y writes)

-- a longer number whose form has at most nine bytes is below 10 ^ 9
pub few_digits : (word : List ℕ) (n : ℕ) → WritesLong word n → length word ≤ 9 → n < 10 ^ 9
few_digits word n writes few =
    let f = long_form word n writes in
    omega (arith, f.is, digits_value_short (numerals_by_value (AllDigits 10) tells_digits) word 9 f.digits few)

pub natural_few : (word : List ℕ) (n : ℕ) → WritesNatural word n → length word ≤ 9
natural_few word n (below, e) = rw e (length-decimal-le 9 n (omega arith) below (omega arith))

-- no natural number begins with a minus
no_minus : (digits : List ℕ) (n : ℕ) → WritesNatural (45 ∷ digits) n → ⊥
no_minus digits n (below, e) = omega (arith, digit_at (45 ∷ digits) 0 (long_form (45 ∷ digits) n (omega arith, e)).digits (omega arith))

never_minus : (digits : List ℕ) → ((n : ℕ) → WritesNatural digits (suc n) → ⊥) → (z : ℤ) → WritesSigned (45 ∷ digits) z → ⊥
never_minus digits never (pos n) writes = no_minus digits n writes
never_minus digits never (negsuc n) (below, e) = never n (below, cc)

module _ {word digits : List ℕ} {b : ℕ} (first : word ≡ b ∷ digits) (minus : b ≡ 45) where
  pub minus_none : ((n : ℕ) → WritesNatural digits (suc n) → ⊥) → SomeExactly None (WritesSigned word)
  minus_none never = rw (first, minus) (none (never_minus digits never))

  pub minus_some : (size : ℕ) (z : ℤ) → 0 < size → WritesNatural digits size → z ≡ negsuc (size - 1) → SomeExactly (Some z) (WritesSigned word)
  minus_some zero z filled writes is = absurd (omega arith)
  minus_some (suc k) z filled (below, digits_are) is =
      let same : suc k - 1 ≡ k = omega arith in
      rw (is, same) (written signed_legible word (negsuc k) (below, cc))
