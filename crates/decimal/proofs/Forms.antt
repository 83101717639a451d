-- The decimal forms of the numbers below 10 ^ 18. It rests on the library's lemmas of printed numbers and of digits.
use Rattle.std.proofs.Common.{◌≡◌, ℕ, ◌-◌, ◌^◌, ◌<◌, ◌≤◌, List, length, get_or, take, Some, None, decimal, Option, sym, refl, ap, ◌∙◌, subst, ⊎_elim, arith, length-take, rules}
use Rattle.std.specs.Option.{SomeIff}
use Rattle.std.specs.Str.Iter.{LacksByte}
use Rattle.std.specs.Str.Parse.{AllDigits, digits_value}
use Rattle.std.specs.Int.{IsInRange}
use Rattle.std.specs.Char.{digit_value as digit_of}
use Rattle.std.proofs.lemmas.Fmt.{decimal_is_IsNumeral, decimal_digit, decimal-digits_value, first_decimal, length-decimal-le}
use Rattle.std.proofs.lemmas.Str.Parse.{IsNumeralModel, numerals_by_value, tells_digits, digits_value_short, not_in_digits}
use Rattle.std.proofs.lemmas.Bool.{cases_eq}
use Rattle.decimal.specs.Reading.{SomeExactly, Writes}
use Rattle.decimal.proofs.Exactly.{none, some}

own : IsNumeralModel (AllDigits 10) (digits_value 10)
own = numerals_by_value (AllDigits 10) tells_digits

-- fewer than 18 digits have a value below 10 ^ 17, so that one more digit fits
pub room : (word : List ℕ) (i : ℕ) → i < 18 → AllDigits 10 (take i word) → digits_value 10 (take i word) < 10 ^ 17
room word i few digits = digits_value_short own (take i word) 17 digits (simp length-take (omega arith))

pub digit_value : (b : ℕ) → IsInRange 48 57 b → digit_of b ≡ b - 48
digit_value b digit = search rules

-- the word is 1 to 18 digits of value n, with no leading zero
pub record Form (word : List ℕ) (n : ℕ) : Type 0 where
  pub filled : 0 < length word
  pub few : length word ≤ 18
  pub lead : get_or word 0 0 ≡ 48 → length word ≡ 1
  pub digits : AllDigits 10 word
  pub is : digits_value 10 word ≡ n

pub form : (word : List ℕ) (n : ℕ) → Writes word n → Form word n
form word n (below, e) =
    let fits : n < 2 ^ 64 = omega arith in
    let reads = decimal_is_IsNumeral n fits in
    subst (λ w. Form w n) (sym e) (record {
      filled = reads.0.0;
      few = length-decimal-le 18 n (omega arith) below fits;
      lead = λ zero.
          ⊎_elim
          (λ is. ap (λ m. length (decimal m)) is ∙ ap length (decimal_digit 0 (omega arith)))
          (λ is. absurd (omega (arith, first_decimal n (omega arith) fits)))
          (cases_eq n 0);
      digits = reads.0.1;
      is = reads.1;
    })

pub digits_read :
    (word : List ℕ) (r : Option ℕ) → 0 < length word → length word ≤ 18 → (get_or word 0 0 ≡ 48 → length word ≡ 1)
    → SomeIff r (AllDigits 10 word) (digits_value 10 word) → SomeExactly r (Writes word)
digits_read word None filled few lead never = none (λ n writes. never (form word n writes).digits)
digits_read word (Some m) filled few lead (digits, is) =
    let below : digits_value 10 word < 10 ^ 18 = digits_value_short own word 18 digits few in
    some m
    (omega arith, sym (decimal-digits_value own word digits filled lead (omega arith)) ∙ ap decimal (sym is))
    (λ n writes. is ∙ (form word n writes).is)

pub decimal_lacks_space : (n : ℕ) → n < 10 ^ 18 → LacksByte 32 (decimal n)
decimal_lacks_space n below = not_in_digits own (decimal n) 32 (form (decimal n) n (below, refl)).digits (λ digit. omega arith)
