-- How to show that an answer is `Some x` exactly where P holds of x.
use Rattle.std.proofs.Common.{◌≡◌, ℕ, Some, None, ap, subst, arith}
use Rattle.decimal.specs.Reading.{SomeExactly}

module _ {X : Type 0} {P : X → Type 0} where
  pub none : ((x : X) → P x → ⊥) → SomeExactly None P
  none never x = (λ e. let z : ◌≡◌ {A = ℕ} 0 1 = cc in absurd (omega arith), λ p. absurd (never x p))

  pub some : (y : X) → P y → ((x : X) → P x → y ≡ x) → SomeExactly (Some y) P
  some y holds only x = (λ e. let is : y ≡ x = cc in subst P is holds, λ p. ap (λ v. Some v) (only x p))
