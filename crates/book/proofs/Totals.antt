-- In a sound district every total is far below the largest of its account, so that no sum is cut off.
use Rattle.std.proofs.Common.{◌≡◌, ℕ, ◌+◌, ◌*◌, ◌^◌, ◌<◌, ◌≤◌, List, [], ◌∷◌, refl, arith}
use Rattle.std.specs.List.{AllByRecursion}
use Rattle.std.proofs.ByRecursion.{All-weaker}
use Rattle.card.specs.Limits.{largest_concentration}
use Rattle.model.specs.Booking.{plus_loads, book_opening, book_step, book_withdrawal}
use Rattle.model.specs.Soundness.{Sound}
use Rattle.model.specs.State.{Standing, Book, largest_income}
use Rattle.card.specs.declared.card.Card.{Card}
use Rattle.ground.specs.declared.forcing.Forcing.{Forcing}
use Rattle.node.specs.Rules.{Yielded, rained, risen}
use Rattle.places.specs.Laws.{total}
use Rattle.quantity.specs.Amounts.{gram}
use Rattle.reservoir.specs.Meaning.{Make}
use Rattle.book.specs.Books.{plus_water, plus_mass, plus_masses, opening_kept, step_kept, withdrawal_kept}

-- sums of loads
exact_loads : (xs ys : List ℕ) → AllByRecursion (λ l. l < 2 ^ 64 * gram) (plus_loads xs ys) → plus_masses xs ys ≡ plus_loads xs ys
exact_loads [] ys h = refl
exact_loads (x ∷ xs) [] h = refl
exact_loads (x ∷ xs) (y ∷ ys) h =
    let a : plus_mass x y ≡ x + y = omega (arith, h.0) in
    let b = exact_loads xs ys h.1 in cc

module _ (makes : List Make) (roll : List Standing) (cells : ℕ) (b : Book) where
  pub opening_exact : (v : ℕ) → Sound makes (record { roll = roll; cells = cells; book = book_opening b v }) → opening_kept b v ≡ book_opening b v
  opening_exact v s = let e : plus_water b.brought_in v ≡ b.brought_in + v = omega (arith, s.within) in cc

  pub withdrawal_exact : (v : ℕ) → Sound makes (record { roll = roll; cells = cells; book = book_withdrawal b v }) → withdrawal_kept b v ≡ book_withdrawal b v
  withdrawal_exact v s = let e : plus_water b.ceded v ≡ b.ceded + v = omega (arith, s.closes, s.within) in cc

  pub step_exact : (c : Card) (f : Forcing) (y : Yielded) → Sound makes (record { roll = roll; cells = cells; book = book_step b c f y }) →
      step_kept b (rained c f) (risen c f) y ≡ book_step b c f y
  step_exact c f y s =
      let closes = s.closes in
      let within = s.within in
      let rain : plus_water b.rain (rained c f) ≡ b.rain + rained c f = omega arith in
      let rise : plus_water b.rise (risen c f) ≡ b.rise + risen c f = omega arith in
      let evaporated : plus_water b.evaporated y.evaporated ≡ b.evaporated + y.evaporated = omega arith in
      let discharged : plus_water b.discharged (total y.flows) ≡ b.discharged + total y.flows = omega arith in
      let sunk : plus_water b.sunk y.sunk ≡ b.sunk + y.sunk = omega arith in
      let most : b.discharged + total y.flows ≤ largest_income = omega arith in
      let loads = exact_loads b.loads y.loads
      (All-weaker (λ l. l ≤ largest_concentration * (b.discharged + total y.flows)) (λ l. l < 2 ^ 64 * gram) (λ l h. omega arith) _ s.loads) in
      cc
