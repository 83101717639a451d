-- The whole grams of masses.
use Rattle.std.proofs.Common.{◌≡◌, List, [], ◌∷◌, map, refl, ap₂, arith}
use Rattle.book.specs.Books.{masses}
use Rattle.quantity.specs.declared.mass.Mass.{Mass}
use Rattle.page.specs.Printed.{grams}

pub grams_of : (ms : List Mass) → map (λ m. m.grams) ms ≡ grams (masses ms)
grams_of [] = refl
grams_of (m ∷ ms) = ap₂ (λ x xs. x ∷ xs) (let b = m.below_a_gram in omega arith) (grams_of ms)
