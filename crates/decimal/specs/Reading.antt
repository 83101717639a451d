-- What the functions of this crate answer.
-- The standard library has `decimal n`, the bytes that `{n}` prints, and `join_with_byte 32`, which puts a space (the byte 32) between each two of its pieces.
use Rattle.std.specs.Prelude.{◌≡◌, ℕ, ◌^◌, ◌<◌, ◌↔◌, List, [], ◌∷◌, map, length, Some, None, decimal, Option}
use Rattle.std.specs.Borrow.{Bor}
use Rattle.std.specs.List.{join_with_byte, AllByRecursion}

-- For every x, the answer is `Some x` if and only if P holds of x. So it is `None` exactly where P holds of no x.
abbrev pub SomeExactly : {X : Type 0} → Option X → (X → Type 0) → Type 0
SomeExactly {X} r P = (x : X) → (r ≡ Some x) ↔ P x

-- The word is the decimal form of n, and n is below 10 ^ 18.
abbrev pub Writes : List ℕ → ℕ → Type 0
Writes word n = (n < 10 ^ 18) × (word ≡ decimal n)

-- The numbers ns are `count` in number, each is below 10 ^ 18, and the line is their decimal forms with one space between each two.
abbrev pub WritesAll : ℕ → List ℕ → List ℕ → Type 0
WritesAll count line ns = (length ns ≡ count) × AllByRecursion (λ n. n < 10 ^ 18) ns × (line ≡ join_with_byte 32 (map decimal ns))

-- What a line has after its first word: a space and the rest, or nothing.
abbrev pub after_space : Option (Bor (List ℕ)) → List ℕ
after_space None = []
after_space (Some rest) = 32 ∷ rest.now
