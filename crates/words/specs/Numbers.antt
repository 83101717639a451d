-- Numbers as words, of at most nine digits. The standard library has `decimal n` and `signed_decimal z`, the bytes that `{n}`
-- and `{z}` print, and `unsigned_abs z`, the size of z without its sign.
use Rattle.std.specs.Prelude.{◌≡◌, ℕ, ◌^◌, ◌<◌, List, ◌∷◌, map, length, ℤ, decimal, unsigned_abs}
use Rattle.std.specs.Fmt.{signed_decimal}
use Rattle.std.specs.Str.Iter.{LacksByte}
use Rattle.std.specs.List.{flat_map, AllByRecursion}

-- The word is the form of x, whose size has at most nine digits.
abbrev pub Writes : {X : Type 0} → (X → List ℕ) → (X → ℕ) → List ℕ → X → Type 0
Writes form size word x = (size x < 10 ^ 9) × (word ≡ form x)

-- The word is the decimal form of n, which has at most nine digits.
abbrev pub WritesNatural : List ℕ → ℕ → Type 0
WritesNatural = Writes decimal (λ n. n)

-- The word is the signed decimal form of z, which has at most nine digits.
abbrev pub WritesSigned : List ℕ → ℤ → Type 0
WritesSigned = Writes signed_decimal unsigned_abs

-- Of numbers of at most nine digits, no form has a space in it, and no two have one form.
pub record Legible {X : Type 0} (form : X → List ℕ) (size : X → ℕ) : Type 0 where
  pub lacks : (x : X) → size x < 10 ^ 9 → LacksByte 32 (form x)
  pub apart : (x y : X) → size x < 10 ^ 9 → size y < 10 ^ 9 → form x ≡ form y → x ≡ y

-- words, each after one space
abbrev pub spaced : List (List ℕ) → List ℕ
spaced words = flat_map (λ w. 32 ∷ w) words

-- The numbers xs are `count` in number, each has at most nine digits, and the bytes are their forms, each after one space.
abbrev pub WritesAll : {X : Type 0} → (X → List ℕ) → (X → ℕ) → ℕ → List ℕ → List X → Type 0
WritesAll form size count bytes xs = (length xs ≡ count) × AllByRecursion (λ x. size x < 10 ^ 9) xs × (bytes ≡ spaced (map form xs))

-- The numbers ns are `count` in number, each has at most nine digits, and the bytes are their decimal forms, each after one space.
abbrev pub WritesNaturals : ℕ → List ℕ → List ℕ → Type 0
WritesNaturals = WritesAll decimal (λ n. n)
