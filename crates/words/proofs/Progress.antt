-- What `numbers` has read.
use Rattle.std.proofs.Common.{◌≡◌, ℕ, zero, suc, ◌+◌, ◌^◌, ◌<◌, List, [], ◌∷◌, ◌++◌, map, length, get_or, take, drop, set, replicate, None, Some, refl, ap, ◌∙◌, subst, arith, length-set}
use Rattle.std.specs.List.{AllByRecursion}
use Rattle.std.proofs.ByRecursion.{All-get_or, All-push}
use Rattle.std.proofs.lemmas.List.{append-nil, append_assoc, at_drop_more, at_drop_all, drop_all, drop_more, flat_map_more, map_push, nil_from_length, take_all, take_more_set}
use Rattle.decimal.specs.Reading.{SomeExactly}
use Rattle.decimal.proofs.Exactly.{none, some}
use Rattle.words.specs.Numbers.{Legible, Writes, WritesAll, spaced}
use Rattle.words.specs.Readings.{NextNumber, NoNumber}
use Rattle.words.proofs.Numbers.{form_of, not_unread, read_next}

-- the forms, each after a space
abbrev forms : {X : Type 0} → (X → List ℕ) → List X → List ℕ
forms form xs = spaced (map form xs)

abbrev Small : {X : Type 0} → (X → ℕ) → X → Type 0
Small size x = size x < 10 ^ 9

-- natural numbers of at most nine digits, as zeros are
abbrev Below : List ℕ → Type 0
Below ns = AllByRecursion (Small (λ n. n)) ns

zeros_below : (count : ℕ) → Below (replicate count 0)
zeros_below zero = tt
zeros_below (suc count) = (omega arith, zeros_below count)

-- The bytes are the first i numbers and then the rest, and any numbers that the bytes write begin with these.
pub record Progress {X : Type 0} (form : X → List ℕ) (size : X → ℕ) (count : ℕ) (bytes : List ℕ) (numbers : List X) (i : ℕ) (rest : List ℕ) : Type 0 where
  pub long : length numbers ≡ count
  pub below : AllByRecursion (Small size) (take i numbers)
  pub whole : bytes ≡ forms form (take i numbers) ++ rest
  pub only : (xs : List X) → WritesAll form size count bytes xs → (take i numbers ++ drop i xs ≡ xs) × (rest ≡ forms form (drop i xs))

-- before the first is read, whatever stands in the places of the numbers
pub progress_start : {X : Type 0} {form : X → List ℕ} {size : X → ℕ} (count : ℕ) (bytes : List ℕ) (numbers : List X) → length numbers ≡ count → Progress form size count bytes numbers 0 bytes
progress_start count bytes numbers long = record { long = long; below = tt; whole = refl; only = λ xs writes. (refl, writes.2) }

module _ {X : Type 0} {form : X → List ℕ} {size : X → ℕ} (legible : Legible form size) {count : ℕ} {bytes : List ℕ} {numbers : List X} {i : ℕ} {before : List ℕ} (p : Progress form size count bytes numbers i before) where
  module _ (within : i < count) where
    -- what is ahead begins with the next of any numbers that the bytes write
    next : (xs : List X) → WritesAll form size count bytes xs → (d : X) → Writes form size (form (get_or xs i d)) (get_or xs i d) × (before ≡ forms form (get_or xs i d ∷ drop (i + 1) xs))
    next xs writes d = ((All-get_or (Small size) xs i d (omega arith) writes.1, refl), (p.only xs writes).1 ∙ at_drop_more (forms form) xs i d (omega arith))

    pub none_at_word : X → NoNumber (Writes form size) before → SomeExactly None (WritesAll form size count bytes)
    none_at_word d unread = none (λ xs writes. not_unread (form_of legible) (map form (drop (i + 1) xs)) _ _ (next xs writes d).0 (next xs writes d).1 unread)

    pub progress_step : {after : List ℕ} (x : X) → NextNumber (Writes form size) before (Some x) after → Progress form size count bytes (set numbers i x) (i + 1) after
    progress_step {after} x (word, writes, split, ends) =
        let inside : i < length numbers = omega arith in
        let put = take_more_set numbers i x inside in record {
          long = length-set numbers i x ∙ p.long;
          below = rw put (All-push (Small size) (take i numbers) x p.below writes.0);
          whole =
              let written = flat_map_more (λ w. 32 ∷ w) [] (map form (take i numbers)) (form x) in
              cc (p.whole, put, written, map_push form (take i numbers) x, append_assoc (forms form (take i numbers)) (32 ∷ form x) after);
          only = λ xs all.
              let is = read_next (form_of legible) (map form (drop (i + 1) xs)) _ _ (next xs all x).0 (next xs all x).1 x (word, writes, split, ends) in
              (cc (put, is.0, append_assoc (take i numbers) (x ∷ []) (drop (i + 1) xs), (p.only xs all).0, drop_more xs i x (omega arith)), is.1);
        }

-- after the last, they are those of the bytes exactly where nothing is left
module _ {X : Type 0} {form : X → List ℕ} {size : X → ℕ} {count : ℕ} {bytes : List ℕ} {numbers : List X} {i : ℕ} {before : List ℕ} (p : Progress form size count bytes numbers i before) (done : i ≡ count) where
  pub some_at_end : length before ≡ 0 → SomeExactly (Some numbers) (WritesAll form size count bytes)
  some_at_end empty =
      let all : take i numbers ≡ numbers = take_all i numbers (omega arith) in
      let nothing = nil_from_length before empty in
      some numbers
      (p.long, subst (λ xs. AllByRecursion (Small size) xs) all p.below, cc (p.whole, append-nil (forms form numbers)))
      (λ xs writes. cc ((p.only xs writes).0, drop_all i xs (omega (arith, writes.0)), append-nil numbers))

  pub none_at_rest : (length before ≡ 0 → ⊥) → SomeExactly None (WritesAll form size count bytes)
  none_at_rest filled = none (λ xs writes. filled (ap length ((p.only xs writes).1 ∙ at_drop_all (forms form) xs i (omega (arith, writes.0)))))
