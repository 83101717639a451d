-- Lines of numbers with a space between each two, and what `naturals` has read of one. It rests on `Forms` and on the library's lemmas of lists.
use Rattle.std.proofs.Common.{◌≡◌, ℕ, zero, suc, ◌+◌, ◌^◌, ◌<◌, ◌≤◌, List, [], ◌∷◌, ◌++◌, map, length, get_or, take, drop, set, replicate, Some, None, decimal, Option, is_some, not, sym, refl, ap, ◌∙◌, arith, length-set, take-append-drop, length-take, Bor}
use lib.ListN.{length-replicate}
use Rattle.std.specs.Bool.{then_some}
use Rattle.std.specs.Str.Iter.{LacksByte}
use Rattle.std.specs.List.{join_with_byte, flat_map, AllByRecursion}
use Rattle.std.proofs.lemmas.Fmt.{decimal_injective}
use Rattle.std.proofs.ByRecursion.{All-get_or, All-set, All-take}
use Rattle.std.proofs.lemmas.List.{append-nil, append_assoc, at_drop_more, at_drop_all, drop_all, drop_more, flat_map_more, length-take-le, nil_from_length, take_all, take_more_set}
use Rattle.decimal.specs.Reading.{SomeExactly, Writes, WritesAll, after_space}
use Rattle.decimal.proofs.Exactly.{none, some}
use Rattle.decimal.proofs.Forms.{decimal_lacks_space}

pub split_at_space : (line : List ℕ) (i : ℕ) → i < length line → get_or line i 0 ≡ 32 → line ≡ take i line ++ (32 ∷ drop (i + 1) line)
split_at_space line i within space = sym (take-append-drop i line) ∙ ap (λ l. take i line ++ l) (drop_more line i 0 within ∙ ap (λ b. b ∷ drop (i + 1) line) space)

-- empty, or with a space in front
abbrev pub SpaceFirst : List ℕ → Type 0
SpaceFirst s = get_or s 0 32 ≡ 32

after_space_first : (rest : Option (Bor (List ℕ))) → SpaceFirst (after_space rest)
after_space_first None = refl
after_space_first (Some l) = refl

-- a line is split at its first space in one way
pub same_split : (u v s t : List ℕ) → LacksByte 32 u → LacksByte 32 v → SpaceFirst s → SpaceFirst t → u ++ s ≡ v ++ t → (u ≡ v) × (s ≡ t)
same_split [] [] s t _ _ _ _ e = (refl, e)
same_split [] (b ∷ v) s t _ lacks first _ e = absurd (lacks 0 (omega arith) (sym (ap (λ l. get_or l 0 32) e) ∙ first))
same_split (a ∷ u) [] s t lacks _ _ first e = absurd (lacks 0 (omega arith) (ap (λ l. get_or l 0 32) e ∙ first))
same_split (a ∷ u) (b ∷ v) s t lacks_u lacks_v first_s first_t e =
    let head : a ≡ b = cc in
    let tails = same_split u v s t (λ k lt. lacks_u (suc k) (omega arith)) (λ k lt. lacks_v (suc k) (omega arith)) first_s first_t (cc) in
    (cc tails.0, tails.1)

-- the decimal forms, each after a space
abbrev spaced : List ℕ → List ℕ
spaced ns = flat_map (λ n. 32 ∷ decimal n) ns

spaced_first : (ns : List ℕ) → SpaceFirst (spaced ns)
spaced_first [] = refl
spaced_first (n ∷ ns) = refl

spaced_first_before : (ns t : List ℕ) → SpaceFirst t → SpaceFirst (spaced ns ++ t)
spaced_first_before [] t first = first
spaced_first_before (n ∷ ns) t first = refl

rejoined_spaced : (n : ℕ) (ns : List ℕ) → 32 ∷ join_with_byte 32 (map decimal (n ∷ ns)) ≡ spaced (n ∷ ns)
rejoined_spaced n [] = ap (λ l. 32 ∷ l) (sym (append-nil (decimal n)))
rejoined_spaced n (m ∷ ns) = ap (λ l. 32 ∷ (decimal n ++ l)) (rejoined_spaced m ns)

spaced_from_rejoined : (line ns : List ℕ) → (length ns ≡ 0 → length line ≡ 0 → ⊥) → line ≡ join_with_byte 32 (map decimal ns) → 32 ∷ line ≡ spaced ns
spaced_from_rejoined line [] filled e = absurd (filled refl (ap length e))
spaced_from_rejoined line (n ∷ ns) filled e = ap (λ l. 32 ∷ l) e ∙ rejoined_spaced n ns

rejoined_from_spaced : (line ns : List ℕ) → 32 ∷ line ≡ spaced ns → line ≡ join_with_byte 32 (map decimal ns)
rejoined_from_spaced line [] e = let z : ◌≡◌ {A = ℕ} 0 1 = cc in absurd (omega arith)
rejoined_from_spaced line (n ∷ ns) e = cc (rejoined_spaced n ns)

abbrev Below : List ℕ → Type 0
Below ns = AllByRecursion (λ n. n < 10 ^ 18) ns

zeros_below : (count : ℕ) → Below (replicate count 0)
zeros_below zero = tt
zeros_below (suc count) = (omega arith, zeros_below count)

-- where ms and then t are written as ns are, ns begins with ms, and t is how the others are written
others :
    (ms ns t : List ℕ) → Below ms → Below ns → SpaceFirst t → length ms ≤ length ns → spaced ms ++ t ≡ spaced ns
    → (ms ++ drop (length ms) ns ≡ ns) × (t ≡ spaced (drop (length ms) ns))
others [] ns t _ _ _ _ e = (refl, e)
others (m ∷ ms) [] t _ _ _ few e = absurd (omega arith)
others (m ∷ ms) (n ∷ ns) t (m_below, ms_below) (n_below, ns_below) first few e =
    let cut : (decimal m ++ spaced ms) ++ t ≡ decimal n ++ spaced ns = cc in
    let parts =
    same_split (decimal m) (decimal n) (spaced ms ++ t) (spaced ns)
    (decimal_lacks_space m m_below) (decimal_lacks_space n n_below) (spaced_first_before ms t first) (spaced_first ns)
    (sym (append_assoc (decimal m) (spaced ms) t) ∙ cut) in
    let is = decimal_injective m n (omega arith) (omega arith) parts.0 in
    let more = others ms ns t ms_below ns_below first (omega arith) parts.1 in
    (cc (is, more.0), more.1)

-- the line is the first i numbers and then the rest; `filled` leaves out the empty line where no number is asked for
pub record Progress (count : ℕ) (line numbers : List ℕ) (i : ℕ) (rest : Option (Bor (List ℕ))) : Type 0 where
  pub filled : count ≡ 0 → length line ≡ 0 → ⊥
  pub long : length numbers ≡ count
  pub below : Below numbers
  pub whole : 32 ∷ line ≡ spaced (take i numbers) ++ after_space rest

pub progress_start : (count : ℕ) (line : Bor (List ℕ)) → (count ≡ 0 → length line.now ≡ 0 → ⊥) → Progress count line.now (replicate count 0) 0 (Some line)
progress_start count line filled = record { filled = filled; long = length-replicate count 0; below = zeros_below count; whole = refl }

module _ {count : ℕ} {line numbers : List ℕ} {i : ℕ} {rest : Option (Bor (List ℕ))} (p : Progress count line numbers i rest) (ns : List ℕ) (writes : WritesAll count line ns) where
  -- any numbers that the line writes are those read so far, and then those of the rest
  remaining : i ≤ count → (take i numbers ++ drop i ns ≡ ns) × (after_space rest ≡ spaced (drop i ns))
  remaining within =
      let enough : i ≤ length numbers = omega arith in
      let whole = sym p.whole ∙ spaced_from_rejoined line ns (λ e. p.filled (omega arith)) writes.2 in
      rw (length-take-le i numbers enough) at
      (others (take i numbers) ns (after_space rest) (All-take _ i numbers p.below) writes.1 (after_space_first rest) (simp length-take (omega arith)) whole)

  -- so the rest begins with the next of them
  next : i < count → after_space rest ≡ 32 ∷ (decimal (get_or ns i 0) ++ spaced (drop (i + 1) ns))
  next within = (remaining (omega arith)).1 ∙ at_drop_more spaced ns i 0 (omega arith)

module _ {count : ℕ} {line numbers : List ℕ} {i : ℕ} (within : i < count) where
  pub none_at_end : Progress count line numbers i None → SomeExactly None (WritesAll count line)
  none_at_end p = none (λ ns writes. let e = next p ns writes within in let z : ◌≡◌ {A = ℕ} 0 1 = cc in omega arith)

  module _ {l : Bor (List ℕ)} (word : List ℕ) (after : Option (Bor (List ℕ))) (p : Progress count line numbers i (Some l)) (split : l.now ≡ word ++ after_space after) where
    pub none_at_word : LacksByte 32 word → SomeExactly None (Writes word) → SomeExactly None (WritesAll count line)
    none_at_word lacks unread =
        none (λ ns writes.
        let n : ℕ = get_or ns i 0 in
        let below = All-get_or _ ns i 0 (omega arith) writes.1 in
        let cut : word ++ after_space after ≡ decimal n ++ spaced (drop (i + 1) ns) = cc (next p ns writes within) in
        let parts =
        same_split word (decimal n) (after_space after) (spaced (drop (i + 1) ns))
        lacks (decimal_lacks_space n below) (after_space_first after) (spaced_first (drop (i + 1) ns))
        cut in
        let e = (unread n).1 (below, parts.0) in
        let z : ◌≡◌ {A = ℕ} 0 1 = cc in omega arith)

    pub progress_step : (n : ℕ) → Writes word n → Progress count line (set numbers i n) (i + 1) after
    progress_step n (below, is) = record {
      filled = p.filled;
      long = length-set numbers i n ∙ p.long;
      below = All-set _ numbers i n below p.below;
      whole =
          let inside : i < length numbers = omega arith in
          let put = take_more_set numbers i n inside in
          let written = flat_map_more (λ m. 32 ∷ decimal m) [] (take i numbers) n in
          cc (p.whole, put, written, append_assoc (spaced (take i numbers)) (32 ∷ decimal n) (after_space after));
    }

-- after count words the numbers are those of the line exactly where no rest follows
pub done : {count : ℕ} {line numbers : List ℕ} {i : ℕ} (rest : Option (Bor (List ℕ))) → i ≡ count → Progress count line numbers i rest → SomeExactly (then_some (not (is_some rest)) numbers) (WritesAll count line)
done {count} {line} {numbers} {i} None all p =
    let whole : take i numbers ≡ numbers = take_all i numbers (omega arith) in
    some numbers
    (p.long, p.below, rejoined_from_spaced line numbers (p.whole ∙ append-nil (spaced (take i numbers)) ∙ ap spaced whole))
    (λ ns writes. cc ((remaining p ns writes (omega arith)).0, drop_all i ns (omega arith), append-nil numbers))
done {i = i} (Some l) all p = none (λ ns writes. let e = (remaining p ns writes (omega arith)).1 ∙ at_drop_all spaced ns i (omega arith) in let z : ◌≡◌ {A = ℕ} 0 1 = cc in omega arith)

-- the empty line is the line of no numbers
pub empty_line : (count : ℕ) (line : List ℕ) → count ≡ 0 → length line ≡ 0 → SomeExactly (Some (replicate count 0)) (WritesAll count line)
empty_line zero [] _ _ = some [] (refl, tt, refl) (λ ns writes. sym (nil_from_length ns writes.0))
empty_line zero (b ∷ line) _ e = absurd (omega arith)
empty_line (suc count) line e _ = absurd (omega arith)
