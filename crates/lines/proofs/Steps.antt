-- The step from one line of a text to the next. It rests on `Lines`.
use Rattle.std.proofs.Common.{◌≡◌, ℕ, ◌+◌, ◌-◌, ◌<◌, ◌≤◌, min, List, [], ◌∷◌, ◌++◌, length, take, drop, sym, ap, ◌∙◌, ⊎_elim, arith, rules, eq-eqb, ne_eqb, ◌≢◌, slice_index}
use native.Mathlib.Nat.{add-sub_cancel_left}
use Rattle.std.specs.Str.Iter.{LacksByte}
use Rattle.std.proofs.lemmas.List.{drop_all, drop-drop, length-drop, places, take_all, take-append-drop, take_more, take_rest}
use Rattle.std.proofs.lemmas.Bool.{cases_eq, cases_lt}
use Rattle.lines.specs.Lines.{extended, lines_of}
use Rattle.lines.proofs.Lines.{lines_front, lines_one}

-- The first byte 10 stands after n bytes; where there is none, n is the number of bytes.
pub record LineLength (bytes : List ℕ) (n : ℕ) : Type 0 where
  pub within : n ≤ length bytes
  pub lacks : (k : ℕ) → k < n → slice_index bytes k ≢ 10
  pub ends : n < length bytes → slice_index bytes n ≡ 10

length_extended : (b : ℕ) (ls : List (List ℕ)) → length (extended b ls) ≤ length ls + 1
length_extended b [] = omega arith
length_extended b (l ∷ ls) = omega arith

-- a text has at most as many lines as bytes
pub length_lines : (text : List ℕ) → length (lines_of text) ≤ length text
unfolding lines_of
length_lines [] = omega arith
length_lines (b ∷ text) =
    let fewer = length_lines text in
    ⊎_elim
    (λ is. rw (eq-eqb b 10 is) (omega arith))
    (λ other. rw (ne_eqb b 10 other) (omega (arith, length_extended b (lines_of text))))
    (cases_eq b 10)

first_line : (bytes : List ℕ) (n : ℕ) → 0 < length bytes → LineLength bytes n → lines_of bytes ≡ take n bytes ∷ lines_of (drop (n + 1) bytes)
unfolding lines_of
first_line bytes n filled line =
    let lacks : LacksByte 10 (take n bytes) = search (rules, places) in
    ⊎_elim
    (λ inside.
    let front = take_more bytes n 0 inside ∙ ap (λ b. take n bytes ++ (b ∷ [])) (line.ends inside) in
    let rest : List ℕ = drop (n + 1) bytes in
    ap lines_of (sym (take-append-drop (n + 1) bytes) ∙ ap (λ l. l ++ rest) front) ∙ lines_front (take n bytes) rest lacks)
    (λ all.
    let whole = take_all n bytes all in
    let none = drop_all (n + 1) bytes (omega arith) in
    simp (whole, none) (lines_one bytes filled (rw whole at lacks)))
    (cases_lt n (length bytes))

-- The first `count` lines end at `start`, the next line has n bytes, and after it the position is `next`.
pub record Step (text : List ℕ) (start count n next : ℕ) : Type 0 where
  pub before : start < length text
  pub placed : lines_of (drop start text) ≡ drop count (lines_of text)
  pub line : LineLength (take (length text - start) (drop start text)) n
  pub moved : next ≡ min (start + n + 1) (length text)

module _ {text : List ℕ} {start count n next : ℕ} (step : Step text start count n next) where
  after_line : drop (n + 1) (drop start text) ≡ drop next text
  after_line =
      drop-drop (n + 1) start text
      ∙ ⊎_elim
      (λ inside. ap (λ k. drop k text) (omega arith))
      (λ past. drop_all (start + (n + 1)) text past ∙ sym (drop_all next text (omega arith)))
      (cases_lt (start + (n + 1)) (length text))

  next_line : drop count (lines_of text) ≡ take n (drop start text) ∷ lines_of (drop next text)
  next_line =
      sym step.placed
      ∙ first_line (drop start text) n (simp length-drop (omega arith)) (rw take_rest at step.line)
      ∙ ap (λ rest. take n (drop start text) ∷ lines_of rest) after_line

  pub next_placed : lines_of (drop next text) ≡ drop (count + 1) (lines_of text)
  next_placed = ap (drop 1) (sym next_line) ∙ drop-drop 1 count (lines_of text)

  pub next_counted : count + 1 ≤ length (lines_of text)
  next_counted = omega (arith, simp length-drop at (ap length next_line))

  pub next_ahead : drop count (lines_of text) ≡ take (start + n - start) (drop start text) ∷ drop (count + 1) (lines_of text)
  next_ahead = simp add-sub_cancel_left (next_line ∙ ap (λ ls. take n (drop start text) ∷ ls) next_placed)
