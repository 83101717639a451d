-- The lines of a text are exactly those that are laid out as it.
use Rattle.std.proofs.Common.{◌≡◌, ℕ, zero, suc, ◌<◌, List, [], ◌∷◌, ◌++◌, length, sym, refl, ap, ◌∙◌, subst, inl, inr, ⊎_elim, arith, eq-eqb, ne_eqb}
use Rattle.std.specs.Str.Iter.{LacksByte}
use Rattle.std.specs.List.{AllByRecursion}
use Rattle.std.proofs.lemmas.List.{append_assoc, length-append}
use Rattle.std.proofs.lemmas.Bool.{cases_eq}
use Rattle.lines.specs.Lines.{extended, lines_of, ended, Unended, LaidOut, LinesAreLaidOut}

rest_lacks : (b : ℕ) (l : List ℕ) → LacksByte 10 (b ∷ l) → LacksByte 10 l
rest_lacks b l lacks k lt = lacks (suc k) (omega arith)

more_lacks : (b : ℕ) (l : List ℕ) → (b ≡ 10 → ⊥) → LacksByte 10 l → LacksByte 10 (b ∷ l)
more_lacks b l other lacks zero lt = other
more_lacks b l other lacks (suc k) lt = lacks k (omega arith)

-- a line with its byte 10, and then more
pub lines_front : (l rest : List ℕ) → LacksByte 10 l → lines_of ((l ++ (10 ∷ [])) ++ rest) ≡ l ∷ lines_of rest
unfolding lines_of
lines_front [] rest lacks = refl
lines_front (b ∷ l) rest lacks = rw (ne_eqb b 10 (lacks 0 (omega arith))) (ap (extended b) (lines_front l rest (rest_lacks b l lacks)))

-- one line with no byte 10 after it
pub lines_one : (l : List ℕ) → 0 < length l → LacksByte 10 l → lines_of l ≡ l ∷ []
unfolding lines_of
lines_one [] filled lacks = absurd (omega arith)
lines_one (b ∷ []) filled lacks = rw (ne_eqb b 10 (lacks 0 (omega arith))) refl
lines_one (b ∷ d ∷ l) filled lacks =
    rw (ne_eqb b 10 (lacks 0 (omega arith))) (ap (extended b) (lines_one (d ∷ l) (omega arith) (rest_lacks b (d ∷ l) lacks)))

lines_ended : (ls : List (List ℕ)) → AllByRecursion (LacksByte 10) ls → lines_of (ended ls) ≡ ls
unfolding lines_of
lines_ended [] lack = refl
lines_ended (l ∷ ls) (lacks, lack) = lines_front l (ended ls) lacks ∙ ap (λ m. l ∷ m) (lines_ended ls lack)

lines_unended : (others : List (List ℕ)) (last : List ℕ) → 0 < length last → AllByRecursion (LacksByte 10) (others ++ (last ∷ [])) → lines_of (ended others ++ last) ≡ others ++ (last ∷ [])
lines_unended [] last filled (lacks, _) = lines_one last filled lacks
lines_unended (l ∷ others) last filled (lacks, lack) =
    ap lines_of (append_assoc (l ++ (10 ∷ [])) (ended others) last) ∙ lines_front l (ended others ++ last) lacks ∙ ap (λ m. l ∷ m) (lines_unended others last filled lack)

lines_laid_out : (text : List ℕ) (ls : List (List ℕ)) → LaidOut text ls → lines_of text ≡ ls
lines_laid_out text ls (lack, inl e) = ap lines_of e ∙ lines_ended ls lack
lines_laid_out text ls (lack, inr u) =
    ap lines_of u.bytes ∙ lines_unended u.others u.last u.filled (subst (AllByRecursion (LacksByte 10)) u.lines lack) ∙ sym u.lines

after_break : (text : List ℕ) (ls : List (List ℕ)) → LaidOut text ls → LaidOut (10 ∷ text) ([] ∷ ls)
after_break text ls (lack, way) = (
  (λ k lt. absurd (omega arith), lack),
  ⊎_elim
      (λ e. inl (ap (λ t. 10 ∷ t) e))
      (λ u. inr (record { others = [] ∷ u.others; last = u.last; filled = u.filled; lines = ap (λ m. [] ∷ m) u.lines; bytes = ap (λ t. 10 ∷ t) u.bytes }))
      way,
)

unended_after : (b : ℕ) (text l : List ℕ) (ls others : List (List ℕ)) (last : List ℕ) → 0 < length last → l ∷ ls ≡ others ++ (last ∷ []) → text ≡ ended others ++ last → Unended (b ∷ text) ((b ∷ l) ∷ ls)
unended_after b text l ls [] last filled lines bytes = record { others = []; last = b ∷ last; filled = omega arith; lines = cc; bytes = ap (λ t. b ∷ t) bytes }
unended_after b text l ls (m ∷ others) last filled lines bytes = record { others = (b ∷ m) ∷ others; last = last; filled = filled; lines = cc; bytes = ap (λ t. b ∷ t) bytes }

after_byte : (b : ℕ) (text : List ℕ) (ls : List (List ℕ)) → (b ≡ 10 → ⊥) → LaidOut text ls → LaidOut (b ∷ text) (extended b ls)
after_byte b text [] other (_, inl e) = (
  (more_lacks b [] other (λ k lt. absurd (omega arith)), tt),
  inr (record { others = []; last = b ∷ []; filled = omega arith; lines = refl; bytes = ap (λ t. b ∷ t) e }),
)
after_byte b text [] other (_, inr u) = absurd (omega (arith, simp length-append at (ap length u.lines)))
after_byte b text (l ∷ ls) other ((lacks, lack), inl e) = ((more_lacks b l other lacks, lack), inl (ap (λ t. b ∷ t) e))
after_byte b text (l ∷ ls) other ((lacks, lack), inr u) = (
  (more_lacks b l other lacks, lack),
  inr (unended_after b text l ls u.others u.last u.filled u.lines u.bytes),
)

laid_out : (text : List ℕ) → LaidOut text (lines_of text)
unfolding lines_of
laid_out [] = (tt, inl refl)
laid_out (b ∷ text) =
    ⊎_elim
    (λ is. rw (eq-eqb b 10 is) (subst (λ x. LaidOut (x ∷ text) ([] ∷ lines_of text)) (sym is) (after_break text (lines_of text) (laid_out text))))
    (λ other. rw (ne_eqb b 10 other) (after_byte b text (lines_of text) other (laid_out text)))
    (cases_eq b 10)

pub lines_are_laid_out : LinesAreLaidOut
lines_are_laid_out text ls = (λ e. subst (LaidOut text) e (laid_out text), lines_laid_out text ls)
