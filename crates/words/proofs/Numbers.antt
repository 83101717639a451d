-- The next word as a number. It rests on the split of a line at its first space.
use Rattle.std.proofs.Common.{◌≡◌, ℕ, ◌+◌, ◌-◌, ◌<◌, List, [], ◌∷◌, ◌++◌, length, get_or, take, drop, Some, None, Option, sym, refl, ap, ◌∙◌, subst, inl, inr, ⊎_elim, arith, rules, slice_index}
use Rattle.std.specs.Str.Iter.{LacksByte}
use Rattle.std.proofs.lemmas.List.{drop_all, drop_more, drop-drop, length-drop, places, take-append-drop}
use Rattle.std.proofs.lemmas.Bool.{cases_lt}
use Rattle.decimal.specs.Reading.{SomeExactly}
use Rattle.decimal.proofs.Lines.{SpaceFirst, same_split}
use Rattle.words.specs.Laws.{natural_legible, signed_legible}
use Rattle.words.specs.Numbers.{Legible, Writes, WritesNatural, WritesSigned, spaced}
use Rattle.words.specs.Readings.{Ends, NextNumber, NextWord, NoNumber, WordLength, ahead}
use Rattle.words.specs.declared.words.Word.{Word}
use Rattle.words.specs.declared.words.Words.{Words}
use Rattle.words.proofs.Forms.{no_space, once}

ends_first : (bytes : List ℕ) → Ends bytes → SpaceFirst bytes
ends_first bytes (inl e) = ap (λ l. get_or l 0 32) e
ends_first bytes (inr (_, e)) = ap (λ l. get_or l 0 32) e

-- bytes are a word and then others in one way
pub same_word : (u v s t : List ℕ) → LacksByte 32 u → LacksByte 32 v → Ends s → Ends t → u ++ s ≡ v ++ t → (u ≡ v) × (s ≡ t)
same_word u v s t lacks_u lacks_v ends_s ends_t = same_split u v s t lacks_u lacks_v (ends_first s ends_s) (ends_first t ends_t)

pub spaced_ends : (words : List (List ℕ)) → Ends (spaced words)
spaced_ends [] = inl refl
spaced_ends (w ∷ words) = inr (w ++ spaced words, refl)

-- Words that write numbers have no space in them, and write one number each.
pub record Form {X : Type 0} (W : List ℕ → X → Type 0) : Type 0 where
  pub lacks : (word : List ℕ) (x : X) → W word x → LacksByte 32 word
  pub once : (word : List ℕ) (x y : X) → W word x → W word y → x ≡ y

-- legible numbers are written by such words
pub form_of : {X : Type 0} {form : X → List ℕ} {size : X → ℕ} → Legible form size → Form (Writes form size)
form_of legible = record { lacks = no_space legible; once = once legible }

pub natural_form : Form WritesNatural
natural_form = form_of natural_legible

pub signed_form : Form WritesSigned
signed_form = form_of signed_legible

module _ {X : Type 0} {W : List ℕ → X → Type 0} (form : Form W) where
  -- the next word is read as a number
  pub next_number : (before after : Words) (word : Word) → NextWord before (Some word) after → (r : Option X) → SomeExactly r (W word.bytes.now) → NextNumber W (ahead before) r (ahead after)
  next_number before after word next None exactly = λ x w rest writes e ends.
      let cut : w ++ rest ≡ word.bytes.now ++ ahead after = cc next.0 in
      let is = (same_word w word.bytes.now rest (ahead after) (form.lacks w x writes) next.1 ends next.2 cut).0 in
      let e = (exactly x).1 (subst (λ b. W b x) is writes) in
      let z : ◌≡◌ {A = ℕ} 0 1 = cc in omega arith
  next_number before after word next (Some x) exactly = (word.bytes.now, (exactly x).0 refl, next.0, next.2)

  module _ {before : List ℕ} (words : List (List ℕ)) (word : List ℕ) (y : X) (writes : W word y) (whole : before ≡ spaced (word ∷ words)) where
    -- where a word that writes a number is ahead, it is read, and the others are still ahead
    pub read_next : {after : List ℕ} (x : X) → NextNumber W before (Some x) after → (x ≡ y) × (after ≡ spaced words)
    read_next {after} x (w, w_writes, e, ends) =
        let cut : w ++ after ≡ word ++ spaced words = cc in
        let parts = same_word w word after (spaced words) (form.lacks w x w_writes) (form.lacks word y writes) ends (spaced_ends words) cut in
        (form.once word x y (subst (λ b. W b x) parts.0 w_writes) writes, parts.1)

    pub not_unread : NoNumber W before → ⊥
    not_unread unread = unread y word (spaced words) writes whole (spaced_ends words)

-- bytes parted before a space or at their end
pub parted : (bytes front back : List ℕ) (n : ℕ) → (n < length bytes → slice_index bytes n ≡ 32) → front ≡ take n bytes → back ≡ drop n bytes → (front ++ back ≡ bytes) × Ends back
parted bytes front back n space is_front is_back = (
  cc (take-append-drop n bytes),
  ⊎_elim
      (λ inside. inr (drop (n + 1) bytes, is_back ∙ drop_more bytes n 0 inside ∙ ap (λ b. b ∷ drop (n + 1) bytes) (space inside)))
      (λ all. inl (is_back ∙ drop_all n bytes all))
      (cases_lt n (length bytes)),
)

-- the word before the first space, and what follows it
pub cut_word : (bytes front back : List ℕ) (n : ℕ) → WordLength bytes n → front ≡ take n bytes → back ≡ drop n bytes → (front ++ back ≡ bytes) × LacksByte 32 front × Ends back
cut_word bytes front back n length_is is_front is_back =
    let cut = parted bytes front back n length_is.ends is_front is_back in
    (cut.0, rw is_front (search (rules, places)), cut.1)

-- a part at the end of an end of a line is at the end of that line
pub end_of_end : (line rest back : List ℕ) (n : ℕ) → rest ≡ drop (length line - length rest) line → back ≡ drop n rest → back ≡ drop (length line - length back) line
end_of_end line rest back n ends is =
    let long : length rest ≡ length line - (length line - length rest) = simp length-drop at (ap length ends) in
    let back_long : length back ≡ length rest - n = simp length-drop at (ap length is) in
    is ∙ ap (drop n) ends ∙ drop-drop n (length line - length rest) line
    ∙ ⊎_elim
    (λ inside. ap (λ k. drop k line) (omega arith))
    (λ past. drop_all (length line - length rest + n) line (omega arith) ∙ sym (drop_all (length line - length back) line (omega arith)))
    (cases_lt n (length rest))
