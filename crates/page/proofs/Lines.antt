-- A number more on a printed line.
use Rattle.std.proofs.Common.{◌≡◌, ℕ, ◌+◌, ◌<◌, List, [], ◌∷◌, ◌++◌, map, length, get_or, take, decimal, sym, ap, ◌∙◌, append_assoc}
use Rattle.std.proofs.lemmas.List.{flat_map_more, map-append, take_more}
use Rattle.words.specs.Numbers.{spaced}

pub numbers_more : (ns : List ℕ) (i d : ℕ) (was before between after : List ℕ) → i < length ns → before ≡ was ++ spaced (map decimal (take i ns)) →
    between ≡ before ++ (32 ∷ []) → after ≡ between ++ decimal (get_or ns i d) → after ≡ was ++ spaced (map decimal (take (i + 1) ns))
numbers_more ns i d was before between after inside p q r =
    let x = decimal (get_or ns i d) in
    r ∙ ap (λ (l : List ℕ). l ++ x) q ∙ append_assoc before (32 ∷ []) x ∙ ap (λ (l : List ℕ). l ++ (32 ∷ x)) p
    ∙ flat_map_more (λ (w : List ℕ). 32 ∷ w) was (map decimal (take i ns)) x
    ∙ ap (λ (ws : List (List ℕ)). was ++ spaced ws) (sym (map-append decimal (take i ns) (get_or ns i d ∷ [])) ∙ ap (map decimal) (sym (take_more ns i d inside)))
