-- A roll read and changed at one number.
use Rattle.std.proofs.Common.{◌≡◌, ℕ, zero, suc, ◌+◌, ◌-◌, ◌<◌, ◌≤◌, List, length, get_or, set, sum_by, sym, refl, ◌∙◌, subst, ⊎_elim, arith}
use Rattle.std.specs.List.{AllByRecursion}
use Rattle.std.proofs.ByRecursion.{All-get_or}
use Rattle.std.proofs.lemmas.List.{get_or-set_same, get_or-set_other, get_or_past}
use Rattle.std.proofs.lemmas.List.Sums.{sum_by-set}
use Rattle.std.proofs.lemmas.Bool.{cases_lt}
use Rattle.node.specs.Stores.{Store}
use Rattle.model.specs.State.{Standing, outside, new, open_with, standing, entered}

-- the number k stands at its place in a roll as x
pub record Stands (roll : List Standing) (k : ℕ) (x : Standing) : Type 0 where
  pub from_one : 0 < k
  pub in_roll : k - 1 < length roll
  pub is : get_or roll (k - 1) outside ≡ x

pub stands : (roll : List Standing) (k : ℕ) (x : Standing) → standing roll k ≡ x → (x ≡ outside → ⊥) → Stands roll k x
stands roll zero x e h = elim (h (sym e)) [ ]
stands roll (suc i) x e h =
    let p : suc i - 1 ≡ i = omega arith in
    record {
      from_one = omega arith;
      in_roll = ⊎_elim (λ (l : i < length roll). subst (λ n. n < length roll) (sym p) l)
          (λ (l : length roll ≤ i). elim (h (sym e ∙ get_or_past roll i outside l)) [ ]) (cases_lt i (length roll));
      is = subst (λ n. get_or roll n outside ≡ x) (sym p) e;
    }

pub new_stands : (roll : List Standing) (k : ℕ) → standing roll k ≡ new → Stands roll k new
new_stands roll k e = stands roll k new e (λ h. let z : ◌≡◌ {A = ℕ} 0 1 = cc in omega arith)

pub open_stands : (roll : List Standing) (k : ℕ) (n : Store) → standing roll k ≡ open_with n → Stands roll k (open_with n)
open_stands roll k n e = stands roll k (open_with n) e (λ h. let z : ◌≡◌ {A = ℕ} 0 1 = cc in omega arith)

-- the standing that was entered, and every other
pub entered_here : (roll : List Standing) (k : ℕ) (x s : Standing) → Stands roll k x → standing (entered roll k s) k ≡ s
entered_here roll zero x s h = let z : ⊥ = omega (arith, h.from_one) in elim z [ ]
entered_here roll (suc i) x s h =
    let p : suc i - 1 ≡ i = omega arith in
    subst (λ n. get_or (set roll n s) i outside ≡ s) (sym p) (get_or-set_same roll i s outside (subst (λ n. n < length roll) p h.in_roll))

pub entered_elsewhere : (roll : List Standing) (k j : ℕ) (s : Standing) → 0 < k → (k ≡ j → ⊥) → standing (entered roll k s) j ≡ standing roll j
entered_elsewhere roll k zero s low away = refl
entered_elsewhere roll k (suc i) s low away = get_or-set_other roll (k - 1) i s outside (λ (e : i ≡ k - 1). away (omega arith))

-- a sum over a roll where one standing x becomes s
pub sum_entered : (f : Standing → ℕ) (roll : List Standing) (k : ℕ) (x s : Standing) → Stands roll k x →
    sum_by f (entered roll k s) + f x ≡ sum_by f roll + f s
sum_entered f roll k x s h = rw (← h.is) (sum_by-set f roll (k - 1) s outside h.in_roll)

-- what holds of all standings of a roll holds of the one that stands there
pub all_stand : (P : Standing → Type 0) (roll : List Standing) (k : ℕ) (x : Standing) → Stands roll k x → AllByRecursion P roll → P x
all_stand P roll k x h all = subst P h.is (All-get_or P roll (k - 1) outside h.in_roll all)
