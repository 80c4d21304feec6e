-- The entries after a swap removal, by place.
use Rattle.std.proofs.Common.{◌≡◌, ℕ, ◌+◌, ◌-◌, ◌<◌, ◌≤◌, List, [], ◌∷◌, length, get_or, take, set, sym, refl, ap, ◌∙◌, inl, inr, arith}
use Rattle.std.proofs.lemmas.List.{length-take-le, length-set, get_or-take, get_or-set_same, get_or-set_other, get_or_default, same_lists}
use Rattle.std.proofs.lemmas.Bool.{cases_eq}
use Rattle.lists.specs.Swap.{swap_removed}

pub length_swap_removed : {A : Type 0} (xs : List A) (g : ℕ) → length (swap_removed xs g) ≡ length xs - 1
length_swap_removed [] g = refl
length_swap_removed (d ∷ xs) g =
    length-take-le (length xs) (set (d ∷ xs) g (get_or (d ∷ xs) (length xs) d)) (simp length-set (omega arith))
    ∙ omega arith

pub swap_removed_at : {A : Type 0} (xs : List A) (g : ℕ) (d : A) → g + 1 < length xs
    → get_or (swap_removed xs g) g d ≡ get_or xs (length xs - 1) d
swap_removed_at [] g d lt = refl
swap_removed_at (x ∷ xs) g d lt =
    let last : length (x ∷ xs) - 1 ≡ length xs = omega arith in
    get_or-take (length xs) (set (x ∷ xs) g (get_or (x ∷ xs) (length xs) x)) g d (omega arith)
    ∙ (get_or-set_same (x ∷ xs) g (get_or (x ∷ xs) (length xs) x) d (omega arith)
    ∙ (get_or_default (x ∷ xs) (length xs) x d (omega arith) ∙ ap (λ m. get_or (x ∷ xs) m d) (sym last)))

pub swap_removed_other : {A : Type 0} (xs : List A) (g i : ℕ) (d : A) → i + 1 < length xs → (i ≡ g → ⊥)
    → get_or (swap_removed xs g) i d ≡ get_or xs i d
swap_removed_other [] g i d lt ne = refl
swap_removed_other (x ∷ xs) g i d lt ne =
    get_or-take (length xs) (set (x ∷ xs) g (get_or (x ∷ xs) (length xs) x)) i d (omega arith)
    ∙ get_or-set_other (x ∷ xs) g i (get_or (x ∷ xs) (length xs) x) d ne

-- a memory whose first len elements were swap-removed at g
pub take_swap_removed : {A : Type 0} (ps ps' : List A) (len g : ℕ) → g < len → len ≤ length ps → length ps' ≡ length ps
    → (g + 1 < len → (d : A) → get_or ps' g d ≡ get_or ps (len - 1) d)
    → ((i : ℕ) (d : A) → i + 1 < len → (i ≡ g → ⊥) → get_or ps' i d ≡ get_or ps i d)
    → take (len - 1) ps' ≡ swap_removed (take len ps) g
take_swap_removed ps ps' len g gl fits same moved rest =
    let n : length (take len ps) ≡ len = length-take-le len ps fits in
    let m : length (take (len - 1) ps') ≡ len - 1 = length-take-le (len - 1) ps' (omega arith) in
    same_lists _ _ (omega (arith, length_swap_removed (take len ps) g))
    (λ k d lt.
    let kl : k + 1 < length (take len ps) = omega arith in
    get_or-take (len - 1) ps' k d (omega arith)
    ∙ elim (cases_eq k g) [
      | inl q ↦
          let gl' : g + 1 < length (take len ps) = omega arith in
          ap (λ z. get_or ps' z d) q
          ∙ (moved (omega arith) d
          ∙ (sym (get_or-take len ps (len - 1) d (omega arith))
          ∙ (ap (λ z. get_or (take len ps) (z - 1) d) (sym n)
          ∙ (sym (swap_removed_at (take len ps) g d gl') ∙ ap (λ z. get_or (swap_removed (take len ps) g) z d) (sym q)))))
      | inr ne ↦
          rest k d (omega arith) ne
          ∙ (sym (get_or-take len ps k d (omega arith)) ∙ sym (swap_removed_other (take len ps) g k d kl ne))
    ])
