-- What is known between the two steps of a swap removal: the last cell off, then into the place of another.
use Rattle.std.proofs.Common.{◌≡◌, ℕ, zero, suc, ◌-◌, ◌<◌, List, ◌∷◌, length, take, set, sym, ap, ◌∙◌, inl, inr, arith}
use Rattle.std.proofs.lemmas.List.{get_or-take, get_or-set_same, get_or-set_other, length-set, length-take-le, set_past, ext_get_or}
use Rattle.std.proofs.lemmas.Bool.{cases_eq}
use Rattle.lists.specs.Swap.{swap_removed}
use Rattle.lists.proofs.Swap.{length_swap_removed, swap_removed_at, swap_removed_other}
use Rattle.rows.specs.declared.cells.Cell.{Cell}
use Rattle.rows.specs.Rings.{none, nth, Apart, Holds}
use Rattle.rows.specs.Links.{Kept}
use Rattle.rows.proofs.Lists.{same_long}

-- xs is the row, and ys what is left of it without its last cell, t, which stood at m
module _ (xs ys : List ℕ) (m t : ℕ) (long : length xs ≡ suc m) (list : ys ≡ take m xs)
    (last : t ≡ nth xs m) where
  left_long : length ys ≡ m
  left_long = ap length list ∙ length-take-le m xs (omega arith)

  left_nth : (k : ℕ) → k < m → nth ys k ≡ nth xs k
  left_nth k l = ap (λ zs. nth zs k) list ∙ get_or-take m xs k none l

  -- a cell other than t is left where it was
  left_place : {c : ℕ} (i : ℕ) → i < length xs → nth xs i ≡ c → (t ≡ c → ⊥) → i < m
  left_place i l e ne =
      let f : i ≡ m → ⊥ = λ g. ne (last ∙ ap (nth xs) (sym g) ∙ e) in
      omega arith

  swapped : (i : ℕ) → set ys i t ≡ swap_removed xs i
  swapped i =
      ext_get_or none (set ys i t) (swap_removed xs i)
      (omega (arith, length-set ys i t, left_long, length_swap_removed xs i))
      (λ k l.
      let lk : k < m = omega (arith, length-set ys i t, left_long) in
      elim (cases_eq k i) [
        | inl q ↦
            let last_place : m ≡ length xs - 1 = omega arith in
            ap (nth (set ys i t)) q
            ∙ (get_or-set_same ys i t none (omega (arith, left_long))
            ∙ (last
            ∙ (ap (nth xs) last_place
            ∙ (sym (swap_removed_at xs i none (omega arith)) ∙ ap (nth (swap_removed xs i)) (sym q)))))
        | inr ne ↦
            get_or-set_other ys i k t none ne
            ∙ (left_nth k lk ∙ sym (swap_removed_other xs i k none (omega arith) ne))
      ])

  -- zs is what is left where t is put into the place of c
  pub swapped_other : {c : ℕ} {zs : List ℕ} → (t ≡ c → ⊥) → ((i : ℕ) → i < length ys → nth ys i ≡ c → zs ≡ set ys i t)
      → (i : ℕ) → i < length xs → nth xs i ≡ c → zs ≡ swap_removed xs i
  swapped_other ne put i l e =
      let place = left_place i l e ne in
      put i (omega (arith, left_long)) (left_nth i place ∙ e) ∙ swapped i

  pub swapped_last : {c : ℕ} → Apart t ys → t ≡ c → (i : ℕ) → i < length xs → nth xs i ≡ c → ys ≡ swap_removed xs i
  swapped_last apart f i l e =
      let off : i < m → ⊥ = λ k. apart i (omega (arith, left_long)) (left_nth i k ∙ e ∙ sym f) in
      let q : i ≡ m = omega arith in
      sym (set_past ys i t (omega (arith, left_long))) ∙ swapped i

  pub left_holds : {c : ℕ} → Holds c xs → (t ≡ c → ⊥) → Holds c ys
  left_holds held ne =
      let place = left_place held.0 held.1 held.2 ne in
      (held.0, omega (arith, left_long), left_nth held.0 place ∙ held.2)

  pub kept_both : {K : Type 0} {mem mem₁ mem₂ : List (Cell K)} → Kept mem mem₁ xs → Kept mem₁ mem₂ (t ∷ ys)
      → Kept mem mem₂ xs
  kept_both a b = record {
    others = λ x d l off. b.others x d (omega (arith, same_long (λ c. c.key) _ _ a.keys)) (apart x off) ∙ a.others x d l off;
    keys = b.keys ∙ a.keys;
  }
    where
      apart : (x : ℕ) → Apart x xs → Apart x (t ∷ ys)
      apart x off zero l e = off m (omega arith) (sym last ∙ e)
      apart x off (suc k) l e = let lk : k < m = omega (arith, left_long) in off k (omega arith) (sym (left_nth k lk) ∙ e)
