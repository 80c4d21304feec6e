-- The numbers of two buckets in each slot.
use Rattle.std.proofs.Common.{◌≡◌, ℕ, ◌/◌, ◌%◌, ◌<◌, List, [], ◌∷◌, ◌++◌, length, get_or, set, sym, ap, ◌∙◌, inl, inr, arith}
use Rattle.std.proofs.lemmas.List.{get_or_append_left, get_or-set_same, get_or-set_other}
use Rattle.std.proofs.lemmas.Bool.{cases_eq}
use Rattle.table.specs.Slots.{at, two, TwoSet}

-- a write of one number of one slot
pub two_set : (l l' : List (List ℕ)) (b v : ℕ) (t t' : List ℕ) → l' ≡ set l (b / 2) t'
    → b / 2 < length l → t ≡ get_or l (b / 2) [] → t' ≡ set t (b % 2) v → at t' (b % 2) ≡ v → TwoSet b v l l'
two_set l l' b v t t' e lt is written here =
    let got : get_or l' (b / 2) [] ≡ t' = ap (λ (z : List (List ℕ)). get_or z (b / 2) []) e ∙ get_or-set_same l (b / 2) t' [] lt in
    record {
      here = ap (λ (z : List ℕ). at z (b % 2)) got ∙ here;
      there = λ c ne.
          elim (cases_eq (c / 2) (b / 2)) [
            | inl q ↦
                ap (λ z. at (get_or l' z []) (c % 2)) q
                ∙ (ap (λ (z : List ℕ). at z (c % 2)) got
                ∙ (ap (λ (z : List ℕ). at z (c % 2)) written ∙ get_or-set_other t (b % 2) (c % 2) v 0 (λ r. ne (omega arith))
                ∙ (ap (λ (z : List ℕ). at z (c % 2)) is ∙ ap (λ z. at (get_or l z []) (c % 2)) (sym q))))
            | inr nq ↦
                ap (λ (z : List (List ℕ)). two z c) e
                ∙ ap (λ (z : List ℕ). at z (c % 2)) (get_or-set_other l (b / 2) (c / 2) t' [] nq)
          ];
    }

-- a slot with one number for both of its buckets
module _ (l l' : List (List ℕ)) (i v : ℕ) (e : l' ≡ set l i (v ∷ v ∷ [])) (lt : i < length l) where
  both : (s : ℕ) → s < 2 → at (v ∷ v ∷ []) s ≡ v
  both s sl =
      elim (cases_eq s 0)
      [ inl z ↦ ap (at (v ∷ v ∷ [])) z | inr nz ↦ let one : s ≡ 1 = omega arith in ap (at (v ∷ v ∷ [])) one ]

  pub two_filled : (b : ℕ) → b / 2 ≡ i → two l' b ≡ v
  two_filled b q =
      ap (λ z. two z b) e
      ∙ (ap (λ z. at (get_or (set l i (v ∷ v ∷ [])) z []) (b % 2)) q
      ∙ (ap (λ (z : List ℕ). at z (b % 2)) (get_or-set_same l i (v ∷ v ∷ []) [] lt)
      ∙ both (b % 2) (omega arith)))

  pub two_kept : (b : ℕ) → (b / 2 ≡ i → ⊥) → two l' b ≡ two l b
  two_kept b ne =
      ap (λ z. two z b) e
      ∙ ap (λ (z : List ℕ). at z (b % 2)) (get_or-set_other l i (b / 2) (v ∷ v ∷ []) [] ne)

-- the first slots of more slots
pub two_first : (l m : List (List ℕ)) (b : ℕ) → b / 2 < length l → two (l ++ m) b ≡ two l b
two_first l m b lt = ap (λ (z : List ℕ). at z (b % 2)) (get_or_append_left l m [] (b / 2) lt)
