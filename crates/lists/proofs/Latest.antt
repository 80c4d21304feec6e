-- What the latest place is, and when it stays.
use Rattle.std.proofs.Common.{◌≡◌, ℕ, zero, suc, ◌<◌, ◌≤◌, eqb, ◌⊎◌, sym, refl, ap, ◌∙◌, inl, inr, arith}
use Rattle.std.proofs.lemmas.Bool.{cases_eq, cond-true, cond-false, eq-eqb, ne_eqb}
use Rattle.lists.specs.Latest.{latest, At}

-- one more place, with the mark or without it
pub latest_top : (none : ℕ) (h : ℕ → ℕ) (b n : ℕ) → h n ≡ b → latest none h b (suc n) ≡ n
latest_top none h b n e = cond-true (eqb (h n) b) _ _ (eq-eqb _ _ e)

pub latest_under : (none : ℕ) (h : ℕ → ℕ) (b n : ℕ) → (h n ≡ b → ⊥) → latest none h b (suc n) ≡ latest none h b n
latest_under none h b n ne = cond-false (eqb (h n) b) _ _ (ne_eqb _ _ ne)

pub latest_at : (none : ℕ) (h : ℕ → ℕ) (b n v : ℕ) → At h b n v → latest none h b n ≡ v
latest_at none h b zero v a = omega (arith, a.below)
latest_at none h b (suc n) v a =
    elim (cases_eq v n) [
      | inl q ↦ latest_top none h b n (ap h (sym q) ∙ a.here) ∙ sym q
      | inr ne ↦
          latest_under none h b n (a.past n (omega (arith, a.below)) (omega arith))
          ∙ latest_at none h b n v
          (record { below = omega (arith, a.below); here = a.here; past = λ i lo hi e. a.past i lo (omega arith) e })
    ]

pub latest_none : (none : ℕ) (h : ℕ → ℕ) (b n : ℕ) → ((i : ℕ) → i < n → h i ≡ b → ⊥) → latest none h b n ≡ none
latest_none none h b zero e = refl
latest_none none h b (suc n) e =
    latest_under none h b n (e n (omega arith)) ∙ latest_none none h b n (λ i lt. e i (omega arith))

-- a place with the mark is at or below the latest
pub latest_covers : (none : ℕ) (h : ℕ → ℕ) (b n i : ℕ) → i < n → h i ≡ b → (latest none h b n < n) × (i ≤ latest none h b n)
latest_covers none h b zero i lt e = omega arith
latest_covers none h b (suc n) i lt e =
    elim (cases_eq (h n) b) [
      | inl q ↦ let t = latest_top none h b n q in (omega arith, omega arith)
      | inr ne ↦
          let t = latest_under none h b n ne in
          let il : i < n =
          elim (cases_eq i n) [ inl q ↦ absurd (ne (ap h (sym q) ∙ e)) | inr nq ↦ omega arith ] in
          let r = latest_covers none h b n i il e in
          (omega (arith, r.0), omega (arith, r.1))
    ]

pub latest_range : (none : ℕ) (h : ℕ → ℕ) (b n : ℕ) → (latest none h b n ≡ none) ⊎ (latest none h b n < n)
latest_range none h b zero = inl refl
latest_range none h b (suc n) =
    elim (cases_eq (h n) b) [
      | inl e ↦ let t = latest_top none h b n e in inr (omega arith)
      | inr ne ↦
          let u = latest_under none h b n ne in
          elim (latest_range none h b n) [ inl e ↦ inl (u ∙ e) | inr lt ↦ inr (omega arith) ]
    ]

-- what was found has the mark
pub latest_here : (none : ℕ) (h : ℕ → ℕ) (b n : ℕ) → n ≤ none → latest none h b n < n → h (latest none h b n) ≡ b
latest_here none h b zero le lt = let no : ⊥ = omega arith in absurd no
latest_here none h b (suc n) le lt =
    elim (cases_eq (h n) b) [
      | inl q ↦ ap h (latest_top none h b n q) ∙ q
      | inr ne ↦
          let t = latest_under none h b n ne in
          elim (latest_range none h b n) [
            | inl q ↦ let no : ⊥ = omega arith in absurd no
            | inr l ↦ ap h t ∙ latest_here none h b n (omega arith) l
          ]
    ]

pub latest_same : (none : ℕ) (h h' : ℕ → ℕ) (b n : ℕ) → ((i : ℕ) → i < n → h' i ≡ h i) → latest none h' b n ≡ latest none h b n
latest_same none h h' b zero e = refl
latest_same none h h' b (suc n) e =
    let more : latest none h' b n ≡ latest none h b n = latest_same none h h' b n (λ i lt. e i (omega arith)) in
    elim (cases_eq (h n) b) [
      | inl q ↦ latest_top none h' b n (e n (omega arith) ∙ q) ∙ sym (latest_top none h b n q)
      | inr ne ↦
          latest_under none h' b n (λ z. ne (sym (e n (omega arith)) ∙ z)) ∙ (more ∙ sym (latest_under none h b n ne))
    ]

-- place g has the mark b in h, and not in h'; elsewhere they agree
module _ (none b g : ℕ) (h h' : ℕ → ℕ) (ho : (i : ℕ) → (i ≡ g → ⊥) → h' i ≡ h i) (out : h' g ≡ b → ⊥) where
  off : (n : ℕ) → n ≡ g → h' n ≡ b → ⊥
  off n q e = out (ap h' (sym q) ∙ e)

  below : (n : ℕ) → n ≤ g → latest none h' b n ≡ latest none h b n
  below n le = latest_same none h h' b n (λ i lt. ho i (omega arith))

  -- where another place than g was the latest
  pub drop_other : (n : ℕ) → (latest none h b n ≡ g → ⊥) → latest none h' b n ≡ latest none h b n
  drop_other zero ne = refl
  drop_other (suc n) ne =
      elim (cases_eq n g) [
        | inl q ↦
            latest_under none h' b n (off n q)
            ∙ (below n (omega arith) ∙ sym (latest_under none h b n (λ e. ne (latest_top none h b n e ∙ q))))
        | inr nq ↦ elim (cases_eq (h n) b) [
          | inl e ↦ latest_top none h' b n (ho n nq ∙ e) ∙ sym (latest_top none h b n e)
          | inr nb ↦
              let u = latest_under none h b n nb in
              latest_under none h' b n (λ z. nb (sym (ho n nq) ∙ z)) ∙ (drop_other n (λ z. ne (u ∙ z)) ∙ sym u)
        ]
      ]

  -- where g was the latest
  pub drop_here : (n : ℕ) → g < n → latest none h b n ≡ g → latest none h' b n ≡ latest none h b g
  drop_here zero lt e = omega arith
  drop_here (suc n) lt e =
      elim (cases_eq n g) [
        | inl q ↦ latest_under none h' b n (off n q) ∙ (below n (omega arith) ∙ ap (latest none h b) q)
        | inr nq ↦
            let nb : h n ≡ b → ⊥ = λ z. nq (sym (latest_top none h b n z) ∙ e) in
            latest_under none h' b n (λ z. nb (sym (ho n nq) ∙ z))
            ∙ drop_here n (omega arith) (sym (latest_under none h b n nb) ∙ e)
      ]
