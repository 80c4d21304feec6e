-- A walk down a chain.
use Rattle.std.proofs.Common.{◌≡◌, ℕ, ◌+◌, ◌<◌, ◌≤◌, ◌⊎◌, eqb, Some, None, Option, sym, ap, ◌∙◌, inl, inr, arith}
use Rattle.std.proofs.lemmas.Bool.{cases_eq, cond-true, cond-false, eq-eqb, ne_eqb}
use Rattle.lists.specs.Latest.{latest}
use Rattle.lists.specs.Chains.{Chains, ChainsBut, Above}
use Rattle.lists.proofs.Latest.{latest_range, latest_here}
use Rattle.table.specs.Slots.{none, place_of}
use Rattle.table.proofs.Links.{above_from as past_from}

place_some : (link i : ℕ) → place_of link ≡ Some i → (i ≡ link) × (link ≡ none → ⊥)
place_some link i e =
    elim (cases_eq link none) [
      | inl q ↦
          let d : Some i ≡ None = sym e ∙ cond-true (eqb link none) None (Some link) (eq-eqb link none q) in
          let z : ◌≡◌ {A = ℕ} 0 1 = cc in
          let no : ⊥ = omega arith in
          absurd no
      | inr ne ↦
          let d : Some i ≡ Some link = sym e ∙ cond-false (eqb link none) None (Some link) (ne_eqb link none ne) in
          let q : i ≡ link = cc in
          (q, ne)
    ]

pub place_none : (link : ℕ) → place_of link ≡ None → link ≡ none
place_none link e =
    elim (cases_eq link none) [
      | inl q ↦ q
      | inr ne ↦
          let d : Some link ≡ None = sym (cond-false (eqb link none) None (Some link) (ne_eqb link none ne)) ∙ e in
          let z : ◌≡◌ {A = ℕ} 0 1 = cc in
          let no : ⊥ = omega arith in
          absurd no
    ]

-- how far a walk may still go
abbrev pub to_go : Option ℕ → ℕ
to_go None = 0
to_go (Some i) = i + 1

to_go_place : (link n : ℕ) → (link ≡ none) ⊎ (link < n) → to_go (place_of link) < n + 1
to_go_place link n r =
    elim (cases_eq link none) [
      | inl q ↦ omega (arith, ap to_go (cond-true (eqb link none) None (Some link) (eq-eqb link none q)))
      | inr ne ↦
          let lt : link < n = elim r [ inl q ↦ absurd (ne q) | inr lt ↦ lt ] in
          omega (arith, ap to_go (cond-false (eqb link none) None (Some link) (ne_eqb link none ne)))
    ]

-- a walk down the chain of bucket b, from below p
module _ (buckets n : ℕ) (h f x : ℕ → ℕ) (L : Chains none buckets n h f x) (nn : n ≤ none) (b : ℕ) (bl : b < buckets) where
  -- it stands at the latest place of the bucket
  pub walk_place : (p i : ℕ) → p ≤ n → Some i ≡ place_of (latest none h b p) → (i < p) × (i ≡ latest none h b p) × (h i ≡ b)
  walk_place p i pn e =
      let r = place_some (latest none h b p) i (sym e) in
      elim (latest_range none h b p) [
        | inl q ↦ absurd (r.1 q)
        | inr lt ↦ (omega (arith, r.0), r.0, ap h r.0 ∙ latest_here none h b p (omega arith) lt)
      ]

  -- and goes on to the next one, which is nearer to the end
  pub walk_next : (i next : ℕ) → i < n → h i ≡ b → next ≡ x i
      → (place_of next ≡ place_of (latest none h b i)) × (to_go (place_of next) < i + 1)
  walk_next i next lt here is =
      let e = is ∙ (L.links i lt (omega arith) ∙ ap (λ z. latest none h z i) here) in
      let range : (next ≡ none) ⊎ (next < i) = elim (latest_range none h b i) [ inl q ↦ inl (e ∙ q) | inr l ↦ inr (omega arith) ] in
      (ap place_of e, to_go_place next i range)

-- a walk that stands past g
module _ (buckets n g : ℕ) (h f x : ℕ → ℕ) (C : ChainsBut none buckets n g h f x) (nn : n ≤ none) (b : ℕ) (bl : b < buckets) where
  pub above_from : (p link : ℕ) → g < p → p ≤ n → (p < n → h p ≡ b) → link ≡ latest none C.bucket b p → (link < p → g < link → ⊥)
      → Above n h b g p
  above_from p link gp pn here e stop = past_from none buckets n g h f x C nn b bl p link gp pn here e stop
