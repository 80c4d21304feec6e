-- A walk down a chain by its links, for any number that ends a chain.
use Rattle.std.proofs.Common.{◌≡◌, ℕ, ◌+◌, ◌%◌, ◌<◌, ◌≤◌, ◌⊎◌, ap, ◌∙◌, inl, inr, arith}
use Rattle.lists.specs.Latest.{latest}
use Rattle.lists.specs.Chains.{Chains, ChainsBut, Above}
use Rattle.lists.proofs.Latest.{latest_range, latest_here, latest_covers}

module _ (none buckets n : ℕ) (h f x : ℕ → ℕ) (L : Chains none buckets n h f x) (nn : n ≤ none) (b : ℕ) (bl : b < buckets) where
  -- a link that is none of the end is a smaller place of the bucket
  pub link_place : (p link : ℕ) → p ≤ n → link ≡ latest none h b p → (link ≡ none → ⊥) → (link < p) × (h link ≡ b)
  link_place p link pn e ne =
      elim (latest_range none h b p) [
        | inl q ↦ absurd (ne (e ∙ q))
        | inr lt ↦ (omega arith, ap h e ∙ latest_here none h b p (omega arith) lt)
      ]

  -- and its own link is the next one
  pub link_next : (i next : ℕ) → i < n → h i ≡ b → next ≡ x i → next ≡ latest none h b i
  link_next i next lt e q = q ∙ (L.links i lt (omega arith) ∙ ap (λ z. latest none h z i) e)

pub link_range : (none : ℕ) (h : ℕ → ℕ) (b n link : ℕ) → link ≡ latest none h b n → (link ≡ none) ⊎ (link < n)
link_range none h b n link e = elim (latest_range none h b n) [ inl q ↦ inl (e ∙ q) | inr lt ↦ inr (omega arith) ]

-- the way to the end grows shorter with each link
pub link_falls : (link next : ℕ) → link < 65535 → (next ≡ 65535) ⊎ (next < link) → (next + 1) % 65536 < (link + 1) % 65536
link_falls link next lt (inl e) = omega arith
link_falls link next lt (inr l) = omega arith

-- a walk that stands past g
module _ (none buckets n g : ℕ) (h f x : ℕ → ℕ) (C : ChainsBut none buckets n g h f x) (nn : n ≤ none) (b : ℕ) (bl : b < buckets) where
  pub above_from : (p link : ℕ) → g < p → p ≤ n → (p < n → h p ≡ b) → link ≡ latest none C.bucket b p → (link < p → g < link → ⊥)
      → Above n h b g p
  above_from p link gp pn here e stop = record {
    past = gp;
    within = pn;
    here = here;
    between = λ i lo hi q.
        let r = latest_covers none C.bucket b p i hi (C.agrees i (omega arith) ∙ q) in
        stop (omega (arith, r.0)) (omega (arith, r.1));
  }
