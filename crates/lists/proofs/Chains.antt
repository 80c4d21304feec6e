-- What a write leaves of the chains.
use Rattle.std.proofs.Common.{◌≡◌, ℕ, suc, ◌<◌, ◌≤◌, sym, refl, ap, ◌∙◌, inl, inr, arith}
use Rattle.std.proofs.lemmas.Bool.{cases_eq, cases_lt}
use Rattle.lists.specs.Latest.{latest}
use Rattle.lists.specs.Chains.{Chains, Above, Put}
use Rattle.lists.proofs.Latest.{latest_top, latest_under, latest_at, latest_covers, latest_here, latest_range, latest_same, drop_other, drop_here}

-- no place is in a chain
pub emptied : (none buckets : ℕ) (h f x : ℕ → ℕ) → ((b : ℕ) → b < buckets → f b ≡ none) → Chains none buckets 0 h f x
emptied none buckets h f x e = record { heads = λ b lt. e b lt; links = λ i lt _. omega arith }

-- the same chains, told of functions that agree where it counts
pub agreeing : (none buckets n : ℕ) (h f x h' f' x' : ℕ → ℕ)
    → ((i : ℕ) → i < n → h' i ≡ h i) → ((b : ℕ) → b < buckets → f' b ≡ f b) → ((i : ℕ) → i < n → x' i ≡ x i)
    → Chains none buckets n h f x → Chains none buckets n h' f' x'
agreeing none buckets n h f x h' f' x' eh ef ex L = record {
  heads = λ b lt. ef b lt ∙ (L.heads b lt ∙ sym (latest_same none h h' b n eh));
  links = λ i lt hl.
      let e = eh i lt in
      ex i lt
      ∙ (L.links i lt (omega arith)
      ∙ (sym (latest_same none h h' (h i) i (λ j l. eh j (omega arith))) ∙ ap (λ z. latest none h' z i) (sym e)));
}

-- place n becomes the head of bucket b
pub pushed : (none buckets n b : ℕ) (h f x h' f' x' : ℕ → ℕ) → Chains none buckets n h f x
    → h' n ≡ b → ((i : ℕ) → (i ≡ n → ⊥) → h' i ≡ h i) → x' n ≡ f b → ((i : ℕ) → (i ≡ n → ⊥) → x' i ≡ x i)
    → f' b ≡ n → ((c : ℕ) → (c ≡ b → ⊥) → f' c ≡ f c) → Chains none buckets (suc n) h' f' x'
pushed none buckets n b h f x h' f' x' L hn ho xn xo fb fo =
    let same : (c i : ℕ) → i ≤ n → latest none h' c i ≡ latest none h c i =
    λ c i le. latest_same none h h' c i (λ j l. ho j (omega arith)) in
    record {
      heads = λ c lt.
          elim (cases_eq c b) [
            | inl q ↦ ap f' q ∙ (fb ∙ (sym (latest_top none h' b n hn) ∙ ap (λ z. latest none h' z (suc n)) (sym q)))
            | inr ne ↦
                fo c ne
                ∙ (L.heads c lt
                ∙ (sym (same c n (omega arith)) ∙ sym (latest_under none h' c n (λ e. ne (sym e ∙ hn)))))
          ];
      links = λ i lt hl.
          elim (cases_eq i n) [
            | inl q ↦
                let bl : b < buckets = omega (arith, ap h' q) in
                ap x' q
                ∙ (xn
                ∙ (L.heads b bl
                ∙ (sym (same b n (omega arith))
                ∙ (ap (λ z. latest none h' z n) (sym hn) ∙ ap (λ z. latest none h' (h' z) z) (sym q)))))
            | inr ne ↦
                let e = ho i ne in
                xo i ne
                ∙ (L.links i (omega arith) (omega arith)
                ∙ (sym (same (h i) i (omega arith)) ∙ ap (λ z. latest none h' z i) (sym e)))
          ];
    }

-- the last place, which is the head of its bucket b, leaves
pub popped : (none buckets n b : ℕ) (h f x f' : ℕ → ℕ) → Chains none buckets (suc n) h f x → h n ≡ b → b < buckets
    → f' b ≡ x n → ((c : ℕ) → (c ≡ b → ⊥) → f' c ≡ f c) → Chains none buckets n h f' x
popped none buckets n b h f x f' L hn bl fb fo = record {
  heads = λ c lt.
      elim (cases_eq c b) [
        | inl q ↦
            ap f' q
            ∙ (fb
            ∙ (L.links n (omega arith) (omega arith)
            ∙ (ap (λ z. latest none h z n) hn ∙ ap (λ z. latest none h z n) (sym q))))
        | inr ne ↦ fo c ne ∙ (L.heads c lt ∙ latest_under none h c n (λ e. ne (sym e ∙ hn)))
      ];
  links = λ i lt hl. L.links i (omega arith) hl;
}

-- place g is in bucket b in h, and in none in h'; p is the holder of g
module _ (none buckets n b g p : ℕ) (h h' : ℕ → ℕ) (le : n ≤ none) (A : Above n h b g p) (gn : g < n) (hb : h g ≡ b)
    (hn : buckets ≤ h' g) (ho : (i : ℕ) → (i ≡ g → ⊥) → h' i ≡ h i) (bn : b < buckets) where
  pub holder_has : latest none h b p ≡ g
  holder_has = latest_at none h b p g (record { below = A.past; here = hb; past = A.between })

  -- no other holder of the bucket has g
  alone : (i : ℕ) → i ≤ n → (i < n → h i ≡ b) → (i ≡ p → ⊥) → latest none h b i ≡ g → ⊥
  alone i il ih ne e =
      elim (latest_range none h b i) [
        | inl q ↦ omega arith
        | inr lt ↦ elim (cases_lt i p) [
          | inl ip ↦ A.between i (omega arith) ip (ih (omega (arith, A.within)))
          | inr ge ↦ omega (arith, (latest_covers none h b i p (omega arith) (A.here (omega arith))).1, A.past)
        ]
      ]

  pub others_keep : (c i : ℕ) → c < buckets → i ≤ n → (c ≡ b → i < n → h i ≡ b) → (c ≡ b → i ≡ p → ⊥)
      → latest none h' c i ≡ latest none h c i
  others_keep c i cn il ih ne =
      drop_other none c g h h' ho (λ e. omega arith) i
      (λ e.
      elim (cases_eq c b) [
        | inl q ↦ alone i il (ih q) (ne q) (ap (λ z. latest none h z i) (sym q) ∙ e)
        | inr nc ↦
            elim (latest_range none h c i) [
              | inl z ↦ omega arith
              | inr lt ↦ nc (sym (latest_here none h c i (omega arith) lt) ∙ (ap h e ∙ hb))
            ]
      ])

  pub holder_gets : latest none h' b p ≡ latest none h b g
  holder_gets = drop_here none b g h h' ho (λ e. omega arith) p A.past holder_has

-- what is written at the holder p of bucket b is right, place g is, and the other buckets and links are as before
rechained : (none buckets n b g p v : ℕ) (h f x h' f' x₁ x' : ℕ → ℕ) → Chains none buckets n h f x → Above n h b g p → Put n b p v f x₁ f' x' → v ≡ latest none h' b p
    → ((i : ℕ) → (i ≡ g → ⊥) → h' i ≡ h i) → ((i : ℕ) → (i ≡ g → ⊥) → x₁ i ≡ x i) → ((i : ℕ) → i ≡ g → h' i < buckets → x' i ≡ latest none h' (h' i) i)
    → ((c : ℕ) → c < buckets → (c ≡ b → n ≡ p → ⊥) → latest none h' c n ≡ latest none h c n)
    → ((i : ℕ) → i < n → h i < buckets → (i ≡ g → ⊥) → (i ≡ p → ⊥) → latest none h' (h i) i ≡ latest none h (h i) i)
    → Chains none buckets n h' f' x'
rechained none buckets n b g p v h f x h' f' x₁ x' L A P new ho xo own last_kept link_kept = record {
  heads = λ c cn.
      elim (cases_eq c b) [
        | inl q ↦ elim (cases_lt p n) [
          | inl pn ↦ P.heads c (λ e _. omega arith) ∙ (L.heads c cn ∙ sym (last_kept c cn (λ _ e. omega arith)))
          | inr np ↦
              let e : p ≡ n = omega (arith, A.within) in
              ap f' q ∙ (P.head e ∙ (new ∙ (ap (latest none h' b) e ∙ ap (λ z. latest none h' z n) (sym q))))
        ]
        | inr ne ↦ P.heads c (λ _ q. ne q) ∙ (L.heads c cn ∙ sym (last_kept c cn (λ q. absurd (ne q))))
      ];
  links = λ i lt hl.
      elim (cases_eq i g) [
        | inl q ↦ own i q hl
        | inr ng ↦ elim (cases_eq i p) [
          | inl q ↦
              let e : h' i ≡ b = ho i ng ∙ (ap h q ∙ A.here (omega arith)) in
              ap x' q
              ∙ (P.link (omega arith) ∙ (new ∙ (ap (λ z. latest none h' z p) (sym e) ∙ ap (latest none h' (h' i)) (sym q))))
          | inr np ↦
              let e = ho i ng in
              let hi : h i < buckets = omega arith in
              P.links i np ∙ (xo i ng ∙ (L.links i lt hi ∙ (sym (link_kept i lt hi ng np) ∙ ap (λ z. latest none h' z i) (sym e))))
        ]
      ];
}

-- place g leaves bucket b
pub unlinked : (none buckets n b g p v : ℕ) (h f x h' f' x' : ℕ → ℕ) → n ≤ none → Chains none buckets n h f x → Above n h b g p
    → g < n → b < buckets → h g ≡ b → v ≡ x g → Put n b p v f x f' x' → buckets ≤ h' g
    → ((i : ℕ) → (i ≡ g → ⊥) → h' i ≡ h i) → Chains none buckets n h' f' x'
unlinked none buckets n b g p v h f x h' f' x' le L A gn bn hb ev P hn ho =
    let kept : (c i : ℕ) → c < buckets → i ≤ n → (c ≡ b → i < n → h i ≡ b) → (c ≡ b → i ≡ p → ⊥) → latest none h' c i ≡ latest none h c i =
    others_keep none buckets n b g p h h' le A gn hb hn ho bn in
    let new : v ≡ latest none h' b p =
    ev
    ∙ (L.links g gn (omega arith)
    ∙ (ap (λ z. latest none h z g) hb ∙ sym (holder_gets none buckets n b g p h h' le A gn hb hn ho bn))) in
    rechained none buckets n b g p v h f x h' f' x x' L A P new ho (λ i ne. refl) (λ i q hl. omega (arith, ap h' q))
    (λ c cn ne. kept c n cn (omega arith) (λ _ lt. omega arith) ne) (λ i lt hi ng np. kept (h i) i hi (omega arith) (λ q _. q) (λ _. np))

-- place g, which is in none, joins bucket b; `old` is what its holder p had
pub linked : (none buckets n b g p old : ℕ) (h f x h' f' x' x'' : ℕ → ℕ) → n ≤ none → Chains none buckets n h f x → Above n h b g p
    → g < n → b < buckets → buckets ≤ h g → old ≡ latest none h b p → x' g ≡ old → ((i : ℕ) → (i ≡ g → ⊥) → x' i ≡ x i)
    → Put n b p g f x' f' x'' → h' g ≡ b → ((i : ℕ) → (i ≡ g → ⊥) → h' i ≡ h i) → Chains none buckets n h' f' x''
linked none buckets n b g p old h f x h' f' x' x'' le L A gn bn hg eo xg xo P hb ho =
    let oh : (i : ℕ) → (i ≡ g → ⊥) → h i ≡ h' i = λ i ne. sym (ho i ne) in
    let A' : Above n h' b g p =
    record {
      past = A.past;
      within = A.within;
      here = λ lt. ho p (omega (arith, A.past)) ∙ A.here lt;
      between = λ i lo hi e. A.between i lo hi (sym (ho i (omega arith)) ∙ e);
    } in
    let kept : (c i : ℕ) → c < buckets → i ≤ n → (c ≡ b → i < n → h' i ≡ b) → (c ≡ b → i ≡ p → ⊥) → latest none h c i ≡ latest none h' c i =
    others_keep none buckets n b g p h' h le A' gn hb hg oh bn in
    let has : latest none h' b p ≡ g = holder_has none buckets n b g p h' h le A' gn hb hg oh bn in
    rechained none buckets n b g p g h f x h' f' x' x'' L A P (sym has) ho xo
    (λ i q hl.
    P.links i (omega (arith, A.past))
    ∙ (ap x' q
    ∙ (xg
    ∙ (eo
    ∙ (holder_gets none buckets n b g p h' h le A' gn hb hg oh bn
    ∙ (ap (λ z. latest none h' z g) (sym hb) ∙ ap (λ z. latest none h' (h' z) z) (sym q)))))))
    (λ c cn ne. sym (kept c n cn (omega arith) (λ _ lt. omega arith) ne)) (λ i lt hi ng np. sym (kept (h i) i hi (omega arith) (λ q _. ho i ng ∙ q) (λ _. np)))
