-- The key of a link and its two ends.
use Rattle.std.proofs.Common.{◌≡◌, ℕ, true, false, cond, ◌&&◌, ◌⊎◌, Ordering, Less, Equal, Greater, sym, refl, ap, ◌∙◌, subst, inl, inr, arith}
use Rattle.std.proofs.lemmas.Bool.{and_parts, and_from}
use Rattle.std.specs.Ordering.{is_eq, ordering_then, is_gt}
use Rattle.keys.specs.Order.{Laws, alike}
use Rattle.keys.specs.Nodes.{by_both}
use Rattle.keys.specs.declared.kinds.Direction.{Direction}
use Rattle.keys.specs.declared.kinds.Direction.TheVariants.{Outgoing, Incoming}
use Rattle.keys.specs.declared.kinds.Kind.{Kind}
use Rattle.keys.specs.declared.kinds.Kind.TheVariants.{Directed, Undirected}
use Rattle.keys.specs.Kinds.{opposite_of}
use Rattle.model.specs.Keys.{Keys, eq}
use Rattle.model.specs.Maps.{Link, agree, edge_key, canon, along, is_link}
use Rattle.model.proofs.Tests.{by_bool, eq_itself, eq_true}

-- the values of the two parts of a key
abbrev pub values : {N V : Type 0} → Keys N V → N × N → V × V
values K p = (K.value p.0, K.value p.1)

pub agree_itself : (k : Kind) (d : Direction) → agree k d d ≡ true
agree_itself Undirected d = refl
agree_itself Directed Outgoing = refl
agree_itself Directed Incoming = refl

-- the opposite directions agree where the directions do
pub agree_opposite : (k : Kind) (s t : Direction) → agree k s t ≡ true → agree k (opposite_of s) (opposite_of t) ≡ true
agree_opposite Undirected s t h = refl
agree_opposite Directed Outgoing Outgoing h = refl
agree_opposite Directed Incoming Incoming h = refl
agree_opposite Directed Outgoing Incoming h = let z : ◌≡◌ {A = ℕ} 0 1 = cc in absurd (omega arith)
agree_opposite Directed Incoming Outgoing h = let z : ◌≡◌ {A = ℕ} 0 1 = cc in absurd (omega arith)

both_equal : (x y : Ordering) → is_eq (ordering_then x y) ≡ (is_eq x && is_eq y)
both_equal Less y = refl
both_equal Equal y = refl
both_equal Greater y = refl

module _ {N V : Type 0} (K : Keys N V) where
  -- the key that is stored has the value of the link's key
  pub key_values : (k : Kind) (a b : N) → values K (edge_key K k a b) ≡ canon K k (K.value a) (K.value b)
  key_values Directed a b = refl
  key_values Undirected a b = by_bool (is_gt (K.order (K.value a) (K.value b))) (λ t. rw t) (λ f. rw f)

  -- a table's test for a pair is the test for a link
  pub pair_test : {E : Type 0} (q : N × N) (l : Link N E) → alike (by_both K.order K.order) (values K l.0) (values K q) ≡ is_link K (values K q) l
  pair_test q l = both_equal (K.order (K.value l.0.0) (K.value q.0)) (K.order (K.value l.0.1) (K.value q.1))

  -- equal keys have equal ends, in one order or the other
  pub ends : (k : Kind) (u w x y : V) → canon K k u w ≡ canon K k x y → ((u ≡ x) × (w ≡ y)) ⊎ ((k ≡ Undirected) × (u ≡ y) × (w ≡ x))
  ends Directed u w x y h = inl (ap (λ z. z.0) h, ap (λ z. z.1) h)
  ends Undirected u w x y h =
      by_bool (is_gt (K.order u w))
      (λ a. by_bool (is_gt (K.order x y))
      (λ b. let q = turned u w a ∙ h ∙ sym (turned x y b) in inl (ap (λ z. z.1) q, ap (λ z. z.0) q))
      (λ b. let q = turned u w a ∙ h ∙ sym (straight x y b) in inr (refl, ap (λ z. z.1) q, ap (λ z. z.0) q)))
      (λ a. by_bool (is_gt (K.order x y))
      (λ b. let q = straight u w a ∙ h ∙ sym (turned x y b) in inr (refl, ap (λ z. z.0) q, ap (λ z. z.1) q))
      (λ b. let q = straight u w a ∙ h ∙ sym (straight x y b) in inl (ap (λ z. z.0) q, ap (λ z. z.1) q)))
    where
      turned : (u w : V) → is_gt (K.order u w) ≡ true → (w, u) ≡ canon K Undirected u w
      turned u w a = sym (ap (λ t. cond t (w, u) (u, w)) a)

      straight : (u w : V) → is_gt (K.order u w) ≡ false → (u, w) ≡ canon K Undirected u w
      straight u w a = sym (ap (λ t. cond t (w, u) (u, w)) a)

module _ {N V : Type 0} (K : Keys N V) (laws : Laws K.order) where
  by_order : {P : Type 0} (u w : V) → (K.order u w ≡ Less → P) → (K.order u w ≡ Equal → P) → (K.order u w ≡ Greater → P) → P
  by_order {P} u w l e g = cases (K.order u w) l e g
    where
      cases : (o : Ordering) → (o ≡ Less → P) → (o ≡ Equal → P) → (o ≡ Greater → P) → P
      cases Less l e g = l refl
      cases Equal l e g = e refl
      cases Greater l e g = g refl

  -- in an Undirected map the order of the ends does not count
  pub canon_swap : (u w : V) → canon K Undirected u w ≡ canon K Undirected w u
  canon_swap u w =
      by_order u w
      (λ l. ap (λ o. cond (is_gt o) (w, u) (u, w)) l ∙ sym (ap (λ o. cond (is_gt o) (u, w) (w, u)) (laws.before_after u w l)))
      (λ e. subst (λ x. canon K Undirected u x ≡ canon K Undirected x u) (laws.equal_same u w e) refl)
      (λ g. ap (λ o. cond (is_gt o) (w, u) (u, w)) g ∙ sym (ap (λ o. cond (is_gt o) (u, w) (w, u)) (laws.after_before u w g)))

  -- a direction that agrees leads to the same link
  pub along_agree : (k : Kind) (v m : V) (s t : Direction) → agree k s t ≡ true → along K k v m s ≡ along K k v m t
  along_agree Directed v m Outgoing Outgoing h = refl
  along_agree Directed v m Incoming Incoming h = refl
  along_agree Directed v m Outgoing Incoming h = let z : ◌≡◌ {A = ℕ} 0 1 = cc in absurd (omega arith)
  along_agree Directed v m Incoming Outgoing h = let z : ◌≡◌ {A = ℕ} 0 1 = cc in absurd (omega arith)
  along_agree Undirected v m Outgoing Outgoing h = refl
  along_agree Undirected v m Incoming Incoming h = refl
  along_agree Undirected v m Outgoing Incoming h = canon_swap v m
  along_agree Undirected v m Incoming Outgoing h = canon_swap m v

  -- the test for a link, and its key's value
  pub link_values : {E : Type 0} (κ : V × V) (l : Link N E) → is_link K κ l ≡ true → values K l.0 ≡ κ
  link_values κ l h =
      let t = and_parts (eq K (K.value l.0.0) κ.0) (eq K (K.value l.0.1) κ.1) h in
      ap (λ x. (x, K.value l.0.1)) (eq_true K laws _ _ t.0) ∙ ap (λ y. (κ.0, y)) (eq_true K laws _ _ t.1)

  pub values_link : {E : Type 0} (κ : V × V) (l : Link N E) → values K l.0 ≡ κ → is_link K κ l ≡ true
  values_link κ l q =
      and_from (eq K (K.value l.0.0) κ.0) (eq K (K.value l.0.1) κ.1)
      (subst (λ z. eq K (K.value l.0.0) z ≡ true) (ap (λ z. z.0) q) (eq_itself K laws (K.value l.0.0)))
      (subst (λ z. eq K (K.value l.0.1) z ≡ true) (ap (λ z. z.1) q) (eq_itself K laws (K.value l.0.1)))
