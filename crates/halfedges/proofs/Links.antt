-- An entry of a row and the link that it stands for.
use Rattle.std.proofs.Common.{◌≡◌, ℕ, ◌+◌, ◌*◌, ◌/◌, ◌%◌, ◌<◌, ◌≤◌, Bool, true, false, not, eqb, List, [], ◌∷◌, length, get_or, Some, None, sym, refl, ap, ◌∙◌, subst, ⊎_elim, arith}
use Rattle.std.proofs.lemmas.Bool.{cases_eq, cases_lt, and_parts, and_from, eq-eqb, ne_eqb}
use Rattle.keys.specs.Order.{Laws}
use Rattle.keys.specs.declared.kinds.Direction.{Direction}
use Rattle.keys.specs.declared.kinds.Direction.TheVariants.{Outgoing, Incoming}
use Rattle.keys.specs.declared.kinds.Kind.{Kind}
use Rattle.keys.specs.declared.kinds.Kind.TheVariants.{Undirected}
use Rattle.lists.specs.Positions.{position}
use Rattle.lists.proofs.Positions.{found_within}
use Rattle.table.specs.Content.{Apart}
use Rattle.rows.specs.HalfEdges.{side, twin}
use Rattle.model.specs.Keys.{Keys, eq}
use Rattle.model.specs.Lists.{bit, found}
use Rattle.model.specs.Maps.{agree, canon, along, hits, is_link}
use Rattle.model.proofs.Tests.{by_bool, same_eq, other_eq, eq_true}
use Rattle.model.proofs.Positions.{position_sole, passes_at}
use Rattle.model.proofs.Ends.{values, ends, along_agree, agree_itself, link_values, values_link}
use Rattle.halfedges.specs.Cells.{count, standing, named, stands, Most, Keyed}
use Rattle.halfedges.proofs.Counts.{bit_is}
use Rattle.halfedges.proofs.Told.{entry}
use Rattle.halfedges.proofs.Stands.{side_even, side_odd, stands_even, stands_odd, stands_self, stands_below}

-- what a search through a row's cells tells
pub found_in : (p : ℕ → Bool) (xs : List ℕ) (c : ℕ) → found p xs ≡ Some c → (1 ≤ count c xs) × (p c ≡ true)
found_in p [] c e = let z : ◌≡◌ {A = ℕ} 0 1 = cc in absurd (omega arith)
found_in p (x ∷ xs) c e =
    let rest = found_in p xs c in
    by_bool (p x)
    (λ t. let q : x ≡ c = let s : Some x ≡ Some c = rw t at e in cc in let b = bit_is c x (sym q) in (omega arith, subst (λ y. p y ≡ true) q t))
    (λ f. let r = rest (rw f at e) in (omega (arith, r.0), r.1))

pub found_not : (p : ℕ → Bool) (xs : List ℕ) (x : ℕ) → found p xs ≡ None → 1 ≤ count x xs → p x ≡ false
found_not p [] x e h = absurd (omega arith)
found_not p (y ∷ ys) x e h =
    let rest = found_not p ys x in
    by_bool (p y)
    (λ t. absurd (let s : Some y ≡ None = rw t at e in let z : ◌≡◌ {A = ℕ} 0 1 = cc in let no : ⊥ = omega arith in no))
    (λ f. ⊎_elim (λ q. subst (λ z. p z ≡ false) (sym q) f) (λ ne. rest (rw f at e) (let b : bit (eqb x y) ≡ 0 = rw (ne_eqb x y ne) refl in omega arith)) (cases_eq x y))

module _ {N V E : Type 0} (K : Keys N V) (laws : Laws K.order) (d : N) (k : Kind) (ks : List N) (ls : List ((N × N) × E))
    (keyed : Keyed K d k ks ls) (apart : Apart (values K) ls) where
  -- the link of a cell has the key that the cell's row and its entry say
  pub cell_link : (x : ℕ) (e : (N × N) × E) → x < 2 * length ls → values K (get_or ls (x / 2) e).0 ≡ along K k (named K d ks (twin x)) (named K d ks x) (side x)
  cell_link x e l =
      let q : ℕ = x / 2 in
      let h = keyed q e (omega arith) in
      ⊎_elim
      (λ z. let a : 2 * q + 1 ≡ twin x = omega arith in
      let b : 2 * q ≡ x = omega arith in
      h ∙ (λ i. canon K k (named K d ks (a i)) (named K d ks (b i))) ∙ sym (ap (along K k (named K d ks (twin x)) (named K d ks x)) (side_even x z)))
      (λ z. let a : 2 * q + 1 ≡ x = omega arith in
      let b : 2 * q ≡ twin x = omega arith in
      h ∙ (λ i. canon K k (named K d ks (a i)) (named K d ks (b i))) ∙ sym (ap (along K k (named K d ks (twin x)) (named K d ks x)) (side_odd x (omega arith))))
      (cases_eq (x % 2) 0)

  -- the place of a link, from its key
  pub link_place : (p : ℕ) (κ : V × V) → p < length ls → ((e : (N × N) × E) → values K (get_or ls p e).0 ≡ κ) → position (is_link K κ) ls ≡ Some p
  link_place p κ l h =
      position_sole (is_link K κ) ls p l (λ e. values_link K laws κ (get_or ls p e) (h e))
      (λ j e lj ne. by_bool (is_link K κ (get_or ls j e)) (λ t. absurd (other j e lj ne (link_values K laws κ (get_or ls j e) t))) (λ f. f))
    where
      other : (j : ℕ) (e : (N × N) × E) → j < length ls → (j ≡ p → ⊥) → values K (get_or ls j e).0 ≡ κ → ⊥
      other j e lj ne q =
          ⊎_elim
          (λ s. apart j p e s l (q ∙ sym (h e)))
          (λ s. ⊎_elim (λ r. apart p j e r lj (h e ∙ sym q)) (λ r. ne (omega arith)) (cases_lt p j))
          (cases_lt j p)

  -- a cell of v's row that names m in the direction t is one of the link between the two
  pub hit_place : (x : ℕ) (v m : V) (t : Direction) → x < 2 * length ls → named K d ks (twin x) ≡ v → hits K k m t (entry d ks x) ≡ true
      → position (is_link K (along K k v m t)) ls ≡ Some (x / 2)
  hit_place x v m t l own h =
      let b = and_parts (eq K (named K d ks x) m) (agree k (side x) t) h in
      link_place (x / 2) (along K k v m t) (omega arith)
      (λ e. cell_link x e l ∙ (λ i. along K k (own i) (eq_true K laws (named K d ks x) m b.0 i) (side x)) ∙ along_agree K laws k v m (side x) t b.1)

  -- the cell's own link
  pub own_place : (x : ℕ) (v m : V) → x < 2 * length ls → named K d ks (twin x) ≡ v → named K d ks x ≡ m → position (is_link K (along K k v m (side x))) ls ≡ Some (x / 2)
  own_place x v m l own is = link_place (x / 2) (along K k v m (side x)) (omega arith) (λ e. cell_link x e l ∙ (λ i. along K k (own i) (is i) (side x)))

  -- of the cells in v's row, one alone names m
  pub only : (ns : List (N × List ℕ)) → Most K d ks (length ls) ns → (c x : ℕ) (v m : V) (t : Direction)
      → 1 ≤ standing c ns → named K d ks (twin c) ≡ v → hits K k m t (entry d ks c) ≡ true
      → 1 ≤ standing x ns → named K d ks (twin x) ≡ v → hits K k m t (entry d ks x) ≡ eqb x c
  only ns most c x v m t sc oc hc sx ox =
      ⊎_elim
      (λ q. subst (λ y. hits K k m t (entry d ks y) ≡ eqb y c) (sym q) (hc ∙ sym (eq-eqb c c refl)))
      (λ ne. by_bool (hits K k m t (entry d ks x)) (λ h. absurd (never ne h)) (λ h. h ∙ sym (ne_eqb x c ne)))
      (cases_eq x c)
    where
      below : (y : ℕ) → 1 ≤ standing y ns → y < 2 * length ls
      below y s = stands_below K d ks (length ls) y (omega (arith, most y))

      lone : (y : ℕ) → 1 ≤ standing y ns → y % 2 ≡ 1 → named K d ks y ≡ named K d ks (twin y) → ⊥
      lone y s o q = let z = stands_self K d laws ks (length ls) y o q in let no : ⊥ = omega (arith, most y) in no

      never : (x ≡ c → ⊥) → hits K k m t (entry d ks x) ≡ true → ⊥
      never ne h =
          let a = hit_place x v m t (below x sx) ox h in
          let b = hit_place c v m t (below c sc) oc hc in
          let s : Some (x / 2) ≡ Some (c / 2) = sym a ∙ b in
          let half : x / 2 ≡ c / 2 = cc in
          let tx : twin x ≡ c = omega arith in
          let tc : twin c ≡ x = omega arith in
          let nx : named K d ks x ≡ named K d ks (twin x) = sym (ap (named K d ks) tc) ∙ oc ∙ sym ox in
          let nc : named K d ks c ≡ named K d ks (twin c) = sym (ap (named K d ks) tx) ∙ ox ∙ sym oc in
          ⊎_elim (λ o. lone x sx o nx) (λ o. lone c sc (omega arith) nc) (cases_eq (x % 2) 1)

  -- a link that is there has a cell in v's row that names m
  pub record Named (v m : V) (t : Direction) : Type 0 where
    pub cell : ℕ
    pub there : stands K d ks (length ls) cell ≡ 1
    pub own : named K d ks (twin cell) ≡ v
    pub hit : hits K k m t (entry d ks cell) ≡ true

  first_cell : (p : ℕ) (v m : V) (t : Direction) → p < length ls → agree k Outgoing t ≡ true → named K d ks (2 * p + 1) ≡ v → named K d ks (2 * p) ≡ m → Named v m t
  first_cell p v m t l a ov om =
      let e : twin (2 * p) ≡ 2 * p + 1 = omega arith in
      record {
        cell = 2 * p;
        there = stands_even K d ks (length ls) (2 * p) (omega arith) (omega arith);
        own = ap (named K d ks) e ∙ ov;
        hit = and_from _ _ (same_eq K laws _ _ om) (ap (λ s. agree k s t) (side_even (2 * p) (omega arith)) ∙ a);
      }

  second_cell : (p : ℕ) (v m : V) (t : Direction) → p < length ls → agree k Incoming t ≡ true → named K d ks (2 * p) ≡ v → named K d ks (2 * p + 1) ≡ m → (v ≡ m → ⊥) → Named v m t
  second_cell p v m t l a ov om ne =
      let e : twin (2 * p + 1) ≡ 2 * p = omega arith in
      record {
        cell = 2 * p + 1;
        there =
            stands_odd K d ks (length ls) (2 * p + 1) (omega arith) (omega arith)
            ∙ ap (λ b. bit (not b)) (other_eq K laws _ _ (λ q. ne (sym (ap (named K d ks) e ∙ ov) ∙ sym q ∙ om)));
        own = ap (named K d ks) e ∙ ov;
        hit = and_from _ _ (same_eq K laws _ _ om) (ap (λ s. agree k s t) (side_odd (2 * p + 1) (omega arith)) ∙ a);
      }

  -- in an Undirected map either cell will do
  either_cell : (p : ℕ) (v m : V) (t : Direction) → p < length ls → k ≡ Undirected → named K d ks (2 * p + 1) ≡ m → named K d ks (2 * p) ≡ v → Named v m t
  either_cell p v m t l u om ov =
      by_bool (eq K v m)
      (λ b. let q = eq_true K laws v m b in first_cell p v m t l (ap (λ z. agree z Outgoing t) u) (om ∙ sym q) (ov ∙ q))
      (λ b. second_cell p v m t l (ap (λ z. agree z Incoming t) u) ov om (λ q. let z = same_eq K laws v m q in let w : ◌≡◌ {A = ℕ} 0 1 = cc in let no : ⊥ = omega arith in no))

  link_ends : (p : ℕ) (κ : V × V) → position (is_link K κ) ls ≡ Some p → canon K k (named K d ks (2 * p + 1)) (named K d ks (2 * p)) ≡ κ
  link_ends p κ e = read ls keyed e
    where
      read : (ls : List ((N × N) × E)) → Keyed K d k ks ls → position (is_link K κ) ls ≡ Some p → canon K k (named K d ks (2 * p + 1)) (named K d ks (2 * p)) ≡ κ
      read [] h e = let z : ◌≡◌ {A = ℕ} 0 1 = cc in absurd (omega arith)
      read (l ∷ ls) h e = sym (h p l (found_within (is_link K κ) (l ∷ ls) p e)) ∙ link_values K laws κ (get_or (l ∷ ls) p l) (passes_at (is_link K κ) (l ∷ ls) p l e)

  pub named_outward : (p : ℕ) (v m : V) → position (is_link K (along K k v m Outgoing)) ls ≡ Some p → Named v m Outgoing
  named_outward p v m e =
      let l = found_within (is_link K (along K k v m Outgoing)) ls p e in
      ⊎_elim
      (λ h. first_cell p v m Outgoing l (agree_itself k Outgoing) h.0 h.1)
      (λ h. either_cell p v m Outgoing l h.0 h.1 h.2)
      (ends K k (named K d ks (2 * p + 1)) (named K d ks (2 * p)) v m (link_ends p (along K k v m Outgoing) e))

  pub named_inward : (p : ℕ) (v m : V) → (v ≡ m → ⊥) → position (is_link K (along K k v m Incoming)) ls ≡ Some p → Named v m Incoming
  named_inward p v m ne e =
      let l = found_within (is_link K (along K k v m Incoming)) ls p e in
      ⊎_elim
      (λ h. second_cell p v m Incoming l (agree_itself k Incoming) h.1 h.0 ne)
      (λ h. first_cell p v m Incoming l (ap (λ z. agree z Outgoing Incoming) h.0) h.1 h.2)
      (ends K k (named K d ks (2 * p + 1)) (named K d ks (2 * p)) m v (link_ends p (along K k v m Incoming) e))
