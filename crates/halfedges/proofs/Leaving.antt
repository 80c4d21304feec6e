-- A link's cells leave their rows, as the lists tell it.
use Rattle.std.proofs.Common.{◌≡◌, ℕ, ◌+◌, ◌*◌, ◌/◌, ◌%◌, ◌<◌, ◌≤◌, true, not, eqb, List, [], length, get_or, Some, sym, ap, ◌∙◌, ⊎_elim, arith}
use Rattle.std.proofs.lemmas.Bool.{cases_eq, and_parts, and_from}
use Rattle.keys.specs.Order.{Laws}
use Rattle.keys.specs.Kinds.{opposite_of}
use Rattle.keys.specs.declared.kinds.Direction.{Direction}
use Rattle.keys.specs.declared.kinds.Kind.{Kind}
use Rattle.lists.specs.Positions.{position}
use Rattle.lists.specs.Swap.{swap_removed}
use Rattle.lists.proofs.Positions.{found_within}
use Rattle.table.specs.Content.{Apart}
use Rattle.rows.specs.Rings.{nth}
use Rattle.rows.specs.HalfEdges.{side, twin}
use Rattle.model.specs.Keys.{Keys, eq}
use Rattle.model.specs.Lists.{bit, without}
use Rattle.model.specs.Maps.{agree, is_node, hits, unentered}
use Rattle.model.proofs.Tests.{eq_true, same_eq, other_eq}
use Rattle.model.proofs.Positions.{passes_at}
use Rattle.model.proofs.Ends.{values, agree_opposite}
use Rattle.halfedges.specs.Cells.{count, standing, noded, row_at, put_row, named, stands, Owned, Whole, Most, Off, Keyed}
use Rattle.halfedges.proofs.Counts.{bit_is, bit_other, count_swap_removed}
use Rattle.halfedges.proofs.Told.{entry, told_without}
use Rattle.halfedges.proofs.Rows.{stands_in_row, length_noded, noded_read, standing_put, noded_at_row}
use Rattle.halfedges.proofs.Stands.{side_twin, stands_most, stands_below, stands_even, stands_odd, stands_self}
use Rattle.halfedges.proofs.Links.{only}

-- the node at the place of a value has it
pub value_at : {N V : Type 0} (K : Keys N V) (laws : Laws K.order) (d : N) (ks : List N) (ns : List (N × List ℕ)) (v : V) (i : ℕ) → position (is_node K v) (noded ks ns) ≡ Some i
    → (i < length ns) × (K.value (get_or ns i (d, [])).0 ≡ v)
value_at K laws d ks ns v i e =
    let l = found_within (is_node K v) (noded ks ns) i e in
    let m : i < length ns = omega (arith, length_noded ks ns) in
    (m, sym (ap (λ n. K.value n.0) (noded_read d ks ns i m)) ∙ eq_true K laws _ _ (passes_at (is_node K v) (noded ks ns) i (d, []) e))

-- one cell out of the row at i
pub left_standing : {N : Type 0} (d : N) (ns : List (N × List ℕ)) (i c k : ℕ) → i < length ns → k < length (row_at ns i d) → nth (row_at ns i d) k ≡ c
    → (x : ℕ) → standing x (put_row ns i d (swap_removed (row_at ns i d) k)) + bit (eqb x c) ≡ standing x ns
left_standing d ns i c k li lk e x =
    let t = standing_put d ns i li (swap_removed (row_at ns i d) k) x in
    let m = count_swap_removed x c k (row_at ns i d) lk e in
    omega arith

module _ {N V E : Type 0} (K : Keys N V) (laws : Laws K.order) (d : N) (k : Kind) (ks : List N) (ls : List ((N × N) × E))
    (keyed : Keyed K d k ks ls) (apart : Apart (values K) ls) (fits : 2 * length ls ≤ length ks)
    (ns : List (N × List ℕ)) (owned : Owned K d ks ns) (most : Most K d ks (length ls) ns) where
  -- the only cell of v's row that names m leaves it
  pub left_noded : (v m : V) (t : Direction) (i c j : ℕ) → position (is_node K v) (noded ks ns) ≡ Some i → j < length (row_at ns i d) → nth (row_at ns i d) j ≡ c → 1 ≤ count c (row_at ns i d)
      → hits K k m t (entry d ks c) ≡ true → noded ks (put_row ns i d (swap_removed (row_at ns i d) j)) ≡ unentered K k v m t (noded ks ns)
  left_noded v m t i c j at lj e held hit =
      let w = value_at K laws d ks ns v i at in
      let one : count c (row_at ns i d) ≤ 1 =
      let s = Rattle.model.proofs.Tallies.tally_one (λ n. count c n.1) ns i (d, []) w.0 in let o = most c in let z = stands_most K d ks (length ls) c in omega arith in
      noded_at_row d ns i w.0 (swap_removed (row_at ns i d) j) K ks v (without (hits K k m t)) at
      (told_without d ks (row_at ns i d) j c (hits K k m t) lj e one
      (λ x h. let s = stands_in_row d ns i x w.0 h in let l = stands_below K d ks (length ls) x (let o = most x in omega arith) in omega arith)
      (λ x h.
      only K laws d k ks ls keyed apart ns most c x v m t
      (stands_in_row d ns i c w.0 held) (owned i c w.0 held ∙ w.1) hit
      (stands_in_row d ns i x w.0 h) (owned i x w.0 h ∙ w.1)))

pub twin_below : (c n : ℕ) → c < 2 * n → twin c < 2 * n
twin_below c n l = let h : c / 2 < n = omega arith in let e : twin c / 2 ≡ c / 2 = omega arith in omega arith

-- the other cell of the link
module _ {N V : Type 0} (K : Keys N V) (laws : Laws K.order) (d : N) (ks : List N) where
  pub twin_hits : (k : Kind) (v m : V) (t : Direction) (c : ℕ) → named K d ks (twin c) ≡ v → hits K k m t (entry d ks c) ≡ true → hits K k v (opposite_of t) (entry d ks (twin c)) ≡ true
  twin_hits k v m t c own hit =
      let b = and_parts (eq K (named K d ks c) m) (agree k (side c) t) hit in
      and_from (eq K (named K d ks (twin c)) v) (agree k (side (twin c)) (opposite_of t)) (same_eq K laws _ _ own)
      (ap (λ s. agree k s (opposite_of t)) (side_twin c) ∙ agree_opposite k (side c) t b.1)

  -- it stands too, unless the ends are the same
  pub twin_stands : (n c : ℕ) → 1 ≤ stands K d ks n c → (named K d ks c ≡ named K d ks (twin c) → ⊥) → stands K d ks n (twin c) ≡ 1
  twin_stands n c h ne =
      let l = stands_below K d ks n c h in
      let tt' : twin (twin c) ≡ c = omega arith in
      ⊎_elim
      (λ e. stands_odd K d ks n (twin c) (twin_below c n l) (omega arith)
      ∙ ap (λ b. bit (not b)) (other_eq K laws _ _ (λ q. ne (sym (q ∙ ap (named K d ks) tt')))))
      (λ o. stands_even K d ks n (twin c) (twin_below c n l) (omega arith))
      (cases_eq (c % 2) 0)

  -- the cells of the link stand nowhere when `away` says that they have left
  off_gone : (n g : ℕ) (ns ns' : List (N × List ℕ)) (away : ℕ → ℕ) → Whole K d ks n ns → ((x : ℕ) → standing x ns' + away x ≡ standing x ns) → ((x : ℕ) → x / 2 ≡ g → stands K d ks n x ≤ away x)
      → ((x : ℕ) → (x / 2 ≡ g → ⊥) → away x ≡ 0) → Off K d ks g n ns'
  off_gone n g ns ns' away whole s gone stay = record {
    out = λ x e. let t = s x in let w = whole x in let m = gone x e in omega arith;
    others = λ x ne. let t = s x in let w = whole x in let m = stay x ne in omega arith;
  }

  -- so when both have left, or the one of a self-link
  pub off_both : (n c : ℕ) (ns ns' : List (N × List ℕ)) → Whole K d ks n ns → ((x : ℕ) → standing x ns' + bit (eqb x c) + bit (eqb x (twin c)) ≡ standing x ns) → Off K d ks (c / 2) n ns'
  off_both n c ns ns' whole s =
      off_gone n (c / 2) ns ns' (λ x. bit (eqb x c) + bit (eqb x (twin c))) whole (λ x. let t = s x in omega arith)
      (λ x e.
      let m = stands_most K d ks n x in
      ⊎_elim (λ q. let b = bit_is x c q in omega arith) (λ ne. let f = bit_is x (twin c) (omega arith) in omega arith) (cases_eq x c))
      (λ x ne. let b = bit_other x c (λ q. ne (omega arith)) in let f = bit_other x (twin c) (λ q. ne (omega arith)) in omega arith)

  pub off_self : (n c : ℕ) (ns ns' : List (N × List ℕ)) → Whole K d ks n ns → 1 ≤ stands K d ks n c → named K d ks c ≡ named K d ks (twin c) → ((x : ℕ) → standing x ns' + bit (eqb x c) ≡ standing x ns) → Off K d ks (c / 2) n ns'
  off_self n c ns ns' whole h self s =
      off_gone n (c / 2) ns ns' (λ x. bit (eqb x c)) whole s
      (λ x e.
      ⊎_elim
      (λ q. let m = stands_most K d ks n x in let b = bit_is x c q in omega arith)
      (λ ne.
      let even : c % 2 ≡ 0 = ⊎_elim (λ z. z) (λ z. absurd (let y = stands_self K d laws ks n c (omega arith) self in let no : ⊥ = omega arith in no)) (cases_eq (c % 2) 0) in
      let is : x ≡ twin c = omega arith in
      let back : twin x ≡ c = omega arith in
      let y = stands_self K d laws ks n x (omega arith) (ap (named K d ks) is ∙ sym self ∙ sym (ap (named K d ks) back)) in
      omega arith)
      (cases_eq x c))
      (λ x ne. bit_other x c (λ q. ne (omega arith)))
