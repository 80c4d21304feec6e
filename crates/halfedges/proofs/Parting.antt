-- The entries of a link from a to b: where they stand, and the rows without them.
use Rattle.std.proofs.Common.{◌≡◌, ℕ, ◌*◌, ◌/◌, ◌<◌, ◌≤◌, true, List, [], length, get_or, Some, None, Option, sym, refl, ap, ◌∙◌, subst, arith}
use Rattle.std.proofs.lemmas.Bool.{cond-true, cond-false, and_parts, both_ways}
use Rattle.keys.specs.Order.{Laws}
use Rattle.keys.specs.declared.kinds.Direction.{Direction}
use Rattle.keys.specs.declared.kinds.Direction.TheVariants.{Outgoing, Incoming}
use Rattle.keys.specs.declared.kinds.Kind.{Kind}
use Rattle.lists.specs.Positions.{position}
use Rattle.lists.specs.Swap.{swap_removed}
use Rattle.table.specs.Content.{Apart}
use Rattle.rows.specs.Rings.{nth}
use Rattle.rows.specs.HalfEdges.{side, twin}
use Rattle.model.specs.Keys.{Keys, eq}
use Rattle.model.specs.Lists.{found}
use Rattle.model.specs.Maps.{agree, canon, is_node, is_link, hits, unentered, parted}
use Rattle.model.proofs.Tests.{eq_true, same_eq, other_eq}
use Rattle.model.proofs.Ends.{values}
use Rattle.halfedges.specs.Cells.{count, noded, row_at, put_row, named, stands, Owned, Whole, Most, Off, Keyed}
use Rattle.halfedges.proofs.Counts.{count_swap_removed}
use Rattle.halfedges.proofs.Told.{entry}
use Rattle.halfedges.proofs.Rows.{stands_in_row, held_in, position_noded, position_put, read_other, length_put, owned_put}
use Rattle.halfedges.proofs.Stands.{stands_below}
use Rattle.halfedges.proofs.Links.{found_not, hit_place, Named, named_outward, named_inward}
use Rattle.halfedges.proofs.Leaving.{value_at, left_standing, left_noded, twin_hits, twin_stands, off_both, off_self}

pub whole_most : {N V : Type 0} (K : Keys N V) (d : N) (ks : List N) (n : ℕ) (ns : List (N × List ℕ)) → Whole K d ks n ns → Most K d ks n ns
whole_most K d ks n ns w x = let e = w x in omega arith

module _ {N V E : Type 0} (K : Keys N V) (laws : Laws K.order) (d : N) (k : Kind) (ks : List N) (ls : List ((N × N) × E))
    (keyed : Keyed K d k ks ls) (apart : Apart (values K) ls)
    (ns : List (N × List ℕ)) (owned : Owned K d ks ns) (whole : Whole K d ks (length ls) ns)
    (seat_of : (v : V) (i : ℕ) → i < length ns → K.value (get_or ns i (d, [])).0 ≡ v → position (is_node K v) (noded ks ns) ≡ Some i) where
  -- a link that is there has a cell in the row of v
  in_row : (v m : V) (t : Direction) → Named K laws d k ks ls keyed apart v m t → (i : ℕ) × (position (is_node K v) (noded ks ns) ≡ Some i) × ((c : ℕ) × (1 ≤ count c (row_at ns i d)) × (hits K k m t (entry d ks c) ≡ true))
  in_row v m t n =
      let s = held_in K d ks ns n.cell owned (let e = whole n.cell in let z = n.there in omega arith) in
      (s.0, seat_of v s.0 s.1 (sym s.3 ∙ n.own), (n.cell, s.2, n.hit))

  -- so there is none where v is absent, or where no entry of its row names m
  pub absent_outward : (v m : V) → position (is_node K v) (noded ks ns) ≡ None → position (is_link K (canon K k v m)) ls ≡ None
  absent_outward v m off = by (position (is_link K (canon K k v m)) ls) refl
    where
      by : (o : Option ℕ) → position (is_link K (canon K k v m)) ls ≡ o → position (is_link K (canon K k v m)) ls ≡ None
      by None e = e
      by (Some p) e =
          let r = in_row v m Outgoing (named_outward K laws d k ks ls keyed apart p v m e) in
          let z : None ≡ Some r.0 = sym off ∙ r.1 in
          let w : ◌≡◌ {A = ℕ} 0 1 = cc in absurd (omega arith)

  pub absent_inward : (v m : V) → (v ≡ m → ⊥) → position (is_node K v) (noded ks ns) ≡ None → position (is_link K (canon K k m v)) ls ≡ None
  absent_inward v m ne off = by (position (is_link K (canon K k m v)) ls) refl
    where
      by : (o : Option ℕ) → position (is_link K (canon K k m v)) ls ≡ o → position (is_link K (canon K k m v)) ls ≡ None
      by None e = e
      by (Some p) e =
          let r = in_row v m Incoming (named_inward K laws d k ks ls keyed apart p v m ne e) in
          let z : None ≡ Some r.0 = sym off ∙ r.1 in
          let w : ◌≡◌ {A = ℕ} 0 1 = cc in absurd (omega arith)

  unnamed : (v m : V) (t : Direction) (i : ℕ) → position (is_node K v) (noded ks ns) ≡ Some i → found (λ x. hits K k m t (entry d ks x)) (row_at ns i d) ≡ None → Named K laws d k ks ls keyed apart v m t → ⊥
  unnamed v m t i at off n =
      let r = in_row v m t n in
      let s : Some r.0 ≡ Some i = sym r.1 ∙ at in
      let e : r.0 ≡ i = cc in
      let c = r.2 in
      both_ways _ (found_not (λ x. hits K k m t (entry d ks x)) (row_at ns i d) c.0 off (subst (λ z. 1 ≤ count c.0 (row_at ns z d)) e c.1)) c.2

  pub unnamed_outward : (v m : V) (i : ℕ) → position (is_node K v) (noded ks ns) ≡ Some i → found (λ x. hits K k m Outgoing (entry d ks x)) (row_at ns i d) ≡ None → position (is_link K (canon K k v m)) ls ≡ None
  unnamed_outward v m i at off = by (position (is_link K (canon K k v m)) ls) refl
    where
      by : (o : Option ℕ) → position (is_link K (canon K k v m)) ls ≡ o → position (is_link K (canon K k v m)) ls ≡ None
      by None e = e
      by (Some p) e = absurd (unnamed v m Outgoing i at off (named_outward K laws d k ks ls keyed apart p v m e))

  pub unnamed_inward : (v m : V) (i : ℕ) → (v ≡ m → ⊥) → position (is_node K v) (noded ks ns) ≡ Some i → found (λ x. hits K k m Incoming (entry d ks x)) (row_at ns i d) ≡ None → position (is_link K (canon K k m v)) ls ≡ None
  unnamed_inward v m i ne at off = by (position (is_link K (canon K k m v)) ls) refl
    where
      by : (o : Option ℕ) → position (is_link K (canon K k m v)) ls ≡ o → position (is_link K (canon K k m v)) ls ≡ None
      by None e = e
      by (Some p) e = absurd (unnamed v m Incoming i at off (named_inward K laws d k ks ls keyed apart p v m ne e))

  -- an entry of b's row that names a in the other direction has its twin in a's row
  pub turned_in : (a b : V) (i j t : ℕ) → (a ≡ b → ⊥) → position (is_node K a) (noded ks ns) ≡ Some i → position (is_node K b) (noded ks ns) ≡ Some j
      → 1 ≤ count t (row_at ns j d) → hits K k a Incoming (entry d ks t) ≡ true → (1 ≤ count (twin t) (row_at ns i d)) × (hits K k b Outgoing (entry d ks (twin t)) ≡ true)
  turned_in a b i j t ne ati atj held hit =
      let w = value_at K laws d ks ns b j atj in
      let own = owned j t w.0 held ∙ w.1 in
      let is : named K d ks t ≡ a = eq_true K laws _ _ (and_parts (eq K (named K d ks t) a) (agree k (side t) Incoming) hit).0 in
      let st : 1 ≤ stands K d ks (length ls) t = let s = stands_in_row d ns j t w.0 held in let e = whole t in omega arith in
      let tw = twin_stands K laws d ks (length ls) t st (λ q. ne (sym is ∙ q ∙ own)) in
      let back : twin (twin t) ≡ t = omega arith in
      let h = held_in K d ks ns (twin t) owned (let e = whole (twin t) in omega arith) in
      let at = seat_of a h.0 h.1 (sym h.3 ∙ ap (named K d ks) back ∙ is) in
      let s : Some h.0 ≡ Some i = sym at ∙ ati in
      let e : h.0 ≡ i = cc in
      (subst (λ z. 1 ≤ count (twin t) (row_at ns z d)) e h.2, twin_hits K laws d ks k b a Incoming t own hit)

  -- the entries leave
  module _ (fits : 2 * length ls ≤ length ks) (a b : V) (i j c : ℕ) (ati : position (is_node K a) (noded ks ns) ≡ Some i) (atj : position (is_node K b) (noded ks ns) ≡ Some j)
      (held : 1 ≤ count c (row_at ns i d)) (hit : hits K k b Outgoing (entry d ks c) ≡ true) where
    here : (i < length ns) × (K.value (get_or ns i (d, [])).0 ≡ a)
    here = value_at K laws d ks ns a i ati

    own : named K d ks (twin c) ≡ a
    own = owned i c here.0 held ∙ here.1

    is_other : named K d ks c ≡ b
    is_other = eq_true K laws _ _ (and_parts (eq K (named K d ks c) b) (agree k (side c) Outgoing) hit).0

    pub there : 1 ≤ stands K d ks (length ls) c
    there = let s = stands_in_row d ns i c here.0 held in let e = whole c in omega arith

    pub cell_place : (c / 2 < length ls) × (position (is_link K (canon K k a b)) ls ≡ Some (c / 2))
    cell_place =
        let l = stands_below K d ks (length ls) c there in
        (omega arith, hit_place K laws d k ks ls keyed apart c a b Outgoing l own hit)

    module _ (q : ℕ) (lq : q < length (row_at ns i d)) (at : nth (row_at ns i d) q ≡ c) where
      abbrev less : List (N × List ℕ)
      less = put_row ns i d (swap_removed (row_at ns i d) q)

      pub same_ends : i ≡ j → a ≡ b
      same_ends e = sym here.1 ∙ ap (λ z. K.value (get_or ns z (d, [])).0) e ∙ (value_at K laws d ks ns b j atj).1

      pub parted_self : i ≡ j → noded ks less ≡ parted K k a b (noded ks ns)
      parted_self e =
          left_noded K laws d k ks ls keyed apart fits ns owned (whole_most K d ks (length ls) ns whole) a b Outgoing i c q ati lq at held hit
          ∙ sym (cond-true _ _ _ (same_eq K laws _ _ (same_ends e)))

      pub off_parted_self : i ≡ j → Off K d ks (c / 2) (length ls) less
      off_parted_self e =
          off_self K laws d ks (length ls) c ns less whole there (is_other ∙ sym (same_ends e) ∙ sym own) (left_standing d ns i c q here.0 lq at)

      pub other_ends : (i ≡ j → ⊥) → a ≡ b → ⊥
      other_ends ne e =
          let z : Some i ≡ Some j = sym ati ∙ ap (λ v. position (is_node K v) (noded ks ns)) e ∙ atj in
          ne (cc)

      -- the twin is in the row of b, before and after
      pub twin_held : (i ≡ j → ⊥) → 1 ≤ count (twin c) (row_at ns j d)
      twin_held ne =
          let tw = twin_stands K laws d ks (length ls) c there (λ e. other_ends ne (sym own ∙ sym e ∙ is_other)) in
          let back : twin (twin c) ≡ c = omega arith in
          let h = held_in K d ks ns (twin c) owned (let e = whole (twin c) in omega arith) in
          let w = seat_of b h.0 h.1 (sym h.3 ∙ ap (named K d ks) back ∙ is_other) in
          let s : Some h.0 ≡ Some j = sym w ∙ atj in
          let e : h.0 ≡ j = cc in
          subst (λ z. 1 ≤ count (twin c) (row_at ns z d)) e h.2

      pub row_still : (i ≡ j → ⊥) → row_at less j d ≡ row_at ns j d
      row_still ne = ap (λ n. n.1) (read_other d ns i here.0 (swap_removed (row_at ns i d) q) j (λ e. ne (sym e)))

      module _ (ne : i ≡ j → ⊥) (r : ℕ) (lr : r < length (row_at less j d)) (atr : nth (row_at less j d) r ≡ twin c) where
        abbrev least : List (N × List ℕ)
        least = put_row less j d (swap_removed (row_at less j d) r)

        within_less : j < length less
        within_less = omega (arith, (value_at K laws d ks ns b j atj).0, length_put d ns i here.0 (swap_removed (row_at ns i d) q))

        pub parted_both : noded ks least ≡ parted K k a b (noded ks ns)
        parted_both =
            left_noded K laws d k ks ls keyed apart fits less
            (owned_put d ns i here.0 (swap_removed (row_at ns i d) q) K ks owned (λ x h. owned i x here.0 (let m = count_swap_removed x c q (row_at ns i d) lq at in omega arith)))
            (λ x. let s = left_standing d ns i c q here.0 lq at x in let e = whole x in omega arith)
            b a Incoming j (twin c) r
            (position_noded K b ks less ∙ position_put K b d ns i (swap_removed (row_at ns i d) q) ∙ sym (position_noded K b ks ns) ∙ atj)
            lr atr (subst (λ z. 1 ≤ count (twin c) z) (sym (row_still ne)) (twin_held ne)) (twin_hits K laws d ks k a b Outgoing c own hit)
            ∙ ap (unentered K k b a Incoming) (left_noded K laws d k ks ls keyed apart fits ns owned (whole_most K d ks (length ls) ns whole) a b Outgoing i c q ati lq at held hit)
            ∙ sym (cond-false _ _ _ (other_eq K laws _ _ (other_ends ne)))

        pub off_parted_both : Off K d ks (c / 2) (length ls) least
        off_parted_both =
            off_both K laws d ks (length ls) c ns least whole (λ x.
            let s = left_standing d ns i c q here.0 lq at x in
            let t = left_standing d less j (twin c) r within_less lr atr x in
            omega arith)
