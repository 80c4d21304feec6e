-- What the search for a link's entry tells.
use Rattle.std.proofs.Common.{◌≡◌, ℕ, ◌<◌, ◌≤◌, true, List, [], length, get_or, Some, None, Option, sym, refl, ap, ◌∙◌, subst, inl, inr, arith}
use Rattle.std.proofs.lemmas.List.{get_or_default}
use Rattle.keys.specs.Order.{Laws}
use Rattle.keys.specs.declared.kinds.Direction.TheVariants.{Outgoing, Incoming}
use Rattle.keys.specs.declared.kinds.Kind.{Kind}
use Rattle.lists.specs.Positions.{position}
use Rattle.table.specs.Content.{Apart}
use Rattle.model.specs.Keys.{Keys}
use Rattle.model.specs.Lists.{found}
use Rattle.model.specs.Maps.{canon, is_node, is_link, hits}
use Rattle.model.proofs.Ends.{values}
use Rattle.rows.specs.declared.cells.RowHead.{RowHead}
use Rattle.rows.specs.HalfEdges.{twin}
use Rattle.rows.specs.Links.{bare}
use Rattle.halfedges.specs.Cells.{count, noded, row_at, twinned, Owned, Whole, Keyed}
use Rattle.halfedges.proofs.Links.{found_in}
use Rattle.halfedges.proofs.Told.{entry}
use Rattle.halfedges.proofs.Parting.{unnamed_outward, unnamed_inward, turned_in}
use Rattle.adjacency.specs.Stages.{NodeRows, rows_of}
use Rattle.adjacency.specs.Looks.{Looked}
use Rattle.adjacency.proofs.Entries.{rowed_length, row_read}
use Rattle.adjacency.proofs.Owners.{key_place}
use Rattle.adjacency.proofs.Seating.{node_position}

-- a node is where its value is
pub seat_of : {N V : Type 0} (K : Keys N V) (laws : Laws K.order) (d : N) (ks : List N) (r : NodeRows N) → Apart K.value r.nodes.entries
    → (v : V) (i : ℕ) → i < length (rows_of r) → K.value (get_or (rows_of r) i (d, [])).0 ≡ v → position (is_node K v) (noded ks (rows_of r)) ≡ Some i
seat_of {N} K laws d ks r apart v i l h =
    let es = r.nodes.entries in
    let m : i < length es = omega (arith, rowed_length r.cells es) in
    let e : N × RowHead = (d, bare) in
    node_position K v ks r.cells es
    ∙ key_place K laws es v i apart m (λ y. ap (λ z. K.value z.0) (get_or_default es i y e m) ∙ sym (ap (λ z. K.value z.0) (row_read r.cells es i e m)) ∙ h)

untwinned : (o : Option ℕ) (c : ℕ) → twinned o ≡ Some c → (t : ℕ) × (o ≡ Some t) × (c ≡ twin t)
untwinned None c e = let z : ◌≡◌ {A = ℕ} 0 1 = cc in absurd (omega arith)
untwinned (Some t) c e = (t, refl, cc)

untwinned_none : (o : Option ℕ) → twinned o ≡ None → o ≡ None
untwinned_none None e = refl
untwinned_none (Some t) e = let z : ◌≡◌ {A = ℕ} 0 1 = cc in absurd (omega arith)

module _ {N V E : Type 0} (K : Keys N V) (laws : Laws K.order) (d : N) (k : Kind) (ks : List N) (ls : List ((N × N) × E))
    (keyed : Keyed K d k ks ls) (apart : Apart (values K) ls)
    (ns : List (N × List ℕ)) (owned : Owned K d ks ns) (whole : Whole K d ks (length ls) ns)
    (seat : (v : V) (i : ℕ) → i < length ns → K.value (get_or ns i (d, [])).0 ≡ v → position (is_node K v) (noded ks ns) ≡ Some i)
    (a b : V) (i j : ℕ) (ati : position (is_node K a) (noded ks ns) ≡ Some i) (atj : position (is_node K b) (noded ks ns) ≡ Some j) where
  apart_ends : (i ≡ j → ⊥) → a ≡ b → ⊥
  apart_ends ne e =
      let z : Some i ≡ Some j = sym ati ∙ ap (λ v. position (is_node K v) (noded ks ns)) e ∙ atj in
      ne (cc)

  -- where nothing is found there is no link
  pub looked_none : Looked K d k ks ns i j a b None → position (is_link K (canon K k a b)) ls ≡ None
  looked_none (inl h) = unnamed_outward K laws d k ks ls keyed apart ns owned whole seat a b i ati (sym h)
  looked_none (inr (ne, h)) =
      unnamed_inward K laws d k ks ls keyed apart ns owned whole seat b a j (λ q. apart_ends ne (sym q)) atj (untwinned_none _ (sym h))

  -- what is found is the cell of a's row that names b
  pub looked_some : (c : ℕ) → Looked K d k ks ns i j a b (Some c) → (1 ≤ count c (row_at ns i d)) × (hits K k b Outgoing (entry d ks c) ≡ true)
  looked_some c (inl h) = found_in (λ x. hits K k b Outgoing (entry d ks x)) (row_at ns i d) c (sym h)
  looked_some c (inr (ne, h)) =
      let u = untwinned (found (λ x. hits K k a Incoming (entry d ks x)) (row_at ns j d)) c (sym h) in
      let f = found_in (λ x. hits K k a Incoming (entry d ks x)) (row_at ns j d) u.0 u.1 in
      let t = turned_in K laws d k ks ls keyed apart ns owned whole seat a b i j u.0 (apart_ends ne) ati atj f.0 f.1 in
      subst (λ z. (1 ≤ count z (row_at ns i d)) × (hits K k b Outgoing (entry d ks z) ≡ true)) (sym u.2) t
