-- The link of a cell that is shown is at half the cell's number.
use Rattle.std.proofs.Common.{◌≡◌, ℕ, ◌*◌, ◌/◌, ◌<◌, ◌≤◌, true, List, [], ◌∷◌, ◌++◌, map, length, get_or, Some, Option, sym, refl, ap, ◌∙◌, ⊎_elim, arith}
use Rattle.std.specs.List.{slice_get}
use Rattle.std.proofs.lemmas.Bool.{or_cases, and_from}
use Rattle.std.proofs.lemmas.Option.{slice_get-get_or}
use Rattle.keys.specs.Order.{Laws}
use Rattle.keys.specs.declared.kinds.Direction.{Direction}
use Rattle.keys.specs.declared.kinds.Direction.TheVariants.{Outgoing, Incoming}
use Rattle.keys.specs.declared.kinds.Kind.{Kind}
use Rattle.lists.specs.Positions.{position}
use Rattle.table.specs.Content.{Apart}
use Rattle.model.specs.declared.edge.Edge.{Edge}
use Rattle.model.specs.Keys.{Keys, eq}
use Rattle.model.specs.Maps.{State, agree, along, is_link}
use Rattle.model.specs.Questions.{ends, shown, edge_at, edge_to, edges_to}
use Rattle.model.proofs.Tests.{same_eq, eq_true}
use Rattle.model.proofs.Ends.{values}
use Rattle.rows.specs.HalfEdges.{side, twin}
use Rattle.halfedges.specs.Cells.{count, named, Keyed}
use Rattle.halfedges.proofs.Counts.{bit_same}
use Rattle.halfedges.proofs.Told.{entry}
use Rattle.halfedges.proofs.Links.{hit_place, own_place}
use Rattle.adjacency.proofs.Entries.{some_of}
use Rattle.graphmap.specs.Walks.{as_edge}

-- a link from a node to itself is the same in both directions
along_itself : {N V : Type 0} (K : Keys N V) (k : Kind) (v : V) (s t : Direction) → along K k v v s ≡ along K k v v t
along_itself K k v Outgoing Outgoing = refl
along_itself K k v Outgoing Incoming = refl
along_itself K k v Incoming Outgoing = refl
along_itself K k v Incoming Incoming = refl

module _ {N V E : Type 0} (K : Keys N V) (laws : Laws K.order) (e : N) (k : Kind) (ks : List N) (ls : List ((N × N) × E))
    (keyed : Keyed K e k ks ls) (apart : Apart (values K) ls) where
  pub shown_place : (x : ℕ) (v : V) (d : Direction) → x < 2 * length ls → named K e ks (twin x) ≡ v → shown K k d v (entry e ks x) ≡ true
      → position (is_link K (along K k v (named K e ks x) d)) ls ≡ Some (x / 2)
  shown_place x v d l own s =
      ⊎_elim
      (λ a. hit_place K laws e k ks ls keyed apart x v (named K e ks x) d l own (and_from (eq K (named K e ks x) (named K e ks x)) (agree k (side x) d) (same_eq K laws _ _ refl) a))
      (λ b.
      let is = eq_true K laws (named K e ks x) v b in
      ap (λ m. position (is_link K (along K k v m d)) ls) is
      ∙ ap (λ κ. position (is_link K κ) ls) (along_itself K k v d (side x))
      ∙ own_place K laws e k ks ls keyed apart x v v l own is)
      (or_cases (agree k (side x) d) (eq K (named K e ks x) v) s)

-- cells whose links are at half their numbers, as edges
module _ {N V E : Type 0} (K : Keys N V) (n : N) (d : Direction) (s : State N E) (key : ℕ → N) where
  abbrev pub edge_at_half : ℕ → Option (Edge N E)
  edge_at_half c = as_edge (ends d n (key c)) (c / 2) (slice_get s.links (c / 2))

  abbrev AtHalf : ℕ → Type 0
  AtHalf c = position (is_link K (along K s.kind (K.value n) (K.value (key c)) d)) s.links ≡ Some (c / 2)

  pub edges_at_half : (xs : List ℕ) → ((c : ℕ) → 1 ≤ count c xs → AtHalf c × (c / 2 < length s.links)) → map edge_at_half xs ≡ map Some (edges_to K n d s (map key xs))
  edges_at_half [] h = refl
  edges_at_half (c ∷ xs) h =
      let here = h c (let b = bit_same c in omega arith) in
      let rest = edges_at_half xs (λ x o. h x (omega arith)) in
      let x = get_or s.links (c / 2) (some_of s.links (c / 2) here.1) in
      let at = slice_get-get_or s.links (c / 2) (some_of s.links (c / 2) here.1) here.1 in
      let ps = edges_to K n d s (map key xs) in
      let one : edge_to K (ends d n (key c)) s.links (position (is_link K (along K s.kind (K.value n) (K.value (key c)) d)) s.links)
      ≡ edge_at K (ends d n (key c)) (c / 2) (Some x) =
      ap (edge_to K (ends d n (key c)) s.links) here.0 ∙ ap (edge_at K (ends d n (key c)) (c / 2)) at in
      (λ i. as_edge (ends d n (key c)) (c / 2) (at i) ∷ rest i) ∙ sym (ap (λ ys. map Some (ys ++ ps)) one)
