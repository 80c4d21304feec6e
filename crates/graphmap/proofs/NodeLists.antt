-- The cells to come from the start of a node's row, in sound parts: its entries, neighbours and edges.
use Rattle.std.proofs.Common.{◌≡◌, ℕ, ◌*◌, ◌<◌, List, map, length, Some, Option, Ordering, sym, ap, ◌∙◌, arith}
use Rattle.std.specs.List.{slice_get}
use Rattle.std.specs.Option.{option_map, option_flatten}
use Rattle.keys.specs.Order.{Laws}
use Rattle.keys.specs.declared.kinds.Direction.{Direction}
use Rattle.keys.specs.declared.kinds.Direction.TheVariants.{Outgoing}
use Rattle.keys.specs.declared.kinds.Kind.TheVariants.{Undirected}
use Rattle.model.specs.Keys.{Keys, keys}
use Rattle.model.specs.Lists.{kept}
use Rattle.model.specs.Maps.{State}
use Rattle.model.specs.Questions.{shown, degree_of, row_list, neighbor_list, edge_list, edges_to}
use Rattle.rows.specs.declared.cells.RowHead.{RowHead}
use Rattle.rows.specs.Walks.{walk_of, upcoming}
use Rattle.halfedges.proofs.Stands.{stands_below}
use Rattle.halfedges.proofs.Told.{entry}
use Rattle.adjacency.specs.Stages.{Stage, keys_of}
use Rattle.graphmap.specs.Parts.{Parts, Sound, state_of}
use Rattle.adjacency.specs.Heads.{head_of, row_of}
use Rattle.graphmap.specs.Walks.{key_of, edge_of}
use Rattle.graphmap.proofs.Lists.{nth_through, nth_answered}
use Rattle.graphmap.proofs.NodeRows.{Headed, headed, degree_is}
use Rattle.graphmap.proofs.Upcoming.{upcoming_shown, upcoming_keys, upcoming_entries}
use Rattle.graphmap.proofs.LinkPlaces.{shown_place, edges_at_half}

module _ {N V E : Type 0} {value : N → V} {order : V → V → Ordering} (p : Parts N E)
    (laws : Laws order) (stage : Stage value order p.rows) (n : N) where
  abbrev K : Keys N V
  K = keys value order

  abbrev state : State N E
  state = state_of p

  abbrev head : RowHead
  head = row_of K (value n) p.rows.nodes.entries

  at_head : Headed K (value n) p.rows.cells p.rows.nodes.entries head
  at_head = headed K (value n) p.rows.cells p.rows.nodes.entries laws stage.rings stage.owned

  pub degree_told : option_map (λ h. h.len) (head_of K (value n) p.rows.nodes.entries) ≡ degree_of K n state
  degree_told = degree_is K (value n) p.rows.cells p.rows.nodes.entries laws stage.rings stage.owned

  module _ (e : N) where
    pub entries_told : map (entry e (keys_of p.rows)) (upcoming K e p.rows.cells Undirected Outgoing (value n) (walk_of head)) ≡ row_list K n state
    entries_told = upcoming_entries K e p.rows.cells (value n) head at_head.linked ∙ sym at_head.entries

    pub entry_told : (k : ℕ) (r : Option ℕ) → r ≡ slice_get (upcoming K e p.rows.cells Undirected Outgoing (value n) (walk_of head)) k → option_map (entry e (keys_of p.rows)) r ≡ slice_get (row_list K n state) k
    entry_told k r q = nth_through (entry e (keys_of p.rows)) _ (row_list K n state) k r entries_told q

    module _ (d : Direction) where
      abbrev cells : List ℕ
      cells = upcoming K e p.rows.cells p.kind d (value n) (walk_of head)

      pub neighbors_told : map (key_of e p.rows.cells) cells ≡ neighbor_list K n d state
      neighbors_told =
          upcoming_keys K e p.rows.cells p.kind d (value n) head at_head.linked
          ∙ ap (λ r. map (λ x. x.0) (kept (shown K p.kind d (value n)) r)) (sym at_head.entries)

      -- the same by places, where r is the cell that was found at k
      pub neighbor_told : (k : ℕ) (r : Option ℕ) → r ≡ slice_get cells k → option_map (key_of e p.rows.cells) r ≡ slice_get (neighbor_list K n d state) k
      neighbor_told k r q = nth_through (key_of e p.rows.cells) cells (neighbor_list K n d state) k r neighbors_told q

      module _ (sound : Sound value order p) where
        pub edges_told : map (edge_of e p.rows.cells p.links.entries (n, d)) cells ≡ map Some (edge_list K n d state)
        edges_told =
            edges_at_half K n d state (key_of e p.rows.cells) cells (λ c o.
            let s = upcoming_shown K e p.rows.cells p.kind d (value n) head at_head.linked c o in
            let st = at_head.stands c s.0 in
            let l : c < 2 * length p.links.entries = stands_below K e (keys_of p.rows) (length p.links.entries) c (omega (arith, sound.whole e c)) in
            (shown_place K laws e p.kind (keys_of p.rows) p.links.entries (sound.keyed e) sound.apart c (value n) d l (at_head.own e c s.0) s.1, omega arith))
            ∙ ap (λ ms. map Some (edges_to K n d state ms)) neighbors_told

        pub edge_told : (k : ℕ) (r : Option ℕ) → r ≡ slice_get cells k → option_flatten (option_map (edge_of e p.rows.cells p.links.entries (n, d)) r) ≡ slice_get (edge_list K n d state) k
        edge_told k r q = nth_answered (edge_of e p.rows.cells p.links.entries (n, d)) cells (edge_list K n d state) k r edges_told q
