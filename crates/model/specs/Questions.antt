-- What a map answers to each question. A list is asked for its k-th item, from 0: none from the end on.
use Rattle.std.specs.Prelude.{ℕ, Bool, ◌||◌, List, [], ◌∷◌, ◌++◌, map, length, Some, None, Ok, Err, Option, Result}
use Rattle.std.specs.List.{slice_get}
use Rattle.keys.specs.declared.kinds.Direction.{Direction}
use Rattle.keys.specs.declared.kinds.Direction.TheVariants.{Outgoing, Incoming}
use Rattle.keys.specs.declared.kinds.Kind.{Kind}
use Rattle.keys.specs.declared.refusals.Refusal.{Refusal}
use Rattle.keys.specs.declared.refusals.Refusal.TheVariants.{NodeAbsent, LinkAbsent, PastCount}
use Rattle.lists.specs.Positions.{position}
use Rattle.model.specs.declared.edge.Edge.{Edge}
use Rattle.model.specs.Keys.{Keys, eq}
use Rattle.model.specs.Lists.{some, found, kept}
use Rattle.model.specs.Maps.{State, Node, Link, Entry, agree, along, is_node, is_link, has_node, row}
use Rattle.model.specs.Calls.{link_key, weight_in}

-- a value that must be there, or the refusal
abbrev pub or_refuse : {X : Type 0} → Refusal → Option X → Result X Refusal
or_refuse f None = Err f
or_refuse f (Some x) = Ok x

-- the two ends in the order of the direction
abbrev pub ends : {N : Type 0} → Direction → N → N → N × N
ends Outgoing n m = (n, m)
ends Incoming n m = (m, n)

-- the number of entries of a row
abbrev pub degree_in : {N : Type 0} → Option (Node N) → Option ℕ
degree_in None = None
degree_in (Some n) = Some (length n.1)

-- the entries that a direction shows: in a Directed map those of that direction, and those that name the node itself
abbrev pub shown : {N V : Type 0} → Keys N V → Kind → Direction → V → Entry N → Bool
shown K k d v e = agree k e.1 d || eq K (K.value e.0) v

module _ {N E : Type 0} where
  -- the keys of the nodes, the keys of the links, and the links as they are listed
  abbrev pub node_keys : State N E → List N
  node_keys s = map (λ n. n.0) s.nodes

  abbrev pub link_keys : State N E → List (N × N)
  link_keys s = map (λ l. l.0) s.links

  abbrev pub all_edges : State N E → List (N × N × E)
  all_edges s = map (λ l. (l.0.0, l.0.1, l.1)) s.links

  -- both capacities
  abbrev pub rooms : State N E → ℕ × ℕ
  rooms s = (s.node_room, s.link_room)

module _ {N V E : Type 0} (K : Keys N V) where
  abbrev pub contains_node : N → State N E → Bool
  contains_node n s = has_node K (K.value n) s.nodes

  abbrev pub contains_edge : N → N → State N E → Bool
  contains_edge a b s = some (found (is_link K (link_key K s a b)) s.links)

  abbrev pub edge_weight : N → N → State N E → Option E
  edge_weight a b s = weight_in K (found (is_link K (link_key K s a b)) s.links)

  abbrev pub degree_of : N → State N E → Option ℕ
  degree_of n s = degree_in (found (is_node K (K.value n)) s.nodes)

  -- the entries of a row
  abbrev pub row_list : N → State N E → List (N × Direction)
  row_list n s = row K (K.value n) s.nodes

  -- neighbors_directed
  abbrev pub neighbor_list : N → Direction → State N E → List N
  neighbor_list n d s = map (λ e. e.0) (kept (shown K s.kind d (K.value n)) (row_list n s))

  -- edges_directed: for each neighbour the link to it, or from it, with its weight and its place
  abbrev pub edge_at : N × N → ℕ → Option (Link N E) → List (Edge N E)
  edge_at p i None = []
  edge_at p i (Some l) = record { source = p.0; target = p.1; weight = l.1; place = i } ∷ []

  abbrev pub edge_to : N × N → List (Link N E) → Option ℕ → List (Edge N E)
  edge_to p links None = []
  edge_to p links (Some i) = edge_at p i (slice_get links i)

  abbrev pub edges_to : N → Direction → State N E → List N → List (Edge N E)
  edges_to n d s [] = []
  edges_to n d s (m ∷ ms) =
      edge_to (ends d n m) s.links (position (is_link K (along K s.kind (K.value n) (K.value m) d)) s.links)
      ++ edges_to n d s ms

  abbrev pub edge_list : N → Direction → State N E → List (Edge N E)
  edge_list n d s = edges_to n d s (neighbor_list n d s)

  -- places: a node's, a link's, and the node and the link of a place
  abbrev pub node_index : N → State N E → Result ℕ Refusal
  node_index n s = or_refuse NodeAbsent (position (is_node K (K.value n)) s.nodes)

  abbrev pub edge_index : N → N → State N E → Result ℕ Refusal
  edge_index a b s = or_refuse LinkAbsent (position (is_link K (link_key K s a b)) s.links)

  -- indexing by a pair
  abbrev pub weight_or_refuse : N → N → State N E → Result E Refusal
  weight_or_refuse a b s = or_refuse LinkAbsent (edge_weight a b s)

module _ {N E : Type 0} where
  abbrev pub node_at_index : ℕ → State N E → Result N Refusal
  node_at_index i s = or_refuse PastCount (slice_get (node_keys s) i)

  abbrev pub edge_at_index : ℕ → State N E → Result (N × N) Refusal
  edge_at_index i s = or_refuse PastCount (slice_get (link_keys s) i)
