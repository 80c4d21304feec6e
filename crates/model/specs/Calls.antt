-- What each call that changes a map answers, and the map then. A call that is refused leaves the map as it was.
use Rattle.std.specs.Prelude.{ℕ, ◌+◌, Bool, true, false, cond, List, [], ◌∷◌, ◌++◌, length, Some, None, Ok, Err, Option, Result, nat_le, nat_lt}
use Rattle.keys.specs.Kinds.{opposite_of}
use Rattle.keys.specs.Refusals.{number_of}
use Rattle.keys.specs.declared.kinds.Kind.{Kind}
use Rattle.keys.specs.declared.refusals.Refusal.{Refusal}
use Rattle.keys.specs.declared.refusals.Refusal.TheVariants.{LinksFull, NodesFull}
use Rattle.model.specs.Keys.{Keys}
use Rattle.model.specs.Lists.{found, without, amended}
use Rattle.model.specs.Maps.{State, Node, Link, Entry, holding, edge_key, canon, along, is_node, is_link, has_node, joined, parted, unentered, wanted}

-- the entries of a row whose node, of value v, has left: the matching ones leave the rows of the other ends, in order
module _ {N V : Type 0} (K : Keys N V) where
  abbrev pub cut_nodes : Kind → V → List (Entry N) → List (Node N) → List (Node N)
  cut_nodes k v [] nodes = nodes
  cut_nodes k v (e ∷ r) nodes = cut_nodes k v r (unentered K k (K.value e.0) v (opposite_of e.1) nodes)

module _ {N V E : Type 0} (K : Keys N V) where
  -- the value of the key of the link from a to b
  abbrev pub link_key : State N E → N → N → V × V
  link_key s a b = canon K s.kind (K.value a) (K.value b)

  abbrev pub weight_in : Option (Link N E) → Option E
  weight_in None = None
  weight_in (Some l) = Some l.1

  -- another weight at a key
  abbrev pub reweighted : V × V → E → List (Link N E) → List (Link N E)
  reweighted κ w links = amended (is_link K κ) (λ l. (l.0, w)) links

  -- add_node: a key that is there is answered; one that is not is appended, if the node capacity allows
  abbrev pub add_node : N → State N E → Result N Refusal × State N E
  add_node n s =
      cond (has_node K (K.value n) s.nodes)
      (Ok n, s)
      (cond (nat_le s.node_room (length s.nodes))
      (Err NodesFull, s)
      (Ok n, holding s (s.nodes ++ (n, []) ∷ []) s.links))

  -- add_edge: a link that is there gets the weight, and the old one is answered; a new one is appended, if both
  -- capacities allow, and entered in the rows of its ends
  abbrev pub add_new : N → N → E → State N E → Result (Option E) Refusal × State N E
  add_new a b w s =
      cond (nat_le s.link_room (length s.links))
      (Err LinksFull, s)
      (cond (nat_lt s.node_room (length s.nodes + wanted K a b s.nodes))
      (Err NodesFull, s)
      (Ok None, holding s (joined K a b s.nodes) (s.links ++ (edge_key K s.kind a b, w) ∷ [])))

  abbrev pub add_found : Option (Link N E) → N → N → E → State N E → Result (Option E) Refusal × State N E
  add_found None a b w s = add_new a b w s
  add_found (Some l) a b w s = (Ok (Some l.1), holding s s.nodes (reweighted (link_key s a b) w s.links))

  abbrev pub add_edge : N → N → E → State N E → Result (Option E) Refusal × State N E
  add_edge a b w s = add_found (found (is_link K (link_key s a b)) s.links) a b w s

  -- set_weight: the old weight, and the new one in its place
  abbrev pub set_weight : N → N → E → State N E → Option E × State N E
  set_weight a b w s =
      (weight_in (found (is_link K (link_key s a b)) s.links), holding s s.nodes (reweighted (link_key s a b) w s.links))

  -- remove_edge: the link's entries leave the rows of its ends, and the link the list, each by swap removal
  abbrev pub remove_found : Option (Link N E) → N → N → State N E → Option E × State N E
  remove_found None a b s = (None, s)
  remove_found (Some l) a b s =
      (Some l.1, holding s (parted K s.kind (K.value a) (K.value b) s.nodes) (without (is_link K (link_key s a b)) s.links))

  abbrev pub remove_edge : N → N → State N E → Option E × State N E
  remove_edge a b s = remove_found (found (is_link K (link_key s a b)) s.links) a b s

  -- remove_node: the node leaves first; then, for each entry of its row in order, the matching entry leaves the
  -- other end's row, and the link the list
  abbrev pub cut_links : Kind → V → List (Entry N) → List (Link N E) → List (Link N E)
  cut_links k v [] links = links
  cut_links k v (e ∷ r) links = cut_links k v r (without (is_link K (along K k v (K.value e.0) e.1)) links)

  abbrev pub drop_found : Option (Node N) → V → State N E → Bool × State N E
  drop_found None v s = (false, s)
  drop_found (Some n) v s =
      (true, holding s (cut_nodes K s.kind v n.1 (without (is_node K v) s.nodes)) (cut_links s.kind v n.1 s.links))

  abbrev pub remove_node : N → State N E → Bool × State N E
  remove_node n s = drop_found (found (is_node K (K.value n)) s.nodes) (K.value n) s

  -- clear: nothing is left
  abbrev pub clear : State N E → State N E
  clear s = holding s [] []

-- extend: the items in order, up to the first that is refused; what is left of the list, with it, and its number
module _ {N V E I : Type 0} (K : Keys N V) (item : I → N × N × E) where
  abbrev pub go_on : Result (Option E) Refusal → List I → State N E → (List I × ℕ) × State N E → (List I × ℕ) × State N E
  go_on (Err f) items s next = ((items, number_of f), s)
  go_on (Ok o) items s next = next

  abbrev pub extend : List I → State N E → (List I × ℕ) × State N E
  extend [] s = (([], 0), s)
  extend (i ∷ is) s =
      let r = add_edge K (item i).0 (item i).1 (item i).2 s in
      go_on r.0 (i ∷ is) s (extend is r.1)
