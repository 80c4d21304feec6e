-- A link map as lists: the nodes, each with its row, and the links, each with its weight.
use Rattle.std.specs.Prelude.{ℕ, ◌+◌, Bool, true, false, cond, not, ◌&&◌, List, [], ◌∷◌, ◌++◌, Some, None, Option}
use Rattle.std.specs.Ordering.{is_gt}
use Rattle.keys.specs.declared.kinds.Direction.{Direction}
use Rattle.keys.specs.declared.kinds.Direction.TheVariants.{Outgoing, Incoming}
use Rattle.keys.specs.declared.kinds.Kind.{Kind}
use Rattle.keys.specs.declared.kinds.Kind.TheVariants.{Directed, Undirected}
use Rattle.model.specs.Keys.{Keys, eq}
use Rattle.model.specs.Lists.{bit, some, found, without, amended}

-- an entry of a row: the key of the other end, and the direction
abbrev pub Entry : Type 0 → Type 0
Entry N = N × Direction

-- a node with its row
abbrev pub Node : Type 0 → Type 0
Node N = N × List (N × Direction)

-- a link's key with its weight
abbrev pub Link : Type 0 → Type 0 → Type 0
Link N E = (N × N) × E

pub record State (N E : Type 0) : Type 0 where
  pub kind : Kind
  pub node_room : ℕ
  pub link_room : ℕ
  pub nodes : List (N × List (N × Direction))
  pub links : List ((N × N) × E)

-- a new map
abbrev pub fresh : {N E : Type 0} → Kind → ℕ → ℕ → State N E
fresh k n l = record { kind = k; node_room = n; link_room = l; nodes = []; links = [] }

-- the same map with other nodes and links
abbrev pub holding : {N E : Type 0} → State N E → List (N × List (N × Direction)) → List ((N × N) × E) → State N E
holding s ns ls = record { kind = s.kind; node_room = s.node_room; link_room = s.link_room; nodes = ns; links = ls }

-- whether an entry's direction is the one that is asked for: an Undirected map takes any
abbrev pub agree : Kind → Direction → Direction → Bool
agree Undirected d e = true
agree Directed Outgoing Outgoing = true
agree Directed Outgoing Incoming = false
agree Directed Incoming Outgoing = false
agree Directed Incoming Incoming = true

module _ {N V : Type 0} (K : Keys N V) where
  -- the key of the link from a to b
  abbrev pub edge_key : Kind → N → N → N × N
  edge_key Directed a b = (a, b)
  edge_key Undirected a b = cond (is_gt (K.order (K.value a) (K.value b))) (b, a) (a, b)

  -- the value of that key, from the values of the two ends
  abbrev pub canon : Kind → V → V → V × V
  canon Directed x y = (x, y)
  canon Undirected x y = cond (is_gt (K.order x y)) (y, x) (x, y)

  -- the same for the link that an entry of v's row stands for: from v to m, or from m to v
  abbrev pub along : Kind → V → V → Direction → V × V
  along k v m Outgoing = canon k v m
  along k v m Incoming = canon k m v

  -- tests by value: this node, this link, an entry that names m in this direction
  abbrev pub is_node : V → Node N → Bool
  is_node v n = eq K (K.value n.0) v

  abbrev pub is_link : {E : Type 0} → V × V → Link N E → Bool
  is_link κ l = eq K (K.value l.0.0) κ.0 && eq K (K.value l.0.1) κ.1

  abbrev pub hits : Kind → V → Direction → Entry N → Bool
  hits k m d e = eq K (K.value e.0) m && agree k e.1 d

  abbrev pub has_node : V → List (Node N) → Bool
  has_node v nodes = some (found (is_node v) nodes)

  -- v's row; an absent node has an empty one
  abbrev pub row_in : Option (Node N) → List (N × Direction)
  row_in None = []
  row_in (Some n) = n.1

  abbrev pub row : V → List (Node N) → List (N × Direction)
  row v nodes = row_in (found (is_node v) nodes)

  -- g on v's row
  abbrev pub at_row : V → (List (N × Direction) → List (N × Direction)) → List (Node N) → List (Node N)
  at_row v g nodes = amended (is_node v) (λ n. (n.0, g n.1)) nodes

  -- an absent key is appended with an empty row
  abbrev pub seated : N → List (Node N) → List (Node N)
  seated a nodes = cond (has_node (K.value a) nodes) nodes (nodes ++ (a, []) ∷ [])

  -- a is seated, and the entry put at the end of its row
  abbrev pub entered : N → Entry N → List (Node N) → List (Node N)
  entered a e nodes = at_row (K.value a) (λ r. r ++ e ∷ []) (seated a nodes)

  -- the first entry of v's row that names m leaves it
  abbrev pub unentered : Kind → V → V → Direction → List (Node N) → List (Node N)
  unentered k v m d nodes = at_row v (without (hits k m d)) nodes

  -- the entries of a new link from a to b; a link from a node to itself has one
  abbrev pub joined : N → N → List (Node N) → List (Node N)
  joined a b nodes =
      cond (eq K (K.value a) (K.value b))
      (entered a (b, Outgoing) nodes)
      (entered b (a, Incoming) (entered a (b, Outgoing) nodes))

  -- the entries of the link from a to b leave
  abbrev pub parted : Kind → V → V → List (Node N) → List (Node N)
  parted k a b nodes =
      cond (eq K a b)
      (unentered k a b Outgoing nodes)
      (unentered k b a Incoming (unentered k a b Outgoing nodes))

  -- how many of the two keys are absent
  abbrev pub absent : N → List (Node N) → ℕ
  absent a nodes = bit (not (has_node (K.value a) nodes))

  abbrev pub wanted : N → N → List (Node N) → ℕ
  wanted a b nodes = cond (eq K (K.value a) (K.value b)) (absent a nodes) (absent a nodes + absent b nodes)
