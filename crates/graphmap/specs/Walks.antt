-- A walk along a node's row, over any memory and any links: what is to come, and what a cell is turned into.
use Rattle.std.specs.Prelude.{ℕ, ◌/◌, List, [], ◌∷◌, Some, None, Option, slice_index_or}
use Rattle.std.specs.List.{slice_get}
use Rattle.keys.specs.declared.kinds.Direction.{Direction}
use Rattle.keys.specs.declared.kinds.Kind.{Kind}
use Rattle.model.specs.declared.edge.Edge.{Edge}
use Rattle.model.specs.Keys.{Keys}
use Rattle.model.specs.Maps.{Link}
use Rattle.model.specs.Questions.{ends}
use Rattle.rows.specs.declared.cells.Cell.{Cell}
use Rattle.rows.specs.Links.{cell_keys}
use Rattle.rows.specs.Walks.{upcoming}
use Rattle.graphmap.specs.declared.neighbors.Neighbors.{Neighbors}

-- the first of a list, turned by f, and the rest
abbrev pub first_by : {X Y : Type 0} → (X → Option Y) → List X → Option Y × List X
first_by f [] = (None, [])
first_by f (x ∷ xs) = (f x, xs)

module _ {N : Type 0} where
  -- the node that a walk began at, and its direction
  abbrev pub origin : Neighbors N → N × Direction
  origin w = (w.start, w.direction)

  -- the cells that are to come
  abbrev pub coming : {V : Type 0} → Keys N V → N → List (Cell N) → Kind → Neighbors N → List ℕ
  coming K e mem kind w = upcoming K e mem kind w.direction (K.value w.start) w.walk

  -- the key of a cell
  abbrev pub key_of : N → List (Cell N) → ℕ → N
  key_of e mem c = slice_index_or (cell_keys mem) c e

  -- a link as an edge with the ends p, where there is one
  abbrev pub as_edge : {E : Type 0} → N × N → ℕ → Option (Link N E) → Option (Edge N E)
  as_edge p i None = None
  as_edge p i (Some l) = Some (record { source = p.0; target = p.1; weight = l.1; place = i })

  -- the edge of a cell: its link is at half the cell's number, and its ends are the origin's node and the cell's key
  abbrev pub edge_of : {E : Type 0} → N → List (Cell N) → List (Link N E) → N × Direction → ℕ → Option (Edge N E)
  edge_of e mem links o c = as_edge (ends o.1 o.0 (key_of e mem c)) (c / 2) (slice_get links (c / 2))
