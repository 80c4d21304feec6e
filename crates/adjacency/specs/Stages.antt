-- The nodes with their rows, as a table and the cells of all rows, and when these fit one another.
use Rattle.std.specs.Prelude.{ℕ, ◌<◌, ◌≤◌, List, map, length, slice_index_or}
use Rattle.std.specs.declared.cmp.Ordering.{Ordering}
use Rattle.table.specs.Content.{Content, Apart}
use Rattle.model.specs.Keys.{keys}
use Rattle.rows.specs.declared.cells.Cell.{Cell}
use Rattle.rows.specs.declared.cells.RowHead.{RowHead}
use Rattle.rows.specs.Rings.{none}
use Rattle.rows.specs.Links.{listed, Linked, cell_keys}
use Rattle.halfedges.specs.Cells.{standing, Owned}

-- the nodes with the ends of their rows, and the cells of all rows
pub record NodeRows (N : Type 0) : Type 0 where
  pub nodes : Content N RowHead
  pub cells : List (Cell N)

module _ {N : Type 0} where
  -- each node with the cells of its row
  abbrev pub rowed : List (Cell N) → List (N × RowHead) → List (N × List ℕ)
  rowed mem es = map (λ e. (e.0, listed mem e.1)) es

  abbrev pub rows_of : NodeRows N → List (N × List ℕ)
  rows_of r = rowed r.cells r.nodes.entries

  -- the key of each cell
  abbrev pub keys_of : NodeRows N → List N
  keys_of r = cell_keys r.cells

  -- the links of every row fit one another
  abbrev pub Rings : List (Cell N) → List (N × RowHead) → Type 0
  Rings mem es = (i : ℕ) (e : N × RowHead) → i < length es → Linked mem (slice_index_or es i e).1

-- the nodes are told apart by their values and fit their room, no cell stands twice, and each stands in the row of the
-- node that its twin names
pub record Stage {N V : Type 0} (value : N → V) (order : V → V → Ordering) (r : NodeRows N) : Type 0 where
  pub apart : Apart value r.nodes.entries
  pub fits : length r.nodes.entries ≤ r.nodes.room
  pub small : length r.cells ≤ none
  pub rings : Rings r.cells r.nodes.entries
  pub alone : (x : ℕ) → standing x (rows_of r) ≤ 1
  pub owned : (d : N) → Owned (keys value order) d (keys_of r) (rows_of r)
