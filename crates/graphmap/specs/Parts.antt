-- The parts of a map: its kind, the nodes with their rows, and the table of links. What they stand for, and when they fit.
use Rattle.std.specs.Prelude.{ℕ, ◌*◌, ◌/◌, ◌≤◌, min, List, length, Result}
use Rattle.std.specs.declared.cmp.Ordering.{Ordering}
use Rattle.keys.specs.Hashes.{pair_hash}
use Rattle.keys.specs.Nodes.{by_both}
use Rattle.keys.specs.declared.kinds.Kind.{Kind}
use Rattle.table.specs.Content.{Content, Apart}
use Rattle.table.specs.Tables.{sought}
use Rattle.table.specs.declared.table.Vacancy.{Vacancy}
use Rattle.model.specs.Keys.{keys}
use Rattle.model.specs.Maps.{State, edge_key}
use Rattle.rows.specs.declared.cells.Cell.{Cell}
use Rattle.rows.specs.declared.cells.RowHead.{RowHead}
use Rattle.halfedges.specs.Cells.{noded, Whole, Keyed}
use Rattle.adjacency.specs.Stages.{NodeRows, Stage, rows_of, keys_of}

pub record Parts (N E : Type 0) : Type 0 where
  pub kind : Kind
  pub rows : NodeRows N
  pub links : Content (N × N) E

-- the parts of a map of a kind, from its table of nodes, its table of links and the cells of its rows
abbrev pub parts_of : {N E : Type 0} → Kind → Content N RowHead → Content (N × N) E → List (Cell N) → Parts N E
parts_of k nodes links cells = record { kind = k; rows = record { nodes = nodes; cells = cells }; links = links }

-- the lists of a map
abbrev pub state_of : {N E : Type 0} → Parts N E → State N E
state_of p = record {
  kind = p.kind;
  node_room = p.rows.nodes.room;
  link_room = min p.links.room (length (keys_of p.rows) / 2);
  nodes = noded (keys_of p.rows) (rows_of p.rows);
  links = p.links.entries;
}

-- what every map keeps: no link stands twice, each cell of a link is in its row, and each link under the key of its ends
pub record Sound {N V E : Type 0} (value : N → V) (order : V → V → Ordering) (p : Parts N E) : Type 0 where
  pub apart : Apart {W = V × V} (λ q. (value q.0, value q.1)) p.links.entries
  pub fits : 2 * length p.links.entries ≤ length (keys_of p.rows)
  pub whole : (d : N) → Whole (keys value order) d (keys_of p.rows) (length p.links.entries) (rows_of p.rows)
  pub keyed : (d : N) → Keyed (keys value order) d p.kind (keys_of p.rows) p.links.entries

-- what the calls on the parts of a map ask and give back: the rows fit the nodes, and the links fit the rows
pub record SoundParts {N V E : Type 0} (value : N → V) (order : V → V → Ordering) (p : Parts N E) : Type 0 where
  pub stage : Stage value order p.rows
  pub sound : Sound value order p

-- what the table of links answers to the search for the link from a to b
abbrev pub link_search : {N V E : Type 0} → (N → V) → (V → V → Ordering) → (N → ℕ) → Parts N E → N → N → Result ℕ Vacancy
link_search value order hashed p a b =
    sought (by_both order order) (λ q. (value q.0, value q.1)) (λ q. pair_hash (hashed q.0) (hashed q.1)) p.links.room p.links.entries (edge_key (keys value order) p.kind a b)
