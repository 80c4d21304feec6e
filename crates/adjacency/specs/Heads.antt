-- The head of a node's row, by the node's value.
use Rattle.std.specs.Prelude.{List, Option}
use Rattle.std.specs.Option.{option_map, unwrap_or}
use Rattle.model.specs.Keys.{Keys, eq}
use Rattle.model.specs.Lists.{found}
use Rattle.rows.specs.declared.cells.RowHead.{RowHead}
use Rattle.rows.specs.Links.{bare}

module _ {N V : Type 0} (K : Keys N V) where
  -- the head of the row of the node of value v, where there is one
  abbrev pub head_of : V → List (N × RowHead) → Option RowHead
  head_of v es = option_map (λ e. e.1) (found (λ e. eq K (K.value e.0) v) es)

  -- the same, and the row of no cells for an absent node
  abbrev pub row_of : V → List (N × RowHead) → RowHead
  row_of v es = unwrap_or (head_of v es) bare
