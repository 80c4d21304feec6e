-- An edit of a row keeps the number of nodes.
use Rattle.std.proofs.Common.{◌≡◌, ℕ, List, [], length, get_or, sym, ap, ◌∙◌}
use Rattle.std.proofs.lemmas.List.{length-set}
use Rattle.halfedges.specs.Cells.{put_row}
use Rattle.adjacency.specs.Stages.{NodeRows, rows_of}
use Rattle.adjacency.proofs.Entries.{rowed_length}

pub length_rowed_put : {N : Type 0} (r r' : NodeRows N) (i : ℕ) (d : N) (ys : List ℕ) → rows_of r' ≡ put_row (rows_of r) i d ys → length r'.nodes.entries ≡ length r.nodes.entries
length_rowed_put r r' i d ys e =
    sym (rowed_length r'.cells r'.nodes.entries) ∙ ap length e ∙ length-set (rows_of r) i ((get_or (rows_of r) i (d, [])).0, ys) ∙ rowed_length r.cells r.nodes.entries
