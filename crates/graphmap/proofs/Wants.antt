-- How many nodes a new link wants, by the searches for its ends.
use Rattle.std.proofs.Common.{◌≡◌, ℕ, ◌+◌, Bool, cond, Result, ap, ◌∙◌}
use Rattle.lists.specs.Positions.{position}
use Rattle.table.specs.declared.table.Vacancy.{Vacancy}
use Rattle.table.specs.Tables.{found}
use Rattle.model.specs.Keys.{Keys, eq}
use Rattle.model.specs.Maps.{wanted}
use Rattle.halfedges.specs.Cells.{noded}
use Rattle.adjacency.specs.Stages.{NodeRows, rows_of, keys_of}
use Rattle.adjacency.specs.Seats.{vacant, lacking_of}
use Rattle.adjacency.proofs.Seating.{vacant_absent}

pub lacking_wanted : {N V : Type 0} (K : Keys N V) (a b : N) {first second : Result ℕ Vacancy} {one : Bool} (u v : Vacancy) (r : NodeRows N)
    → first ≡ found (position (λ e. eq K (K.value e.0) (K.value a)) r.nodes.entries) u → second ≡ found (position (λ e. eq K (K.value e.0) (K.value b)) r.nodes.entries) v
    → one ≡ eq K (K.value a) (K.value b) → lacking_of first second one ≡ wanted K a b (noded (keys_of r) (rows_of r))
lacking_wanted K a b u v r e f h =
    let x = ap vacant e ∙ vacant_absent K a u (keys_of r) r.cells r.nodes.entries in
    let y = ap vacant f ∙ vacant_absent K b v (keys_of r) r.cells r.nodes.entries in
    λ i. cond (h i) (x i) (x i + y i)
