use Rattle.std.proofs.Common.{◌≡◌, subst, ◌≤◌, sym, ap, ◌∙◌, arith}
use Rattle.lists.specs.Swap.{swap_removed}
use Rattle.rows.specs.HalfEdges.{twin}
use Rattle.halfedges.specs.Cells.{count, row_at}
use Rattle.halfedges.proofs.Counts.{count_holds}
use Rattle.halfedges.proofs.Rows.{read_other}
use Rattle.adjacency.specs.Stages.{NodeRows, rows_of}
use Rattle.adjacency.proofs.Entries.{some_of, rowed_length}
use Rattle.adjacency.proofs.Ranges.{length_rowed_put}
use Rattle.adjacency.proofs.adjacency.NodesWithRows.sever.Goals as goal

pub leave-requires-2-clause-place : goal.leave-requires-2-clause-place
leave-requires-2-clause-place g c =
    let r : NodeRows g.row.N.Denot = c.args.self.now in
    let e = some_of r.nodes.entries c.args.i c.requires.from in
    let h = count_holds c.args.c (row_at (rows_of r) c.args.i e.0) (c.requires.held e.0) in
    omega (arith, c.requires.to, length_rowed_put r c.leave.new.self c.args.i e.0 _ (c.leave.ensures.rows e.0 h.0 h.1 h.2))

pub leave-requires-2-clause-held : goal.leave-requires-2-clause-held
leave-requires-2-clause-held g c d =
    let r : NodeRows g.row.N.Denot = c.args.self.now in
    let i = c.args.i in
    let j = c.args.j in
    let h = count_holds c.args.c (row_at (rows_of r) i d) (c.requires.held d) in
    let still : row_at (rows_of c.leave.new.self) j d ≡ row_at (rows_of r) j d =
    ap (λ z. row_at z j d) (c.leave.ensures.rows d h.0 h.1 h.2)
    ∙ ap (λ n. n.1) (read_other d (rows_of r) i (omega (arith, rowed_length r.cells r.nodes.entries, c.requires.from)) (swap_removed (row_at (rows_of r) i d) h.0) j (λ e. c.if-i-j.false (sym e))) in
    subst (λ z. 1 ≤ count z (row_at (rows_of c.leave.new.self) j d)) (sym c.twin_of.ensures)
    (subst (λ xs. 1 ≤ count (twin c.args.c) xs) (sym still) (c.requires.other c.if-i-j.false d))
