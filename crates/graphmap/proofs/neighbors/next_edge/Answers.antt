use Rattle.std.proofs.Common.{ap, ◌∙◌}
use Rattle.graphmap.specs.Walks.{origin, edge_of}
use Rattle.graphmap.proofs.Upcoming.{first_turned}
use Rattle.graphmap.proofs.neighbors.next_edge.Goals as goal

pub returns : goal.returns
returns g c =
    let mem = c.args.cells.now in
    let ls = c.args.links.now.entries in
    let same = c.next_cell.ensures.origin in
    record {
      origin = same;
      next = λ e.
          first_turned (edge_of e mem ls (origin c.args.w.now)) _ _ c.next_cell.result c.in_ok-c.c _ (c.next_cell.ensures.next e) c.in_ok-c.was
          (c.edge_at.ensures e ∙ ap (λ o. edge_of e mem ls o c.in_ok-c.c) same);
    }
