use Rattle.std.proofs.Common.{Some, sym, ap}
use Rattle.std.proofs.lemmas.List.{get_or-map}
use Rattle.graphmap.specs.Walks.{key_of}
use Rattle.graphmap.proofs.Upcoming.{first_turned}
use Rattle.graphmap.proofs.neighbors.next_neighbor.Goals as goal

pub returns : goal.returns
returns g c =
    let mem = c.args.cells.now in
    let x = c.in_ok-c.c in
    let is = c.in_ok-c.was in
    record {
      origin = c.next_cell.ensures.origin;
      next = λ e.
          first_turned (λ y. Some (key_of e mem y)) _ _ c.next_cell.result x _ (c.next_cell.ensures.next e) is
          (ap Some (sym (get_or-map (λ y. y.key) mem x c.index-cells-c.result e (c.next_cell.ensures.within x is))));
    }
