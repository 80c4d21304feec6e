use Rattle.std.proofs.Common.{refl}
use Rattle.model.specs.Keys.{keys}
use Rattle.graphmap.proofs.Upcoming.{first_within}
use Rattle.graphmap.proofs.neighbors.next_cell.Goals as goal

pub returns : goal.returns
returns g c =
    let K = keys g.N.Compare.value g.N.Compare.order in
    let a = c.args in
    let w = a.w.now in
    record {
      origin = refl;
      next = c.advance.ensures;
      within = λ x is. first_within K w.start a.cells.now a.kind w.direction (K.value w.start) w.walk _ c.advance.result x (c.advance.ensures w.start) is;
    }
