use Rattle.std.proofs.Common.{ap, ◌∙◌}
use Rattle.std.specs.List.{slice_get}
use Rattle.model.specs.Keys.{keys}
use Rattle.rows.specs.Walks.{walk_of, upcoming}
use Rattle.graphmap.proofs.Upcoming.{place_within}
use Rattle.graphmap.proofs.questions.cell_at.Goals as goal

pub returns : goal.returns
returns g c =
    let K = keys g.N.Compare.value g.N.Compare.order in
    let a = c.args in
    let mem = a.cells.now in
    record {
      cell = λ e. c.nth_cell.ensures e ∙ ap (λ w. slice_get (upcoming K e mem a.kind a.d (K.value a.n) w) a.k) (c.of-walk.ensures ∙ ap walk_of c.row_of.ensures);
      within = λ x is. place_within K a.n mem a.kind a.d (K.value a.n) c.of-walk.result a.k c.nth_cell.result x (c.nth_cell.ensures a.n) is;
    }
