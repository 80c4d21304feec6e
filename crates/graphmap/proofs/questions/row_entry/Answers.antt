use Rattle.std.proofs.Common.{◌≡◌, get_or, Some, sym, ◌∙◌}
use Rattle.std.specs.List.{slice_get}
use Rattle.std.specs.Option.{option_map}
use Rattle.std.proofs.lemmas.List.{get_or-map}
use Rattle.model.specs.Keys.{keys}
use Rattle.model.specs.Questions.{row_list}
use Rattle.rows.specs.Links.{cell_keys}
use Rattle.halfedges.proofs.Told.{entry}
use Rattle.graphmap.specs.Parts.{parts_of, state_of}
use Rattle.graphmap.proofs.NodeLists.{entry_told}
use Rattle.graphmap.proofs.questions.row_entry.Given as given
use Rattle.graphmap.proofs.questions.row_entry.Goals as goal
use Rattle.graphmap.proofs.questions.row_entry.Goals.{After-cell_at}

told : (g : given.Over) (c : After-cell_at g) → option_map (entry c.args.n (cell_keys c.args.cells.now)) c.cell_at.result
    ≡ slice_get (row_list (keys g.N.Compare.value g.N.Compare.order) c.args.n (state_of (parts_of c.args.kind c.args.nodes.now c.args.links.now c.args.cells.now))) c.args.k
told g c =
    let a = c.args in
    entry_told (parts_of a.kind a.nodes.now a.links.now a.cells.now) g.met.N.Compare.ordered c.requires.sound.stage a.n a.n a.k _ (c.cell_at.ensures.cell a.n)

pub returns-in_err-c : goal.returns-in_err-c
returns-in_err-c g c = c.from_residual.ensures ∙ (rw c.in_err-c.was at (told g (goal.at.returns-in_err-c g c).After-cell_at))

pub returns : goal.returns
returns g c =
    let x = c.in_ok-c.c in
    let key : (get_or c.args.cells.now x c.index-cells-c.result).key ≡ get_or (cell_keys c.args.cells.now) x c.args.n =
    sym (get_or-map (λ y. y.key) c.args.cells.now x c.index-cells-c.result c.args.n (c.cell_at.ensures.within x c.in_ok-c.was)) in
    (λ i. Some (key i, c.side_of.ensures i)) ∙ (rw c.in_ok-c.was at (told g (goal.at.returns g c).After-cell_at))
