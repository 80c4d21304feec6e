use Rattle.std.proofs.Common.{◌≡◌, ◌∙◌}
use Rattle.std.specs.List.{slice_get}
use Rattle.std.specs.Option.{option_map, option_flatten}
use Rattle.model.specs.Keys.{keys}
use Rattle.model.specs.Questions.{edge_list}
use Rattle.graphmap.specs.Parts.{parts_of, state_of}
use Rattle.graphmap.specs.Walks.{edge_of}
use Rattle.graphmap.proofs.NodeLists.{edge_told}
use Rattle.graphmap.proofs.questions.edge.Given as given
use Rattle.graphmap.proofs.questions.edge.Goals as goal
use Rattle.graphmap.proofs.questions.edge.Goals.{After-cell_at}

told : (g : given.Over) (c : After-cell_at g) → option_flatten (option_map (edge_of c.args.n c.args.cells.now c.args.links.now.entries (c.args.n, c.args.d)) c.cell_at.result)
    ≡ slice_get (edge_list (keys g.N.Compare.value g.N.Compare.order) c.args.n c.args.d (state_of (parts_of c.args.kind c.args.nodes.now c.args.links.now c.args.cells.now))) c.args.k
told g c =
    let a = c.args in
    edge_told (parts_of a.kind a.nodes.now a.links.now a.cells.now) g.met.N.Compare.ordered c.requires.sound.stage a.n a.n a.d c.requires.sound.sound a.k _ (c.cell_at.ensures.cell a.n)

pub returns-in_err-c : goal.returns-in_err-c
returns-in_err-c g c = c.from_residual.ensures ∙ (rw c.in_err-c.was at (told g (goal.at.returns-in_err-c g c).After-cell_at))

pub returns : goal.returns
returns g c = c.edge_at.ensures c.args.n ∙ (rw c.in_ok-c.was at (told g (goal.at.returns g c).After-cell_at))
