use Rattle.std.proofs.Common.{rules, ◌≡◌, ap, ◌∙◌}
use borrow.Author.Tests.{tests}
use Rattle.std.specs.Option.{option_map}
use Rattle.graphmap.specs.Parts.{parts_of}
use Rattle.graphmap.proofs.NodeLists.{degree_told}
use Rattle.graphmap.proofs.questions.degree.Goals as goal

pub returns : goal.returns
returns g c =
    let a = c.args in
    let turned : c.map.result ≡ option_map (λ h. h.len) c.head_of.result = search (rules, tests) in
    turned
    ∙ ap (option_map (λ h. h.len)) c.head_of.ensures
    ∙ degree_told (parts_of a.kind a.nodes.now a.links.now a.cells.now) g.met.N.Compare.ordered c.requires.sound.stage a.n
