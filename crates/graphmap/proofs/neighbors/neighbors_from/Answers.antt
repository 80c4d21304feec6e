use Rattle.std.proofs.Common.{map, refl, ap, ◌∙◌}
use Rattle.model.specs.Keys.{keys}
use Rattle.rows.specs.Walks.{walk_of, upcoming}
use Rattle.graphmap.specs.Parts.{Parts, parts_of}
use Rattle.graphmap.specs.Walks.{key_of, edge_of}
use Rattle.graphmap.proofs.NodeLists.{neighbors_told, edges_told}
use Rattle.graphmap.proofs.neighbors.neighbors_from.Goals as goal

pub returns : goal.returns
returns g c =
    let K = keys g.N.Compare.value g.N.Compare.order in
    let a = c.args in
    let mem = a.cells.now in
    let p : Parts _ _ = parts_of a.kind a.nodes.now a.links.now mem in
    let from = c.of.ensures ∙ ap walk_of c.row_of.ensures in
    let laws = g.met.N.Compare.ordered in
    let s = c.requires.sound in
    record {
      origin = refl;
      neighbors = λ e.
          ap (λ w. map (key_of e mem) (upcoming K e mem a.kind a.d (K.value a.n) w)) from
          ∙ neighbors_told p laws s.stage a.n e a.d;
      edges = λ e.
          ap (λ w. map (edge_of e mem a.links.now.entries (a.n, a.d)) (upcoming K e mem a.kind a.d (K.value a.n) w)) from
          ∙ edges_told p laws s.stage a.n e a.d s.sound;
    }
