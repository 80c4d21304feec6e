use Rattle.std.proofs.Common.{ap, ◌∙◌, set, ◌+◌, ◌*◌, arith}
use Rattle.std.proofs.lemmas.List.{length-map}
use Rattle.halfedges.specs.Cells.{standing, noded, wrote}
use Rattle.adjacency.specs.Stages.{rows_of, keys_of}
use Rattle.adjacency.proofs.Writes.{Still, written}
use Rattle.adjacency.proofs.adjacency.NodesWithRows.write_link.Given as given
use Rattle.adjacency.proofs.adjacency.NodesWithRows.write_link.Goals as goal

still : (g : given.Over) (c : goal.After-set_key-2 g)
    → Still g.N.Compare.value g.N.Compare.order (record { nodes = c.self.inside.nodes; cells = c.self.inside.rows }) (record { nodes = c.self.inside.nodes; cells = c.set_key-2.new.self }) c.args.p c.args.a c.args.b
still g c =
    let first = c.set_key.ensures in
    let second = c.set_key-2.ensures in
    written c.self.invariant _ c.args.p c.args.a c.args.b (second.nexts ∙ first.nexts) (second.prevs ∙ first.prevs)
    (second.keys ∙ ap (λ z. set z (2 * c.args.p + 1) c.args.a) first.keys) (λ x e. ap (λ z. standing x (rows_of z)) c.self.view_is ∙ c.requires.off x e)

pub invariant_of-self : goal.invariant_of-self
invariant_of-self g c = (still g c).stage

pub returns : goal.returns
returns g c =
    let is = c.self.view_is in
    let s = still g c in
    record {
      nodes = ap (λ z. z.nodes) is;
      keys = s.keys ∙ ap (λ z. wrote (keys_of z) c.args.p c.args.a c.args.b) is;
      rows = s.rows ∙ ap rows_of is;
      told = s.told ∙ ap (λ z. noded (keys_of z) (rows_of z)) is;
      small = omega (arith, s.stage.small, length-map c.set_key-2.new.self (λ x. x.key));
    }
