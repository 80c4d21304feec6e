use Rattle.std.proofs.Common.{◌≡◌, ◌/◌, min, length, sym, ap, ◌∙◌, arith}
use Rattle.std.proofs.lemmas.List.{length-map, length-take}
use Rattle.model.specs.Keys.{keys}
use Rattle.halfedges.specs.Cells.{standing, noded, stands}
use Rattle.halfedges.proofs.Stands.{stands_out}
use Rattle.adjacency.specs.Stages.{rowed, keys_of}
use Rattle.graphmap.proofs.map.GraphMap.new.Goals as goal

pub invariant_of-result : goal.invariant_of-result
invariant_of-result g c =
    let K = keys g.N.Compare.value g.N.Compare.order in
    let ks = keys_of c.new.result in
    let none = ap length c.new-2.ensures.entries in
    record {
      apart = λ i j d ij jl. absurd (omega (arith, jl, none));
      fits = omega (arith, none);
      whole = λ d x.
          ap (λ es. standing x (rowed c.new.result.cells es)) c.new.ensures.entries
          ∙ sym (ap (λ n. stands K d ks n x) none ∙ stands_out K d ks 0 x (omega arith));
      keyed = λ d p e l. absurd (omega (arith, l, none));
    }

pub returns : goal.returns
returns g c =
    let r = c.new.result in
    let t = c.new.ensures in
    let half : length (keys_of r) ≡ min (length c.args.cells.now) 131070 =
    length-map r.cells (λ x. x.key) ∙ ap length t.cells ∙ omega (arith, length-take 131070 c.args.cells.now) in
    λ i. record {
      kind = c.args.kind;
      node_room = t.room i;
      link_room = min (c.new-2.ensures.room i) (half i / 2);
      nodes = noded (keys_of r) (rowed r.cells (t.entries i));
      links = c.new-2.ensures.entries i;
    }
