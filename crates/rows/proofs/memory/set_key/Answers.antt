use Rattle.std.proofs.Common.{refl}
use lib.Seq.{map-set, map-set_same}
use Rattle.rows.proofs.memory.set_key.Goals as goal

pub returns : goal.returns
returns g c =
    let mem = c.args.cells.now in
    let d = c.index-cells-c.result in
    record {
      keys = map-set (λ x. x.key) mem c.args.c _;
      nexts = map-set_same (λ x. x.next) mem c.args.c _ d refl;
      prevs = map-set_same (λ x. x.prev) mem c.args.c _ d refl;
    }
