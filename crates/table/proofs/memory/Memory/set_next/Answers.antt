use Rattle.std.proofs.Common.{refl}
use Rattle.std.proofs.lemmas.List.{map-set}
use Rattle.table.proofs.Lists.{kept}
use Rattle.table.proofs.memory.Memory.set_next.Goals as goal

pub returns : goal.returns
returns g c =
    let s = c.self.inside.slots.now in
    rw (← c.self.view_is)
    (record {
      heads = kept (λ x. x.heads) s c.args.i _ c.index-slots-i.result refl;
      marks = kept (λ x. x.marks) s c.args.i _ c.index-slots-i.result refl;
      next = map-set (λ x. x.next) s c.args.i _;
      pair = kept (λ x. (x.key, x.value)) s c.args.i _ c.index-slots-i.result refl;
    })
