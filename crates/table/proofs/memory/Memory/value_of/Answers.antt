use Rattle.std.proofs.Common.{◌<◌, length, sym, ap, arith}
use Rattle.std.proofs.lemmas.List.{get_or-map}
use Rattle.table.proofs.memory.Memory.value_of.Goals as goal

pub returns : goal.returns
returns g c d =
    let s = c.self.inside.slots.now in
    let lt : c.args.i < length s = omega (arith, c.requires, ap length c.self.view_is) in
    rw (← c.self.view_is) (sym (ap (λ z. z.1) (get_or-map (λ x. (x.key, x.value)) s c.args.i c.index-slots-i.result d lt)))
