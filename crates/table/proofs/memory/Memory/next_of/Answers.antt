use Rattle.std.proofs.Common.{◌<◌, length, sym, ap, rules, arith}
use Rattle.std.proofs.lemmas.List.{get_or-map}
use Rattle.table.proofs.memory.Memory.next_of.Goals as goal

pub returns : goal.returns
returns g c =
    let s = c.self.inside.slots.now in
    let lt : c.args.i < length s = omega (arith, c.requires, ap length c.self.view_is) in
    record {
      value = rw (← c.self.view_is) (sym (get_or-map (λ x. x.next) s c.args.i c.index-slots-i.result 0 lt));
      fits = search rules;
    }
