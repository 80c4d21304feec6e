use Rattle.std.proofs.Common.{sym, ap, ◌∙◌, arith}
use Rattle.table.proofs.Entries.{seen_place, entry_at}
use Rattle.table.proofs.table.Table.value_at.Goals as goal

pub value_of-requires : goal.value_of-requires
value_of-requires g c = omega (arith, (seen_place c.self.invariant.index c.self.view_is c.args.i c.requires.place).1)

pub returns : goal.returns
returns g c d =
    let I = c.self.invariant.index in
    rw (← c.self.view_is)
    (c.value_of.ensures d ∙ ap (λ z. z.1) (sym (entry_at I c.args.i d (seen_place I c.self.view_is c.args.i c.requires.place).0)))
