use Rattle.std.proofs.Common.{sym, ap, ◌∙◌}
use Rattle.std.proofs.lemmas.List.{get_or-map}
use Rattle.rows.proofs.memory.Rows.key.Goals as goal

pub returns : goal.returns
returns g c d =
    let r = c.cell.result in
    rw (← c.self.view_is) (ap (λ x. x.key) (c.cell.ensures r) ∙ sym (get_or-map (λ x. x.key) c.self.inside.cells.now c.args.c r d (rw c.self.view_is c.requires)))
