use Rattle.std.proofs.Common.{◌+◌, ◌*◌, sym, ap, ◌∙◌, arith}
use Rattle.model.specs.Keys.{keys}
use Rattle.halfedges.specs.Cells.{standing}
use Rattle.halfedges.proofs.Moves.{whole_last}
use Rattle.adjacency.specs.Stages.{rows_of, keys_of}
use Rattle.adjacency.proofs.Settled.{last, shifted, shifted_other, last_first, last_second, settled_one, settled_two}
use Rattle.adjacency.proofs.adjacency.NodesWithRows.settle.Goals as goal

pub returns-then-g-l-clause-whole : goal.returns-then-g-l-clause-whole
returns-then-g-l-clause-whole g c d =
    whole_last (keys g.N.Compare.value g.N.Compare.order) d (keys_of c.args.self.now) c.args.g c.args.l (rows_of c.args.self.now) (c.requires.off d) c.if-g-l.true

pub write_link-requires-clause-off : goal.write_link-requires-clause-off
write_link-requires-clause-off g c = (c.requires.off c.key-first.result).out

pub shift-requires-clause-held : goal.shift-requires-clause-held
shift-requires-clause-held g c =
    let m = last c.self.view_is c.requires.off c.requires.within c.requires.order c.if-g-l.false c.key-first.ensures c.key-second.ensures in
    ap (standing (2 * c.args.l)) c.write_link.ensures.rows ∙ last_first m

pub shift-requires-clause-fresh : goal.shift-requires-clause-fresh
shift-requires-clause-fresh g c = ap (standing (2 * c.args.g)) c.write_link.ensures.rows ∙ (c.requires.off c.key-first.result).out (2 * c.args.g) (omega arith)

pub returns-then-same-clause-whole : goal.returns-then-same-clause-whole
returns-then-same-clause-whole g c =
    let m = last c.self.view_is c.requires.off c.requires.within c.requires.order c.if-g-l.false c.key-first.ensures c.key-second.ensures in
    let w = c.write_link.ensures in
    let same = sym c.same.ensures ∙ c.if-same.true in
    settled_one m (c.shift.ensures.keys ∙ w.keys) (λ x. standing x (rows_of c.shift.new.self))
    (shifted _ _ _ w.rows c.shift.ensures.standing) same

pub shift-requires-2-clause-held : goal.shift-requires-2-clause-held
shift-requires-2-clause-held g c =
    let m = last c.self.view_is c.requires.off c.requires.within c.requires.order c.if-g-l.false c.key-first.ensures c.key-second.ensures in
    let same = sym c.same.ensures ∙ c.if-same.false in
    shifted_other _ _ _ c.write_link.ensures.rows c.shift.ensures.standing (2 * c.args.l + 1) (λ e. omega arith) (λ e. omega (arith, c.if-g-l.false, c.requires.order))
    ∙ last_second m same

pub shift-requires-2-clause-fresh : goal.shift-requires-2-clause-fresh
shift-requires-2-clause-fresh g c =
    let x = 2 * c.args.g + 1 in
    shifted_other _ _ _ c.write_link.ensures.rows c.shift.ensures.standing x (λ e. omega (arith, c.if-g-l.false, c.requires.order)) (λ e. omega arith)
    ∙ (c.requires.off c.key-first.result).out x (omega arith)

pub returns-clause-whole : goal.returns-clause-whole
returns-clause-whole g c =
    let m = last c.self.view_is c.requires.off c.requires.within c.requires.order c.if-g-l.false c.key-first.ensures c.key-second.ensures in
    let w = c.write_link.ensures in
    let same = sym c.same.ensures ∙ c.if-same.false in
    settled_two m (c.shift-2.ensures.keys ∙ c.shift.ensures.keys ∙ w.keys) (λ x. standing x (rows_of c.shift.new.self))
    (shifted _ _ _ w.rows c.shift.ensures.standing) same
    (λ x. standing x (rows_of c.shift-2.new.self)) c.shift-2.ensures.standing
