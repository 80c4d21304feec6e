use Rattle.std.proofs.Common.{◌<◌, length, get_or, refl, arith}
use Rattle.rows.specs.declared.cells.Cell.{Cell}
use Rattle.rows.specs.Links.{next_of, prev_of}
use Rattle.rows.proofs.Lists.{same_long}
use Rattle.rows.proofs.Puts.{LinkSet, joined, tip_put, cell_put}
use Rattle.rows.proofs.row.join.Given as given
use Rattle.rows.proofs.row.join.Goals.{Joined-a-eq-NONE, then-a-eq-NONE, else-a-eq-NONE}
use Rattle.rows.proofs.row.join.Goals as goal

-- the first of the two links is written
onward : (g : given.Over) (c : Joined-a-eq-NONE g)
    → LinkSet next_of prev_of c.args.cells.now c.args.row.now c.if-a-eq-NONE.cells c.if-a-eq-NONE.row c.args.a c.args.b
onward g c =
    elim c.if-a-eq-NONE.branch [
      | then-a-eq-NONE w ↦
          tip_put _ _ _ _ w.if-a-eq-NONE.true w.cells-is (λ i. (w.row-is i).first) (λ i. (w.row-is i).last) (λ i. (w.row-is i).len)
      | else-a-eq-NONE w ↦
          let some = w.if-a-eq-NONE.false in
          let was = get_or c.args.cells.now c.args.a w.index-cells-a.result in
          let new : Cell _ = record { key = was.key; prev = was.prev; next = c.args.b } in
          cell_put _ _ _ _ w.index-cells-a.result new some (c.requires.before some) w.cells-is w.row-is refl refl refl
    ]

pub returns-then-b-eq-NONE : goal.returns-then-b-eq-NONE
returns-then-b-eq-NONE g c =
    joined (onward g c.before.before) (tip_put _ _ _ _ c.if-b-eq-NONE.true refl refl refl refl)

pub returns-else-b-eq-NONE : goal.returns-else-b-eq-NONE
returns-else-b-eq-NONE g c =
    let some = c.if-b-eq-NONE.false in
    let first = onward g c.before.before in
    let within : c.args.b < length c.if-a-eq-NONE.cells =
    omega (arith, same_long (λ k. k.key) _ _ first.keys, c.requires.after some) in
    joined first (cell_put _ _ _ _ c.index-cells-b.result _ some within refl refl refl refl refl)
