use Rattle.std.proofs.Common.{◌≤◌, ◌-◌, ◌∙◌, length, rules, arith}
use Rattle.rows.specs.Rings.{none}
use Rattle.rows.proofs.Rings.{before_within}
use Rattle.rows.proofs.Lists.{same_long, row_linked, listed_is, last_as, last_nth, last_within, last_prev}
use Rattle.rows.proofs.Edits.{pop_last_row, pop_last_kept, pop_last_apart}
use Rattle.rows.proofs.row.pop_last.Goals as goal

pub cell-prev-requires : goal.cell-prev-requires
cell-prev-requires g c = last_within c.requires.linked c.requires.some

pub join-requires-clause-before : goal.join-requires-clause-before
join-requires-clause-before g c some =
    let l = c.requires.linked in
    let m = c.args.row.now.len - 1 in
    let p = last_prev l c.requires.small c.requires.some (c.cell-prev.ensures _) in
    omega (arith, p, before_within l.ring m (omega (arith, l.long)) (λ e. some (p ∙ e)))

pub returns : goal.returns
returns g c =
    let l = c.requires.linked in
    let small = c.requires.small in
    let p = last_prev l small c.requires.some (c.cell-prev.ensures _) in
    let s = c.join.ensures in
    let row = pop_last_row l small c.requires.some p s in
    let kept = pop_last_kept l small c.requires.some p s in
    let after : length c.join.new.cells ≤ none = omega (arith, small, same_long (λ x. x.key) _ _ kept.keys) in
    let list = listed_is row after in
    let popped = last_nth l c.requires.some in
    record {
      linked = row_linked (last_as row (search rules)) after;
      list = list;
      popped = popped;
      apart = pop_last_apart l small c.requires.some list popped;
      kept = kept;
    }
