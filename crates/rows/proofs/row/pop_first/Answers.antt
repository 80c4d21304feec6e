use Rattle.std.proofs.Common.{◌≤◌, ◌∷◌, ◌∙◌, length, rules, sym, ap, subst, arith}
use Rattle.rows.specs.Rings.{none}
use Rattle.rows.specs.Links.{Row, Kept, Joined}
use Rattle.rows.proofs.Rings.{nth_within}
use Rattle.rows.proofs.Lists.{same_long, row_linked, listed_is, listed_first, first_within, first_next}
use Rattle.rows.proofs.Puts.{over}
use Rattle.rows.proofs.Edits.{pop_first_row, pop_first_kept}
use Rattle.rows.proofs.row.pop_first.Goals as goal

pub cell-next-requires : goal.cell-next-requires
cell-next-requires g c = first_within c.requires.linked c.requires.some

pub join-requires-clause-before : goal.join-requires-clause-before
join-requires-clause-before g c = let within = first_within c.requires.linked c.requires.some in search rules

pub join-requires-clause-after : goal.join-requires-clause-after
join-requires-clause-after g c some =
    let l = c.requires.linked in
    let q = first_next l c.requires.small c.requires.some (c.cell-next.ensures _) in
    omega (arith, q, nth_within l.ring 1 (λ e. some (q ∙ e)))

pub returns : goal.returns
returns g c =
    let mem = c.args.cells.now in
    let h = c.args.row.now in
    let small = c.requires.small in
    let split = listed_first mem h c.requires.some in
    let l = subst (Row mem h) split c.requires.linked in
    let q = first_next l small c.requires.some (c.cell-next.ensures _) in
    let s : Joined mem h c.join.new.cells c.join.new.row none c.cell-next.result.next = search (over, c.join.ensures) in
    let row = pop_first_row l small q s in
    let after : length c.join.new.cells ≤ none = omega (arith, small, same_long (λ x. x.key) _ _ s.keys) in
    record {
      linked = row_linked row after;
      rest = split ∙ ap (λ xs. h.first ∷ xs) (sym (listed_is row after));
      kept = subst (Kept mem c.join.new.cells) (sym split) (pop_first_kept l small q s);
    }
