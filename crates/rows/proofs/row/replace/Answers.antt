use Rattle.std.proofs.Common.{◌≤◌, suc, ◌∙◌, length, rules, arith}
use Rattle.rows.specs.Rings.{none}
use Rattle.rows.specs.Links.{Joined}
use Rattle.rows.proofs.Rings.{before_within, nth_within}
use Rattle.rows.proofs.Lists.{same_long, row_linked, listed_is, held_within, at_prev, at_next}
use Rattle.rows.proofs.Puts.{over}
use Rattle.rows.proofs.Edits.{replace_row, replace_kept}
use Rattle.rows.proofs.row.replace.Goals as goal

pub cell-prev-requires : goal.cell-prev-requires
cell-prev-requires g c = held_within c.requires.linked c.requires.held

pub join-requires-clause-before : goal.join-requires-clause-before
join-requires-clause-before g c some =
    let l = c.requires.linked in
    let held = c.requires.held in
    let p = at_prev l c.requires.small held.0 held.1 held.2 (c.cell-prev.ensures _) in
    omega (arith, p, before_within l.ring held.0 (omega (arith, held.1)) (λ e. some (p ∙ e)))

pub join-requires-2-clause-before : goal.join-requires-2-clause-before
join-requires-2-clause-before g c = let within = held_within c.requires.linked c.requires.held in search rules

pub join-requires-2-clause-after : goal.join-requires-2-clause-after
join-requires-2-clause-after g c some =
    let l = c.requires.linked in
    let held = c.requires.held in
    let q = at_next l c.requires.small held.0 held.1 held.2 (c.cell-prev.ensures _) in
    let within = nth_within l.ring (suc held.0) (λ e. some (q ∙ e)) in
    let long = same_long (λ c. c.key) _ _ c.join.ensures.keys in
    search (rules, q, within, long)

pub returns : goal.returns
returns g c =
    let l = c.requires.linked in
    let small = c.requires.small in
    let held = c.requires.held in
    let s1 = c.join.ensures in
    let s2 : Joined c.join.new.cells c.join.new.row c.join-2.new.cells c.join-2.new.row c.args.new c.cell-prev.result.next = search (over, c.join-2.ensures) in
    let is = c.cell-prev.ensures _ in
    let row =
    replace_row l small c.requires.within c.requires.fresh (λ i li e. at_prev l small i li e is)
    (λ i li e. at_next l small i li e is) s1 s2 in
    let kept =
    replace_kept l small c.requires.within c.requires.fresh (λ i li e. at_prev l small i li e is)
    (λ i li e. at_next l small i li e is) s1 s2 held in
    let after : length c.join-2.new.cells ≤ none = omega (arith, small, same_long (λ x. x.key) _ _ kept.keys) in
    record {
      linked = row_linked (row held.0 held.1 held.2) after;
      len = s2.len ∙ s1.len;
      list = λ i li e. listed_is (row i (omega (arith, l.long)) e) after;
      kept = kept;
    }
