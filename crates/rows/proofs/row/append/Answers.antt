use Rattle.std.proofs.Common.{◌≤◌, length, arith}
use Rattle.rows.specs.Rings.{none}
use Rattle.rows.proofs.Rings.{last_within}
use Rattle.rows.proofs.Lists.{same_long, row_linked, listed_is}
use Rattle.rows.proofs.Edits.{append_row, append_kept}
use Rattle.rows.proofs.row.append.Goals as goal

pub join-requires-clause-before : goal.join-requires-clause-before
join-requires-clause-before g c some = last_within c.requires.linked.ring some

pub returns : goal.returns
returns g c =
    let small = c.requires.small in
    let s1 = c.join.ensures in
    let s2 = c.join-2.ensures in
    let row = append_row c.requires.linked small c.requires.within c.requires.fresh s1 s2 in
    let kept = append_kept c.requires.linked small c.requires.within c.requires.fresh s1 s2 in
    let after : length c.join-2.new.cells ≤ none = omega (arith, small, same_long (λ x. x.key) _ _ kept.keys) in
    record {
      linked = row_linked row after;
      list = listed_is row after;
      kept = kept;
    }
