use Rattle.std.proofs.Common.{◌≡◌, suc, ◌-◌, length, arith}
use Rattle.rows.specs.Links.{listed}
use Rattle.rows.proofs.Lists.{same_long}
use Rattle.rows.proofs.Swaps.{left_holds, swapped_other, swapped_last, kept_both}
use Rattle.rows.proofs.row.swap_remove.Goals as goal

pub pop_last-last-requires : goal.pop_last-last-requires
pop_last-last-requires g c = record { small = c.requires.small; linked = c.requires.linked; some = omega (arith, c.requires.linked.long, c.requires.held.1) }

pub replace-requires : goal.replace-requires
replace-requires g c =
    let row = c.requires.linked in
    let m = c.args.row.now.len - 1 in
    let p = c.pop_last-last.ensures in
    let ys = listed c.pop_last-last.new.cells c.pop_last-last.new.row in
    let long : length (listed c.args.cells.now c.args.row.now) ≡ suc m = omega (arith, row.long, c.requires.held.1) in
    record {
      small = omega (arith, c.requires.small, same_long (λ c. c.key) _ _ p.kept.keys);
      linked = p.linked;
      within = omega (arith, p.popped, row.ring.within m (omega arith), same_long (λ c. c.key) _ _ p.kept.keys);
      fresh = p.apart;
      held = left_holds _ ys m c.pop_last-last.result long p.list p.popped c.requires.held c.if-last-c.true;
    }

pub returns-then-last-c : goal.returns-then-last-c
returns-then-last-c g c =
    let row = c.requires.linked in
    let m = c.args.row.now.len - 1 in
    let p = c.pop_last-last.ensures in
    let t = c.pop_last-last.result in
    let r = c.replace.ensures in
    let ys = listed c.pop_last-last.new.cells c.pop_last-last.new.row in
    let long : length (listed c.args.cells.now c.args.row.now) ≡ suc m = omega (arith, row.long, c.requires.held.1) in
    record {
      linked = r.linked;
      list = λ i l.
          swapped_other _ ys m t long p.list p.popped c.if-last-c.true
          (λ j lj. r.list j (omega (arith, p.linked.long))) i (omega (arith, row.long));
      kept = kept_both _ ys m t long p.list p.popped p.kept r.kept;
    }

pub returns-else-last-c : goal.returns-else-last-c
returns-else-last-c g c =
    let row = c.requires.linked in
    let m = c.args.row.now.len - 1 in
    let p = c.pop_last-last.ensures in
    let t = c.pop_last-last.result in
    let ys = listed c.pop_last-last.new.cells c.pop_last-last.new.row in
    let long : length (listed c.args.cells.now c.args.row.now) ≡ suc m = omega (arith, row.long, c.requires.held.1) in
    record {
      linked = p.linked;
      list = λ i l. swapped_last _ ys m t long p.list p.popped p.apart c.if-last-c.false i (omega (arith, row.long));
      kept = p.kept;
    }
