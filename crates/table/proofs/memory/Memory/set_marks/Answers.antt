use Rattle.std.proofs.Common.{◌/◌, ◌<◌, length, [], sym, ap, arith}
use Rattle.std.proofs.lemmas.List.{map-set, get_or-map, length-map}
use Rattle.table.proofs.Lists.{kept}
use Rattle.table.proofs.Twos.{two_set}
use Rattle.table.proofs.memory.Memory.set_marks.Goals as goal

pub returns : goal.returns
returns g c =
    let s = c.self.inside.slots.now in
    let i = c.args.b / 2 in
    let lt : i < length s = omega (arith, c.requires, ap length c.self.view_is) in
    let to = c.set_marks.ensures.slot in
    rw (← c.self.view_is)
    (record {
      marks =
          two_set _ _ c.args.b c.args.v _ _ (map-set (λ x. x.marks) s i _) (simp length-map lt)
          (sym (get_or-map (λ x. x.marks) s i c.index-slots-b.result [] lt)) (ap (λ x. x.marks) to) c.set_marks.ensures.here;
      heads = kept (λ x. x.heads) s i _ c.index-slots-b.result (ap (λ x. x.heads) to);
      next = kept (λ x. x.next) s i _ c.index-slots-b.result (ap (λ x. x.next) to);
      pair = kept (λ x. (x.key, x.value)) s i _ c.index-slots-b.result (ap (λ x. (x.key, x.value)) to);
    })
