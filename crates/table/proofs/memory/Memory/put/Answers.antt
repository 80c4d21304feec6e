use Rattle.std.proofs.Common.{◌<◌, length, arith}
use Rattle.std.proofs.lemmas.List.{length-map}
use Rattle.table.specs.Slots.{headed, nexts}
use Rattle.table.proofs.Writes.{put_head, put_link}
use Rattle.table.proofs.memory.Memory.put.Goals as goal

pub returns-then-p-n : goal.returns-then-p-n
returns-then-p-n g c = record {
  put =
      put_head _ _ _ _ (headed c.args.self.now) _ (nexts c.args.self.now) _ c.if-p-n.true
      c.set_head.ensures.heads c.set_head.ensures.next;
  entries = record { marks = c.set_head.ensures.marks; pair = c.set_head.ensures.pair };
}

pub returns-else-p-n : goal.returns-else-p-n
returns-else-p-n g c =
    let pn : c.args.p < c.args.n = omega arith in
    let lt : c.args.p < length c.args.self.now = omega arith in
    record {
      put =
          put_link _ _ _ _ (headed c.args.self.now) _ (nexts c.args.self.now) _ pn (simp length-map lt)
          c.set_next.ensures.heads c.set_next.ensures.next;
      entries = record { marks = c.set_next.ensures.marks; pair = c.set_next.ensures.pair };
    }
