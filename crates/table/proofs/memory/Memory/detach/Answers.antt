use Rattle.std.proofs.Common.{suc, ◌*◌, sym, ◌∙◌, add-one, arith}
use Rattle.lists.specs.Chains.{Chains}
use Rattle.lists.proofs.Chains.{popped}
use Rattle.table.specs.Slots.{pairs, headed, nexts, at, two, none}
use Rattle.table.specs.Index.{bucket_of, capacity_of}
use Rattle.table.proofs.Capacity.{within_memory, bucket_slot}
use Rattle.table.proofs.Writes.{same_room, settled, relinked}
use Rattle.table.proofs.memory.Memory.detach.Goals as goal

pub next_of-after-requires : goal.next_of-after-requires
next_of-after-requires g c = omega (arith, c.requires.fits, within_memory c.args.self.now)

pub set_head-requires : goal.set_head-requires
set_head-requires g c = record {
  within = bucket_slot c.args.self.now c.args.b c.requires.bucket.below;
  fits = c.next_of-after.ensures.fits;
}

pub returns : goal.returns
returns g c =
    let s = c.args.self.now in
    let t = c.set_head.new.self in
    let last = c.args.last in
    let h = bucket_of g.K.NodeTrait.hashed s in
    let buckets = 2 * capacity_of s in
    let L : Chains none buckets (suc last) h (two (headed s)) (at (nexts s)) = rw (sym (add-one last)) c.requires.chained in
    record {
      chained =
          settled g.K.NodeTrait.hashed (capacity_of s) (capacity_of t) last (pairs s) (pairs t) (two (headed t)) (at (nexts t))
          (same_room s t c.set_head.ensures.pair) c.set_head.ensures.pair
          (relinked buckets last h (two (headed t)) (nexts s) (nexts t) c.set_head.ensures.next
          (popped none buckets last c.args.b h (two (headed s)) (at (nexts s)) (two (headed t)) L c.requires.bucket.home c.requires.bucket.below
          (c.set_head.ensures.heads.here ∙ c.next_of-after.ensures.value) c.set_head.ensures.heads.there));
      entries = record { marks = c.set_head.ensures.marks; pair = c.set_head.ensures.pair };
    }
