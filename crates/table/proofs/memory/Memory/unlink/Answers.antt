use Rattle.std.proofs.Common.{◌*◌, refl, arith}
use Rattle.lists.proofs.Chains.{unlinked}
use Rattle.table.specs.Slots.{pairs, headed, nexts, at, two, none}
use Rattle.table.specs.Index.{bucket_of, capacity_of, off}
use Rattle.table.proofs.Capacity.{within_memory, within_links, bucket_slot}
use Rattle.table.proofs.Writes.{same_room, off_here, off_other, settled_off}
use Rattle.table.proofs.memory.Memory.unlink.Goals as goal

pub above-p-requires : goal.above-p-requires
above-p-requires g c = record {
  chained = record { bucket = _; agrees = λ i _. refl; chains = c.requires.chained };
  small = c.requires.small;
  bucket = c.requires.bucket.below;
  place = c.requires.place;
}

pub next_of-v-requires : goal.next_of-v-requires
next_of-v-requires g c = omega (arith, c.requires.place, c.requires.small, within_memory c.args.self.now)

pub put-requires : goal.put-requires
put-requires g c =
    let s = c.args.self.now in
    record {
      small = omega (arith, c.requires.small, within_memory s);
      bucket = bucket_slot s c.args.b c.requires.bucket.below;
      holder = c.above-p.ensures.within;
      fits = c.next_of-v.ensures.fits;
    }

pub returns : goal.returns
returns g c =
    let s = c.args.self.now in
    let t = c.put.new.self in
    let n = c.args.n in
    let h = bucket_of g.K.NodeTrait.hashed s in
    let buckets = 2 * capacity_of s in
    record {
      chained =
          settled_off g.K.NodeTrait.hashed (capacity_of s) (capacity_of t) n (pairs s) (pairs t) (two (headed t)) (at (nexts t))
          (same_room s t c.put.ensures.entries.pair) c.put.ensures.entries.pair c.args.g
          (unlinked none buckets n c.args.b c.args.g c.above-p.result c.next_of-v.result h (two (headed s)) (at (nexts s))
          (off buckets c.args.g h) (two (headed t)) (at (nexts t))
          (omega (arith, c.requires.small, within_links s)) c.requires.chained c.above-p.ensures c.requires.place c.requires.bucket.below c.requires.bucket.home
          c.next_of-v.ensures.value c.put.ensures.put (omega (arith, off_here buckets c.args.g h)) (off_other buckets c.args.g h));
      entries = c.put.ensures.entries;
    }
