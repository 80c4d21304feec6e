use Rattle.std.proofs.Common.{◌*◌, sym, ◌∙◌, arith}
use Rattle.std.proofs.lemmas.List.{length-map}
use Rattle.lists.specs.Chains.{Above}
use Rattle.lists.proofs.Chains.{linked}
use Rattle.table.specs.Slots.{pairs, headed, nexts, at, two, none}
use Rattle.table.specs.Index.{bucket_of, capacity_of, off}
use Rattle.table.proofs.Capacity.{within_memory, within_links, bucket_slot}
use Rattle.table.proofs.Lists.{at_set, at_other}
use Rattle.table.proofs.Writes.{as_long, same_room, off_here, off_other, settled, held_latest, above_off, put_after}
use Rattle.table.proofs.memory.Memory.link.Goals as goal

pub above-p-requires : goal.above-p-requires
above-p-requires g c =
    let s = c.args.self.now in
    record {
      chained =
          record {
            bucket = _;
            agrees = off_other (2 * capacity_of s) c.args.g (bucket_of g.K.NodeTrait.hashed s);
            chains = c.requires.chained;
          };
      small = c.requires.small;
      bucket = c.requires.bucket.below;
      place = c.requires.place;
    }

pub holds-v-requires : goal.holds-v-requires
holds-v-requires g c =
    let s = c.args.self.now in
    record {
      small = omega (arith, c.requires.small, within_memory s);
      bucket = bucket_slot s c.args.b c.requires.bucket.below;
      holder = c.above-p.ensures.within;
    }

pub set_next-requires : goal.set_next-requires
set_next-requires g c = record {
  within = omega (arith, c.requires.place, c.requires.small, within_memory c.args.self.now);
  fits = c.holds-v.ensures.fits;
}

pub put-requires : goal.put-requires
put-requires g c =
    let s = c.args.self.now in
    let n = as_long s c.set_next.new.self c.set_next.ensures.pair in
    record {
      small = omega (arith, c.requires.small, within_memory s, n);
      bucket = omega (arith, bucket_slot s c.args.b c.requires.bucket.below, n);
      holder = c.above-p.ensures.within;
      fits = omega (arith, c.requires.place, c.requires.small, within_links s);
    }

pub returns : goal.returns
returns g c =
    let s = c.args.self.now in
    let r = c.set_next.new.self in
    let t = c.put.new.self in
    let n = c.args.n in
    let h = bucket_of g.K.NodeTrait.hashed s in
    let buckets = 2 * capacity_of s in
    let pair = c.put.ensures.entries.pair ∙ c.set_next.ensures.pair in
    let A : Above n (off buckets c.args.g h) c.args.b c.args.g c.above-p.result =
    above_off buckets n c.args.b c.args.g c.above-p.result h c.above-p.ensures in
    record {
      chained =
          settled g.K.NodeTrait.hashed (capacity_of s) (capacity_of t) n (pairs s) (pairs t) (two (headed t)) (at (nexts t))
          (same_room s t pair) pair
          (linked none buckets n c.args.b c.args.g c.above-p.result c.holds-v.result (off buckets c.args.g h) (two (headed s)) (at (nexts s))
          h (two (headed t)) (at (nexts r)) (at (nexts t))
          (omega (arith, c.requires.small, within_links s)) c.requires.chained A c.requires.place c.requires.bucket.below (omega (arith, off_here buckets c.args.g h))
          (c.holds-v.ensures.value ∙ held_latest buckets n c.args.b c.above-p.result _ _ _ c.requires.chained c.requires.bucket.below A.within A.here)
          (at_set (nexts s) (nexts r) c.args.g _ c.set_next.ensures.next (simp length-map (omega (arith, c.requires.place, c.requires.small, within_memory s))))
          (at_other (nexts s) (nexts r) c.args.g _ c.set_next.ensures.next)
          (put_after n c.args.b c.above-p.result c.args.g (headed s) (headed r) _ _ _ c.set_next.ensures.heads c.put.ensures.put)
          c.requires.bucket.home (λ i ne. sym (off_other buckets c.args.g h i ne)));
      entries = record {
        marks = c.put.ensures.entries.marks ∙ c.set_next.ensures.marks;
        pair = pair;
      };
    }
