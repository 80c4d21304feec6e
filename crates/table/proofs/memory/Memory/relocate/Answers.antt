use Rattle.std.proofs.Common.{◌≡◌, get_or, set, sym, ap, ◌∙◌, arith}
use Rattle.std.proofs.lemmas.List.{length-map}
use Rattle.table.specs.Slots.{pairs, headed, nexts, at}
use Rattle.table.specs.Index.{capacity_of, home, homes}
use Rattle.table.proofs.Capacity.{within_memory}
use Rattle.table.proofs.Homes.{home_at}
use Rattle.table.proofs.Lists.{pair_is}
use Rattle.table.proofs.Moves.{moved_off, written_home}
use Rattle.table.proofs.Writes.{as_long, as_long_set, same_capacity}
use Rattle.table.proofs.memory.Memory.relocate.Goals as goal

pub unlink-requires : goal.unlink-requires
unlink-requires g c = record {
  chained = c.requires.chained;
  small = omega (arith, c.requires.fits);
  place = c.requires.place;
  bucket = c.requires.old_bucket;
}

pub key_of-k-requires : goal.key_of-k-requires
key_of-k-requires g c = omega (arith, c.requires.fits, within_memory c.args.self.now, as_long _ _ c.unlink.ensures.entries.pair)

pub value_of-v-requires : goal.value_of-v-requires
value_of-v-requires g c = omega (arith, c.requires.fits, within_memory c.args.self.now, as_long _ _ c.unlink.ensures.entries.pair)

pub set_pair-requires : goal.set_pair-requires
set_pair-requires g c =
    omega (arith, c.requires.fits, c.requires.place, within_memory c.args.self.now, as_long _ _ c.unlink.ensures.entries.pair)

pub link-requires : goal.link-requires
link-requires g c =
    let s = c.args.self.now in
    let u = c.unlink.new.self in
    let t = c.set_pair.new.self in
    let hashed = g.K.NodeTrait.hashed in
    let e : g.row.K.Denot × g.row.V.Denot = (c.key_of-k.result, c.value_of-v.result) in
    let su = as_long s u c.unlink.ensures.entries.pair in
    let ut = as_long_set u t c.args.g e c.set_pair.ensures.pair in
    let same : capacity_of t ≡ capacity_of s = same_capacity s t (ut ∙ su) in
    record {
      chained =
          moved_off c.args.g (pairs u) (pairs t) e c.set_pair.ensures.pair hashed (capacity_of u) (capacity_of t) c.args.last (headed u) (headed t) (nexts u) (nexts t)
          (same_capacity u t ut) c.set_pair.ensures.heads c.set_pair.ensures.next c.unlink.ensures.chained;
      small = omega (arith, c.requires.fits, same);
      place = c.requires.place;
      bucket = record {
        below = omega (arith, c.requires.bucket.below, same);
        home =
            written_home c.args.g (pairs u) (pairs t) e c.set_pair.ensures.pair hashed (capacity_of t) (simp length-map (omega (arith, c.requires.fits, c.requires.place, within_memory s, su)))
            ∙ (ap (λ z. home z (hashed c.key_of-k.result)) same
            ∙ (sym (home_at hashed (capacity_of s) (pairs u) c.args.last c.key_of-k.result (simp length-map (omega (arith, c.requires.fits, within_memory s, su))) c.key_of-k.ensures)
            ∙ (ap (λ z. at (homes hashed (capacity_of s) z) c.args.last) c.unlink.ensures.entries.pair ∙ c.requires.bucket.home)));
      };
    }

pub returns : goal.returns
returns g c = record {
  chained = c.link.ensures.chained;
  marks = c.link.ensures.entries.marks ∙ (c.set_pair.ensures.marks ∙ c.unlink.ensures.entries.marks);
  pair = λ d.
      c.link.ensures.entries.pair
      ∙ (c.set_pair.ensures.pair
      ∙ (ap (λ z. set z c.args.g (c.key_of-k.result, c.value_of-v.result)) c.unlink.ensures.entries.pair
      ∙ ap (λ z. set (pairs c.args.self.now) c.args.g z)
      (pair_is _ _ _ (c.key_of-k.ensures d) (c.value_of-v.ensures d)
      ∙ ap (λ z. get_or z c.args.last d) c.unlink.ensures.entries.pair)));
}
