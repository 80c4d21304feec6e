use Rattle.std.proofs.Common.{◌≡◌, ◌+◌, ◌-◌, ◌<◌, ◌≤◌, length, get_or, set, ap, ◌∙◌, arith}
use Rattle.std.proofs.lemmas.List.{length-map, get_or-set_same, get_or-set_other}
use Rattle.lists.proofs.Swap.{take_swap_removed}
use Rattle.table.specs.Slots.{pairs}
use Rattle.table.specs.Index.{capacity_of, Marked}
use Rattle.table.proofs.Capacity.{within_memory}
use Rattle.table.proofs.Moves.{marked_same, marked_moved}
use Rattle.table.proofs.Writes.{same_capacity, same_room, as_long_copied, still_in_bucket}
use Rattle.table.proofs.memory.Memory.extract.Goals as goal

pub home_at-gone-requires : goal.home_at-gone-requires
home_at-gone-requires g c = omega (arith, c.requires.place, c.requires.indexed.fits)

pub home_at-b-requires : goal.home_at-b-requires
home_at-b-requires g c = omega (arith, c.requires.place, c.requires.indexed.fits)

pub detach-requires : goal.detach-requires
detach-requires g c =
    let s = c.args.self.now in
    let last : c.args.len - 1 + 1 ≡ c.args.len = omega (arith, c.requires.place) in
    record {
      fits = omega (arith, c.requires.place, c.requires.indexed.fits);
      bucket = c.home_at-b.ensures;
      chained = rw last c.requires.indexed.chained;
    }

pub tidy-requires : goal.tidy-requires
tidy-requires g c =
    let s = c.args.self.now in
    let u = c.detach.new.self in
    let same : capacity_of u ≡ capacity_of s = same_room s u c.detach.ensures.entries.pair in
    record {
      bucket = omega (arith, c.home_at-gone.ensures.below);
      indexed = record {
        fits = omega (arith, c.requires.indexed.fits);
        chained = c.detach.ensures.chained;
        marks =
            marked_same g.K.NodeTrait.hashed s u c.args.len (c.args.len - 1) c.requires.indexed.marks (omega arith) c.detach.ensures.entries.pair c.detach.ensures.entries.marks;
      };
    }

pub returns-then-g-last : goal.returns-then-g-last
returns-then-g-last g c =
    let s = c.args.self.now in
    let t = c.tidy.new.self in
    let same : pairs t ≡ pairs s = c.tidy.ensures.pair ∙ c.detach.ensures.entries.pair in
    record {
      indexed = c.tidy.ensures.indexed;
      room = same_room s t same;
      entries =
          take_swap_removed (pairs s) (pairs t) c.args.len c.args.g c.requires.place (simp length-map (omega (arith, c.requires.indexed.fits, within_memory s))) (ap length same)
          (λ lt d. let no : ⊥ = omega arith in absurd no) (λ i d lt ne. ap (λ z. get_or z i d) same);
    }

pub relocate-requires : goal.relocate-requires
relocate-requires g c =
    let s = c.args.self.now in
    let u = c.detach.new.self in
    let same : capacity_of u ≡ capacity_of s = same_room s u c.detach.ensures.entries.pair in
    let hashed = g.K.NodeTrait.hashed in
    record {
      fits = omega (arith, c.requires.place, c.requires.indexed.fits);
      bucket = still_in_bucket hashed s u (c.args.len - 1) c.home_at-b.result c.detach.ensures.entries.pair c.home_at-b.ensures;
      place = omega arith;
      old_bucket = still_in_bucket hashed s u c.args.g c.home_at-gone.result c.detach.ensures.entries.pair c.home_at-gone.ensures;
      chained = c.detach.ensures.chained;
    }

pub tidy-requires-2 : goal.tidy-requires-2
tidy-requires-2 g c =
    let s = c.args.self.now in
    let u = c.detach.new.self in
    let r = c.relocate.new.self in
    let last : c.args.len - 1 + 1 ≡ c.args.len = omega (arith, c.requires.place) in
    let within : c.args.len - 1 < length s = omega (arith, c.requires.place, c.requires.indexed.fits, within_memory s) in
    let moved : (d : g.row.K.Denot × g.row.V.Denot) → pairs r ≡ set (pairs s) c.args.g (get_or (pairs s) (c.args.len - 1) d) =
    λ d.
    c.relocate.ensures.pair d ∙ ap (λ z. set z c.args.g (get_or z (c.args.len - 1) d)) c.detach.ensures.entries.pair in
    let same : capacity_of r ≡ capacity_of s = same_capacity s r (as_long_copied s r c.args.g _ within moved) in
    let M : Marked g.K.NodeTrait.hashed s (c.args.len - 1 + 1) = rw last c.requires.indexed.marks in
    record {
      bucket = omega (arith, c.home_at-gone.ensures.below);
      indexed = record {
        fits = omega (arith, c.requires.indexed.fits);
        chained = c.relocate.ensures.chained;
        marks =
            marked_moved g.K.NodeTrait.hashed s r (c.args.len - 1) c.args.g M (omega (arith, c.requires.place)) within moved
            (c.relocate.ensures.marks ∙ c.detach.ensures.entries.marks);
      };
    }

pub returns : goal.returns
returns g c =
    let s = c.args.self.now in
    let t = c.tidy-2.new.self in
    let last = c.args.len - 1 in
    let same : (d : g.row.K.Denot × g.row.V.Denot) → pairs t ≡ set (pairs s) c.args.g (get_or (pairs s) last d) =
    λ d.
    c.tidy-2.ensures.pair
    ∙ (c.relocate.ensures.pair d ∙ ap (λ z. set z c.args.g (get_or z last d)) c.detach.ensures.entries.pair) in
    let within : last < length s = omega (arith, c.requires.place, c.requires.indexed.fits, within_memory s) in
    let long = as_long_copied s t c.args.g last within same in
    let fits : c.args.len ≤ length (pairs s) = simp length-map (omega (arith, c.requires.indexed.fits, within_memory s)) in
    record {
      indexed = c.tidy-2.ensures.indexed;
      room = same_capacity s t long;
      entries =
          take_swap_removed (pairs s) (pairs t) c.args.len c.args.g c.requires.place fits (simp length-map long)
          (λ lt d. ap (λ z. get_or z c.args.g d) (same d) ∙ get_or-set_same (pairs s) c.args.g (get_or (pairs s) last d) d (omega (arith, c.requires.place)))
          (λ i d lt ne. ap (λ z. get_or z i d) (same d) ∙ get_or-set_other (pairs s) c.args.g i (get_or (pairs s) last d) d ne);
    }
