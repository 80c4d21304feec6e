use Rattle.std.proofs.Common.{◌<◌, ltb, [], ◌∷◌, ◌++◌, length, take, Some, sym, refl, ap, ◌∙◌, arith}
use Rattle.std.proofs.lemmas.Bool.{cond-true, cond-false, lt-ltb, le-ltb}
use Rattle.table.specs.declared.table.Vacancy.{Vacancy}
use Rattle.table.specs.Slots.{pairs}
use Rattle.table.specs.Index.{capacity_of}
use Rattle.table.proofs.Apart.{apart_push}
use Rattle.table.proofs.Entries.{length_entries, length_seen, take_set_end}
use Rattle.table.proofs.Homes.{home_below}
use Rattle.table.proofs.Seeks.{seen_vacant}
use Rattle.table.proofs.Writes.{as_long_set, same_capacity}
use Rattle.table.proofs.table.Table.append.Goals as goal

pub returns-then-len-capacity : goal.returns-then-len-capacity
returns-then-len-capacity g c =
    let t = c.args.self.now in
    record {
      done =
          sym (cond-false (ltb (length t.entries) t.room) _ _ (le-ltb _ _ (omega (arith, length_seen c.self.invariant.index c.self.view_is, c.capacity.ensures.room))));
      room = refl;
    }

pub enter-requires : goal.enter-requires
enter-requires g c =
    let s = c.self.inside.memory in
    let room : c.self.inside.len < capacity_of s = omega (arith, c.capacity.ensures.room, ap (λ z. z.room) c.self.view_is) in
    let v =
    seen_vacant g.K.Compare.order g.met.K.Compare.ordered g.K.Compare.value g.K.NodeTrait.hashed _ _ c.args.k c.args.w c.self.view_is c.requires.absent in
    record {
      room = room;
      indexed = c.self.invariant.index;
      bucket =
          omega (arith, ap (λ (z : Vacancy). z.home) v.1, home_below (capacity_of s) (g.K.NodeTrait.hashed c.args.k) (omega arith));
      hashed = v.1;
    }

pub invariant_of-self : goal.invariant_of-self
invariant_of-self g c =
    let s = c.self.inside.memory in
    let len = c.self.inside.len in
    let v =
    seen_vacant g.K.Compare.order g.met.K.Compare.ordered g.K.Compare.value g.K.NodeTrait.hashed _ _ c.args.k c.args.w c.self.view_is c.requires.absent in
    let room : len < capacity_of s = omega (arith, c.capacity.ensures.room, ap (λ z. z.room) c.self.view_is) in
    record {
      index = c.enter.ensures.indexed;
      apart =
          rw (take_set_end s c.enter.new.self len (c.args.k, c.args.v) c.enter.ensures.pair room)
          (apart_push g.K.Compare.value (take len (pairs s)) c.args.k c.args.v c.self.invariant.apart v.0);
    }

pub returns : goal.returns
returns g c =
    let s = c.self.inside.memory in
    let s' = c.enter.new.self in
    let len = c.self.inside.len in
    let es = take len (pairs s) in
    let room : len < capacity_of s = omega (arith, c.capacity.ensures.room, ap (λ z. z.room) c.self.view_is) in
    rw (← c.self.view_is)
    (record {
      done =
          ap (λ z. (Some len, z)) (take_set_end s s' len (c.args.k, c.args.v) c.enter.ensures.pair room)
          ∙ (ap (λ z. (Some z, es ++ (c.args.k, c.args.v) ∷ [])) (sym (length_entries c.self.invariant.index))
          ∙ sym (cond-true (ltb (length es) (capacity_of s)) _ _ (lt-ltb _ _ (omega (arith, length_entries c.self.invariant.index)))));
      room = same_capacity s s' (as_long_set s s' len _ c.enter.ensures.pair);
    })
