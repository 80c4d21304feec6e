use Rattle.std.proofs.Common.{◌≡◌, get_or, take, Some, sym, ap, ◌∙◌}
use lib.Seq.{take-set-lt}
use Rattle.std.proofs.lemmas.Option.{get_or_from_slice_get}
use Rattle.table.specs.Slots.{pairs}
use Rattle.table.specs.Tables.{replaced_at}
use Rattle.table.proofs.Apart.{apart_set}
use Rattle.table.proofs.Entries.{entry_at, seen_slot}
use Rattle.table.proofs.Moves.{indexed_set}
use Rattle.table.proofs.table.Table.set_value.Goals as goal

pub invariant_of-self : goal.invariant_of-self
invariant_of-self g c =
    let s = c.self.inside.memory in
    let len = c.self.inside.len in
    let i = c.args.i in
    let x = c.in_ok-slot.slot.now in
    let I = c.self.invariant.index in
    let found = c.in_ok-slot.ensures.lookup.3 in
    let there = seen_slot I c.self.view_is _ c.as_slice.ensures.entries i x found.0 (found.1 x) in
    let key : (d : g.row.K.Denot × g.row.V.Denot) → x.key ≡ (get_or (take len (pairs s)) i d).0 =
    λ d. ap (λ z. z.0) (sym (get_or_from_slice_get (take len (pairs s)) i _ d there.0)) in
    record {
      index =
          indexed_set g.K.NodeTrait.hashed s c.set_pair.new.self len i x.key c.args.v I (λ d. key d ∙ ap (λ z. z.0) (entry_at I i d there.1))
          c.set_pair.ensures.pair c.set_pair.ensures.heads c.set_pair.ensures.next c.set_pair.ensures.marks;
      apart =
          rw (ap (take len) c.set_pair.ensures.pair ∙ take-set-lt len (pairs s) i (x.key, c.args.v) there.1)
          (apart_set g.K.Compare.value (take len (pairs s)) i x.key c.args.v key c.self.invariant.apart);
    }

pub returns-clause-done : goal.returns-clause-done
returns-clause-done g c =
    let x = c.in_ok-slot.slot.now in
    let found = c.in_ok-slot.ensures.lookup.3 in
    let there = seen_slot c.self.invariant.index c.self.view_is _ c.as_slice.ensures.entries c.args.i x found.0 (found.1 x) in
    rw (← c.self.view_is)
    (ap (λ z. (Some x.value, z)) (ap (take c.self.inside.len) c.set_pair.ensures.pair ∙ take-set-lt c.self.inside.len (pairs c.self.inside.memory) c.args.i (x.key, c.args.v) there.1)
    ∙ sym (ap (replaced_at _ c.args.i c.args.v) there.0))
