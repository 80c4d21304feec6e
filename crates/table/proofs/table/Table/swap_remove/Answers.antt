use Rattle.std.proofs.Common.{◌≡◌, ◌-◌, get_or, take, Some, sym, refl, ap, ◌∙◌, arith}
use Rattle.std.proofs.lemmas.Option.{slice_get-get_or, slice_get_past}
use Rattle.lists.specs.Swap.{swap_removed}
use Rattle.table.specs.Slots.{pairs}
use Rattle.table.specs.Tables.{taken_at}
use Rattle.table.proofs.Apart.{apart_swap_removed}
use Rattle.table.proofs.Entries.{length_entries, length_seen}
use Rattle.table.proofs.Lists.{pair_is}
use Rattle.table.proofs.table.Table.swap_remove.Goals as goal

pub returns-then-i-len : goal.returns-then-i-len
returns-then-i-len g c =
    rw (← c.self.view_is)
    (record {
      done = sym (ap (taken_at _ c.args.i) (slice_get_past _ c.args.i (omega (arith, length_entries c.self.invariant.index))));
      room = refl;
    })

pub key_at-requires : goal.key_at-requires
key_at-requires g c =
    omega (arith, length_seen c.self.invariant.index c.self.view_is)

pub value_at-requires : goal.value_at-requires
value_at-requires g c =
    omega (arith, length_seen c.self.invariant.index c.self.view_is)

pub invariant_of-self : goal.invariant_of-self
invariant_of-self g c = record {
  index = c.extract.ensures.indexed;
  apart =
      rw c.extract.ensures.entries
      (apart_swap_removed g.K.Compare.value _ c.args.i c.self.invariant.apart (omega (arith, length_entries c.self.invariant.index)));
}

pub returns : goal.returns
returns g c =
    let s = c.self.inside.memory in
    let len = c.self.inside.len in
    let i = c.args.i in
    let es = take len (pairs s) in
    let n = length_entries c.self.invariant.index in
    let old : g.row.K.Denot × g.row.V.Denot = (c.key_at.result, c.value_at.result) in
    let was : old ≡ get_or es i old =
    pair_is _ _ _ (c.key_at.ensures old) (c.value_at.ensures old) ∙ ap (λ z. get_or z.entries i old) (sym c.self.view_is) in
    rw (← c.self.view_is)
    (record {
      done =
          ap (λ z. (Some (record { entry = old; last = len - 1; gap = i }), z)) c.extract.ensures.entries
          ∙ (ap (λ z. (Some (record { entry = old; last = z - 1; gap = i }), swap_removed es i)) (sym n)
          ∙ sym (ap (taken_at es i) (slice_get-get_or es i old (omega arith) ∙ ap Some (sym was))));
      room = c.extract.ensures.room;
    })
