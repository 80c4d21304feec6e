use Rattle.std.proofs.Common.{◌≡◌, ◌<◌, get_or, take, sym, ap, ◌∙◌, arith}
use Rattle.std.proofs.lemmas.Bool.{both_ways}
use Rattle.lists.specs.Latest.{latest}
use Rattle.table.specs.Slots.{pairs, none, place_of}
use Rattle.table.specs.Index.{bucket_of}
use Rattle.table.proofs.Capacity.{bucket_slot}
use Rattle.table.proofs.Entries.{in_memory, below_none, length_entries, key_of_entry}
use Rattle.table.proofs.Seeks.{unseen_past, alike_same, same_alike}
use Rattle.table.proofs.Walks.{place_none, walk_place, walk_next}
use Rattle.table.proofs.memory.Memory.trace.Goals as goal

pub head_of-requires : goal.head_of-requires
head_of-requires g c = bucket_slot c.args.self.now c.args.b c.requires.bucket

pub loop-at-init : goal.loop-at-init
loop-at-init g c = (
  c.args.len,
  omega arith,
  c.place_of-at.ensures ∙ ap place_of (c.head_of.ensures.value ∙ c.requires.indexed.chained.heads c.args.b c.requires.bucket),
  λ i d ge lt e. omega (arith, length_entries c.requires.indexed),
)

pub key-requires : goal.key-requires
key-requires g c =
    let w =
    walk_place _ c.args.len _ _ _ c.requires.indexed.chained (below_none c.requires.indexed) c.args.b c.requires.bucket c.loop-at.invariant.0 c.in-Some.i c.loop-at.invariant.1 (sym c.in-Some.is ∙ c.loop-at.invariant.2) in
    omega (arith, w.0, c.loop-at.invariant.1, in_memory c.requires.indexed)

pub next_of-requires : goal.next_of-requires
next_of-requires g c =
    let w =
    walk_place _ c.args.len _ _ _ c.requires.indexed.chained (below_none c.requires.indexed) c.args.b c.requires.bucket c.loop-at.invariant.0 c.in-Some.i c.loop-at.invariant.1 (sym c.in-Some.is ∙ c.loop-at.invariant.2) in
    omega (arith, w.0, c.loop-at.invariant.1, in_memory c.requires.indexed)

pub returns-then-same : goal.returns-then-same
returns-then-same g c =
    let w =
    walk_place _ c.args.len _ _ _ c.requires.indexed.chained (below_none c.requires.indexed) c.args.b c.requires.bucket c.loop-at.invariant.0 c.in-Some.i c.loop-at.invariant.1 (sym c.in-Some.is ∙ c.loop-at.invariant.2) in
    let lt : c.in-Some.i < c.args.len = omega (arith, w.0, c.loop-at.invariant.1) in (
      omega (arith, length_entries c.requires.indexed),
      λ d.
          ap g.K.Compare.value (key_of_entry c.requires.indexed c.in-Some.i c.key.result.now d lt c.key.ensures)
          ∙ alike_same g.K.Compare.order g.met.K.Compare.ordered _ _ (sym c.same.ensures ∙ c.if-same.true),
    )

pub loop-at-smaller : goal.loop-at-smaller
loop-at-smaller g c =
    let w =
    walk_place _ c.args.len _ _ _ c.requires.indexed.chained (below_none c.requires.indexed) c.args.b c.requires.bucket c.loop-at.invariant.0 c.in-Some.i c.loop-at.invariant.1 (sym c.in-Some.is ∙ c.loop-at.invariant.2) in
    let lt : c.in-Some.i < c.args.len = omega (arith, w.0, c.loop-at.invariant.1) in
    rw (c.in-Some.is, c.place_of-at-in-Some.ensures)
    (walk_next _ c.args.len _ _ _ c.requires.indexed.chained (below_none c.requires.indexed) c.args.b c.requires.bucket c.in-Some.i c.next_of.result lt w.2 c.next_of.ensures.value).1

pub loop-at-preserved : goal.loop-at-preserved
loop-at-preserved g c =
    let w =
    walk_place _ c.args.len _ _ _ c.requires.indexed.chained (below_none c.requires.indexed) c.args.b c.requires.bucket c.loop-at.invariant.0 c.in-Some.i c.loop-at.invariant.1 (sym c.in-Some.is ∙ c.loop-at.invariant.2) in
    let i = c.in-Some.i in
    let low : i < c.args.len = omega (arith, w.0, c.loop-at.invariant.1) in (
      i,
      omega arith,
      c.place_of-at-in-Some.ensures
          ∙ (walk_next _ c.args.len _ _ _ c.requires.indexed.chained (below_none c.requires.indexed) c.args.b c.requires.bucket i c.next_of.result low w.2 c.next_of.ensures.value).0,
      λ j d ge lt e.
          let past =
          unseen_past g.K.Compare.value c.requires.indexed c.args.k.now c.args.b c.requires.hashed
          c.loop-at.invariant.0 i c.loop-at.invariant.1 w.1 c.loop-at.invariant.3 j d (omega (arith, length_entries c.requires.indexed)) e in
          let q : j ≡ i = omega (arith, past.1) in
          both_ways c.same.result c.if-same.false
          (c.same.ensures
          ∙ same_alike g.K.Compare.order g.met.K.Compare.ordered _ _
          (sym (ap g.K.Compare.value (key_of_entry c.requires.indexed i c.key.result.now d low c.key.ensures))
          ∙ (ap (λ z. g.K.Compare.value (get_or (take c.args.len (pairs c.args.self.now)) z d).0) (sym q) ∙ e))),
    )

pub returns : goal.returns
returns g c j d lt e =
    let end = place_none (latest none (bucket_of g.K.NodeTrait.hashed c.args.self.now) c.args.b c.loop-at.invariant.0) (sym c.loop-at.invariant.2 ∙ c.in_default.is) in
    let past =
    unseen_past g.K.Compare.value c.requires.indexed c.args.k.now c.args.b c.requires.hashed
    c.loop-at.invariant.0 none c.loop-at.invariant.1 (sym end) c.loop-at.invariant.3 j d (omega (arith, length_entries c.requires.indexed)) e in
    omega (arith, past.0, c.loop-at.invariant.1, below_none c.requires.indexed)
