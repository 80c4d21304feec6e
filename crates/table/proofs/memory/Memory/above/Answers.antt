use Rattle.std.proofs.Common.{◌<◌, sym, ap, ◌∙◌, arith}
use Rattle.lists.specs.Latest.{latest}
use Rattle.table.specs.Slots.{none, place_of}
use Rattle.table.proofs.Capacity.{within_memory, within_links, bucket_slot}
use Rattle.table.proofs.Walks.{place_none, walk_place, walk_next, above_from}
use Rattle.table.proofs.memory.Memory.above.Goals as goal

pub head_of-requires : goal.head_of-requires
head_of-requires g c = bucket_slot c.args.self.now c.args.b c.requires.bucket

pub loop-at-init : goal.loop-at-init
loop-at-init g c = (
  c.requires.place,
  omega arith,
  λ lt. let no : ⊥ = omega arith in absurd no,
  (
    c.requires.chained,
    c.place_of-at.ensures ∙ ap place_of (c.head_of.ensures.value ∙ c.requires.chained.chains.heads c.args.b c.requires.bucket),
  ),
)

pub next_of-requires : goal.next_of-requires
next_of-requires g c =
    let w =
    walk_place _ c.args.n _ _ _ c.loop-at.invariant.3.0.chains (omega (arith, c.requires.small, within_links c.args.self.now)) c.args.b c.requires.bucket c.loop-at.p c.in-Some.i c.loop-at.invariant.1 (sym c.in-Some.is ∙ c.loop-at.invariant.3.1) in
    omega (arith, w.0, c.loop-at.invariant.1, c.requires.small, within_memory c.args.self.now)

pub loop-at-smaller : goal.loop-at-smaller
loop-at-smaller g c =
    (walk_place _ c.args.n _ _ _ c.loop-at.invariant.3.0.chains (omega (arith, c.requires.small, within_links c.args.self.now)) c.args.b c.requires.bucket c.loop-at.p c.in-Some.i c.loop-at.invariant.1 (sym c.in-Some.is ∙ c.loop-at.invariant.3.1)).0

pub loop-at-preserved : goal.loop-at-preserved
loop-at-preserved g c =
    let C = c.loop-at.invariant.3.0 in
    let i = c.in-Some.i in
    let w =
    walk_place _ c.args.n _ _ _ c.loop-at.invariant.3.0.chains (omega (arith, c.requires.small, within_links c.args.self.now)) c.args.b c.requires.bucket c.loop-at.p c.in-Some.i c.loop-at.invariant.1 (sym c.in-Some.is ∙ c.loop-at.invariant.3.1) in
    let low : i < c.args.n = omega (arith, w.0, c.loop-at.invariant.1) in (
      omega arith,
      omega arith,
      λ _. sym (C.agrees i (omega arith)) ∙ w.2,
      (
        C,
        c.place_of-at-in-Some.ensures
            ∙ (walk_next _ c.args.n _ _ _ C.chains (omega (arith, c.requires.small, within_links c.args.self.now)) c.args.b c.requires.bucket i c.next_of.result low w.2 c.next_of.ensures.value).0,
      ),
    )

pub returns-then-i-g : goal.returns-then-i-g
returns-then-i-g g c =
    let w =
    walk_place _ c.args.n _ _ _ c.loop-at.invariant.3.0.chains (omega (arith, c.requires.small, within_links c.args.self.now)) c.args.b c.requires.bucket c.loop-at.p c.in-Some.i c.loop-at.invariant.1 (sym c.in-Some.is ∙ c.loop-at.invariant.3.1) in
    above_from _ c.args.n c.args.g _ _ _ c.loop-at.invariant.3.0 (omega (arith, c.requires.small, within_links c.args.self.now)) c.args.b c.requires.bucket c.loop-at.p c.in-Some.i
    c.loop-at.invariant.0 c.loop-at.invariant.1 c.loop-at.invariant.2 w.1 (λ _ lt. omega arith)

pub returns : goal.returns
returns g c =
    let end = place_none (latest none c.loop-at.invariant.3.0.bucket c.args.b c.loop-at.p) (sym c.loop-at.invariant.3.1 ∙ c.in_default.is) in
    above_from _ c.args.n c.args.g _ _ _ c.loop-at.invariant.3.0 (omega (arith, c.requires.small, within_links c.args.self.now)) c.args.b c.requires.bucket c.loop-at.p none
    c.loop-at.invariant.0 c.loop-at.invariant.1 c.loop-at.invariant.2 (sym end)
    (λ lt _. omega (arith, c.loop-at.invariant.1, c.requires.small, within_links c.args.self.now))
