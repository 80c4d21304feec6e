use Rattle.std.proofs.Common.{◌≡◌, ◌*◌, ◌<◌, sym, refl, ap, ◌∙◌, inl, inr, arith}
use Rattle.std.proofs.lemmas.Bool.{cases_eq}
use Rattle.lists.proofs.Latest.{latest_none}
use Rattle.table.specs.Slots.{headed, two, none}
use Rattle.table.specs.Index.{capacity_of, bucket_of}
use Rattle.table.proofs.Capacity.{bucket_slot}
use Rattle.table.proofs.Writes.{as_long, same_room, same_bucket, two_same}
use Rattle.table.proofs.memory.Memory.release.Goals as goal

pub loop-i-init : goal.loop-i-init
loop-i-init g c = (refl, λ b lt. inr (refl, λ j l. let no : ⊥ = omega arith in absurd no))

pub home_at-b-requires : goal.home_at-b-requires
home_at-b-requires g c = omega (arith, c.requires.fits, same_room c.args.self.now c.loop-i.self c.loop-i.invariant.0)

pub set_head-requires : goal.set_head-requires
set_head-requires g c = record {
  within = bucket_slot c.loop-i.self c.home_at-b.result c.home_at-b.ensures.below;
  fits = omega arith;
}

pub set_marks-requires : goal.set_marks-requires
set_marks-requires g c =
    omega (arith, bucket_slot c.loop-i.self c.home_at-b.result c.home_at-b.ensures.below, as_long _ _ c.set_head.ensures.pair)

pub loop-i-preserved : goal.loop-i-preserved
loop-i-preserved g c =
    let s = c.args.self.now in
    let t = c.loop-i.self in
    let i = c.loop-i.i in
    let b₀ = c.home_at-b.result in
    let here : bucket_of g.K.NodeTrait.hashed s i ≡ b₀ =
    sym (same_bucket g.K.NodeTrait.hashed s t c.loop-i.invariant.0 i) ∙ c.home_at-b.ensures.home in
    let heads = c.set_head.ensures.heads in
    let same = two_same (headed c.set_head.new.self) (headed c.set_marks.new.self) c.set_marks.ensures.heads in (
      c.set_marks.ensures.pair ∙ (c.set_head.ensures.pair ∙ c.loop-i.invariant.0),
      λ b lt.
          elim (cases_eq b b₀) [
            | inl q ↦ inl (same b ∙ (ap (two (headed c.set_head.new.self)) q ∙ heads.here))
            | inr ne ↦
                elim (c.loop-i.invariant.1 b lt) [
                  | inl e ↦ inl (same b ∙ (heads.there b ne ∙ e))
                  | inr k ↦
                      inr (
                        same b ∙ (heads.there b ne ∙ k.0),
                        λ j l e.
                            elim (cases_eq j i) [
                              | inl q ↦ ne (sym e ∙ (ap (bucket_of g.K.NodeTrait.hashed s) q ∙ here))
                              | inr nj ↦ k.1 j (omega arith) e
                            ],
                      )
                ]
          ],
    )

pub returns : goal.returns
returns g c =
    let s = c.args.self.now in
    let room = same_room s c.loop-i.self c.loop-i.invariant.0 in
    record {
      empty = λ b lt.
          let bl : b < 2 * capacity_of s = omega (arith, room) in
          elim (c.loop-i.invariant.1 b bl) [
            | inl e ↦ e
            | inr k ↦
                k.0
                ∙ (c.requires.chained.heads b bl
                ∙ latest_none none (bucket_of g.K.NodeTrait.hashed s) b c.args.len (λ j l e. k.1 j (omega arith) e))
          ];
      room = room;
    }
