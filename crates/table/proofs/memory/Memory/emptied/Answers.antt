use Rattle.std.proofs.Common.{◌≡◌, ℕ, List, ◌++◌, ◌/◌, ◌<◌, length, drop, set, ap, ◌∙◌, inl, inr, arith}
use Rattle.std.proofs.lemmas.List.{map-set, map-append, length-map, length-take-le, length-append, length-drop}
use Rattle.std.proofs.lemmas.Bool.{cases_eq}
use Rattle.table.specs.Slots.{headed, none, two}
use Rattle.table.proofs.Capacity.{within_memory}
use Rattle.table.proofs.Twos.{two_filled, two_kept, two_first}
use Rattle.table.proofs.Writes.{same_capacity}
use Rattle.table.proofs.memory.Memory.emptied.Goals as goal

pub loop-slot-preserved : goal.loop-slot-preserved
loop-slot-preserved g c b lt =
    let s = c.loop-slot.slot-items in
    let i = c.loop-slot.slot-index in
    let e = map-set (λ x. x.heads) s i c.vacate.new.self ∙ ap (λ (z : List ℕ). set (headed s) i z) c.vacate.ensures in
    elim (cases_eq (b / 2) i) [
      | inl q ↦ two_filled (headed s) _ i none e (simp length-map (omega arith)) b q
      | inr ne ↦ two_kept (headed s) _ i none e (simp length-map (omega arith)) b ne ∙ c.loop-slot.invariant b (omega arith)
    ]

pub returns : goal.returns
returns g c =
    let s = c.args.slots.now in
    let items = c.loop-slot.slot-items in
    let n = c.min-used.result in
    let m = length-take-le n s (omega (arith, c.min-used.ensures, within_memory s)) in
    let long : length (items ++ drop n s) ≡ length s =
    omega (arith, m, c.min-used.ensures, within_memory s, length-append items (drop n s), length-drop n s) in
    record {
      empty = λ b lt.
          let in_items : b / 2 < length items = omega (arith, m, c.min-used.ensures, long) in
          ap (λ (z : List (List ℕ)). two z b) (map-append (λ x. x.heads) items (drop n s))
          ∙ (two_first (headed items) (headed (drop n s)) b (simp length-map in_items)
          ∙ c.loop-slot.invariant b (omega arith));
      room = same_capacity s _ long;
    }
