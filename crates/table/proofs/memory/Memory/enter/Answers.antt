use Rattle.std.proofs.Common.{◌≡◌, ℕ, suc, ◌+◌, ◌*◌, ◌%◌, ◌^◌, ◌<◌, List, length, set, sym, refl, ap, ◌∙◌, add-one, arith}
use lib.Bits.{bit_or}
use Rattle.std.proofs.lemmas.List.{length-map}
use Rattle.std.proofs.lemmas.Nat.{one_shl}
use Rattle.lists.specs.Chains.{Chains}
use Rattle.lists.proofs.Chains.{pushed}
use Rattle.table.specs.declared.table.Vacancy.{Vacancy}
use Rattle.table.specs.Slots.{pairs, headed, marked, nexts, at, two, none}
use Rattle.table.specs.Index.{capacity_of, homes, tags, bit_of}
use Rattle.table.proofs.Capacity.{within_memory, within_links}
use Rattle.table.proofs.Lists.{at_set, at_other}
use Rattle.table.proofs.Marks.{marks_pushed}
use Rattle.table.proofs.Moves.{written_home, other_home, written_tag, other_tag}
use Rattle.table.proofs.Writes.{as_long_set, slot_kept, same_capacity, settled, two_same}
use Rattle.table.proofs.memory.Memory.enter.Goals as goal

pub set_pair-requires : goal.set_pair-requires
set_pair-requires g c = omega (arith, c.requires.room, within_memory c.args.self.now)

pub head_of-head-requires : goal.head_of-head-requires
head_of-head-requires g c = slot_kept c.args.self.now _ _ _ c.args.w.home c.set_pair.ensures.pair c.requires.bucket

pub set_next-requires : goal.set_next-requires
set_next-requires g c = record {
  within = omega (arith, c.requires.room, within_memory c.args.self.now, as_long_set _ _ _ _ c.set_pair.ensures.pair);
  fits = c.head_of-head.ensures.fits;
}

pub set_head-requires : goal.set_head-requires
set_head-requires g c = record {
  within = slot_kept c.args.self.now _ _ _ c.args.w.home (c.set_next.ensures.pair ∙ c.set_pair.ensures.pair) c.requires.bucket;
  fits = omega (arith, c.requires.room, within_links c.args.self.now);
}

pub marks_of-marks-requires : goal.marks_of-marks-requires
marks_of-marks-requires g c =
    slot_kept c.args.self.now _ _ _ c.args.w.home (c.set_head.ensures.pair ∙ (c.set_next.ensures.pair ∙ c.set_pair.ensures.pair)) c.requires.bucket

pub set_marks-requires : goal.set_marks-requires
set_marks-requires g c =
    slot_kept c.args.self.now _ _ _ c.args.w.home (c.set_head.ensures.pair ∙ (c.set_next.ensures.pair ∙ c.set_pair.ensures.pair)) c.requires.bucket

pub returns : goal.returns
returns g c =
    let s = c.args.self.now in
    let p = c.set_pair.new.self in
    let r = c.set_next.new.self in
    let q = c.set_head.new.self in
    let t = c.set_marks.new.self in
    let len = c.args.len in
    let b = c.args.w.home in
    let k = c.args.w.mark in
    let hashed = g.K.NodeTrait.hashed in
    let cap = capacity_of s in
    let e : g.row.K.Denot × g.row.V.Denot = (c.args.k, c.args.v) in
    let pair : pairs t ≡ set (pairs s) len e =
    c.set_marks.ensures.pair ∙ (c.set_head.ensures.pair ∙ (c.set_next.ensures.pair ∙ c.set_pair.ensures.pair)) in
    let room : capacity_of t ≡ cap = same_capacity s t (as_long_set s t len e pair) in
    let in_pairs : len < length (pairs s) = simp length-map (omega (arith, c.requires.room, within_memory s)) in
    let next : nexts t ≡ set (nexts s) len c.head_of-head.result =
    c.set_marks.ensures.next
    ∙ (c.set_head.ensures.next
    ∙ (c.set_next.ensures.next ∙ ap (λ (l : List ℕ). set l len c.head_of-head.result) c.set_pair.ensures.next)) in
    let in_nexts : len < length (nexts s) = simp length-map (omega (arith, c.requires.room, within_memory s)) in
    let before : (x : ℕ) → two (headed r) x ≡ two (headed s) x =
    two_same (headed s) (headed r) (c.set_next.ensures.heads ∙ c.set_pair.ensures.heads) in
    let after : (x : ℕ) → two (headed t) x ≡ two (headed q) x = two_same (headed q) (headed t) c.set_marks.ensures.heads in
    let old : (x : ℕ) → two (marked q) x ≡ two (marked s) x =
    two_same (marked s) (marked q) (c.set_head.ensures.marks ∙ (c.set_next.ensures.marks ∙ c.set_pair.ensures.marks)) in
    let h' = at (homes hashed cap (pairs t)) in
    let at_home : h' len ≡ b =
    written_home len (pairs s) (pairs t) e pair hashed cap in_pairs ∙ sym (ap (λ (z : Vacancy). z.home) c.requires.hashed) in
    let at_tag : at (tags hashed (pairs t)) len ≡ k =
    written_tag len (pairs s) (pairs t) e pair hashed in_pairs ∙ sym (ap (λ (z : Vacancy). z.mark) c.requires.hashed) in
    let small : k < 8 = omega (arith, ap (λ (z : Vacancy). z.mark) c.requires.hashed) in
    let L : Chains none (2 * cap) (suc len) h' (two (headed t)) (at (nexts t)) =
    pushed none (2 * cap) len b (at (homes hashed cap (pairs s))) (two (headed s)) (at (nexts s)) h' (two (headed t)) (at (nexts t)) c.requires.indexed.chained
    at_home (other_home len (pairs s) (pairs t) e pair hashed cap)
    (at_set (nexts s) (nexts t) len _ next in_nexts ∙ (c.head_of-head.ensures.value ∙ two_same (headed s) (headed p) c.set_pair.ensures.heads b))
    (at_other (nexts s) (nexts t) len _ next)
    (after b ∙ c.set_head.ensures.heads.here) (λ x ne. after x ∙ (c.set_head.ensures.heads.there x ne ∙ before x)) in
    record {
      indexed = record {
        fits = omega (arith, c.requires.room, room);
        chained =
            settled hashed cap (capacity_of t) (len + 1) (pairs t) (pairs t) (two (headed t)) (at (nexts t)) room refl (rw (add-one len) L);
        marks = λ i lt.
            ap (λ z. bit_of (two (marked t) (at (homes hashed z (pairs t)) i)) (at (tags hashed (pairs t)) i)) room
            ∙ marks_pushed len b k (at (homes hashed cap (pairs s))) (at (tags hashed (pairs s))) (two (marked s)) h' (at (tags hashed (pairs t))) (two (marked t)) c.requires.indexed.marks
            at_home at_tag (other_home len (pairs s) (pairs t) e pair hashed cap) (other_tag len (pairs s) (pairs t) e pair hashed)
            (c.set_marks.ensures.marks.here
            ∙ (ap (λ z. bit_or z (1 * 2 ^ k % 2 ^ 8)) (c.marks_of-marks.ensures ∙ old b) ∙ ap (λ z. bit_or (two (marked s) b) z) (one_shl k 8 small)))
            (λ x ne. c.set_marks.ensures.marks.there x ne ∙ old x) i lt;
      };
      pair = pair;
    }
