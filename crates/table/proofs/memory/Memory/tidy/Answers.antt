use Rattle.std.proofs.Common.{◌≡◌, ℕ, ◌*◌, ◌<◌, ap, ◌∙◌, arith}
use Rattle.lists.proofs.Latest.{latest_covers}
use Rattle.table.specs.Slots.{pairs, headed, marked, nexts, at, two, none}
use Rattle.table.specs.Index.{bucket_of, capacity_of, tags, bit_of}
use Rattle.table.proofs.Capacity.{within_links, bucket_slot}
use Rattle.table.proofs.Marks.{marks_tidied}
use Rattle.table.proofs.Writes.{same_room, same_bucket, settled, relinked, reheaded}
use Rattle.table.proofs.memory.Memory.tidy.Goals as goal

pub head_of-requires : goal.head_of-requires
head_of-requires g c = bucket_slot c.args.self.now c.args.b c.requires.bucket

pub set_marks-requires : goal.set_marks-requires
set_marks-requires g c = bucket_slot c.args.self.now c.args.b c.requires.bucket

pub returns-then-head_of-eq-NONE : goal.returns-then-head_of-eq-NONE
returns-then-head_of-eq-NONE g c =
    let s = c.args.self.now in
    let t = c.set_marks.new.self in
    let n = c.args.n in
    let hashed = g.K.NodeTrait.hashed in
    let h = bucket_of hashed s in
    let out : (i : ℕ) → i < n → h i ≡ c.args.b → ⊥ =
    λ i lt e.
    omega (
      arith,
      (latest_covers none h c.args.b n i lt e).0,
      c.requires.indexed.chained.heads c.args.b c.requires.bucket,
      c.head_of.ensures.value,
      c.if-head_of-eq-NONE.true,
      c.requires.indexed.fits,
      within_links s,
    ) in
    record {
      indexed = record {
        fits = omega (arith, c.requires.indexed.fits, same_room s t c.set_marks.ensures.pair);
        chained =
            settled hashed (capacity_of s) (capacity_of t) n (pairs s) (pairs t) (two (headed t)) (at (nexts t)) (same_room s t c.set_marks.ensures.pair) c.set_marks.ensures.pair
            (relinked (2 * capacity_of s) n h (two (headed t)) (nexts s) (nexts t) c.set_marks.ensures.next
            (reheaded (2 * capacity_of s) n h (at (nexts s)) (headed s) (headed t) c.set_marks.ensures.heads c.requires.indexed.chained));
        marks = λ i lt.
            ap (λ z. bit_of (two (marked t) z) (at (tags hashed (pairs t)) i)) (same_bucket hashed s t c.set_marks.ensures.pair i)
            ∙ (ap (λ z. bit_of (two (marked t) (h i)) (at (tags hashed z) i)) c.set_marks.ensures.pair
            ∙ marks_tidied n c.args.b h (at (tags hashed (pairs s))) (two (marked s)) (two (marked t)) c.requires.indexed.marks out c.set_marks.ensures.marks.there i lt);
      };
      pair = c.set_marks.ensures.pair;
    }
