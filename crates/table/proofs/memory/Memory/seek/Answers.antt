use Rattle.std.proofs.Common.{◌<◌, refl, ap, arith}
use Rattle.table.specs.declared.table.Vacancy.{Vacancy}
use Rattle.table.specs.Slots.{marked, two}
use Rattle.table.proofs.Capacity.{bucket_slot}
use Rattle.table.proofs.Entries.{length_entries}
use Rattle.table.proofs.Seeks.{home_of_same, tag_of_same, unmarked}
use Rattle.table.proofs.memory.Memory.seek.Goals as goal

pub marks_of-requires : goal.marks_of-requires
marks_of-requires g c = bucket_slot c.args.self.now c.args.w.home c.requires.bucket

pub overflow_shr-marks_of : goal.overflow_shr-marks_of
overflow_shr-marks_of g c = omega (arith, ap (λ (z : Vacancy). z.mark) (c.requires.hashed c.args.k.now refl))

pub returns-then-marks_of-w-eq0 : goal.returns-then-marks_of-w-eq0
returns-then-marks_of-w-eq0 g c i d lt e =
    let s = c.args.self.now in
    let len = c.args.len in
    let il : i < len = omega (arith, length_entries c.requires.indexed) in
    let b =
    home_of_same g.K.Compare.value c.requires.indexed c.args.k.now c.args.w.home
    (λ j q. ap (λ (z : Vacancy). z.home) (c.requires.hashed j q)) i d il e in
    let m =
    tag_of_same g.K.Compare.value c.requires.indexed c.args.k.now c.args.w.mark
    (λ j q. ap (λ (z : Vacancy). z.mark) (c.requires.hashed j q)) i d il e in
    let z = unmarked (two (marked s)) _ _ _ _ _ b m c.marks_of.ensures c.if-marks_of-w-eq0.true in
    omega (arith, z, c.requires.indexed.marks i il)

pub trace-requires : goal.trace-requires
trace-requires g c = record {
  indexed = c.requires.indexed;
  bucket = c.requires.bucket;
  hashed = λ j q. ap (λ (z : Vacancy). z.home) (c.requires.hashed j q);
}
