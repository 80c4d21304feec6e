use Rattle.std.proofs.Common.{rules, ◌∙◌, arith}
use Rattle.std.proofs.lemmas.Result.{err_from_is_err_and}
use Rattle.text.proofs.Readings.{limited_by, number_of_empty, number_of_reading, reading_more, reading_stops, reading_all}
use Rattle.text.proofs.numbers.number.Goals as goal

pub returns-then-is_empty : goal.returns-then-is_empty
returns-then-is_empty c = number_of_empty c.args.word.now c.if-is_empty.ensures

pub loop-b-init : goal.loop-b-init
loop-b-init c = (omega arith, number_of_reading c.args.word.now c.if-is_empty.ensures)

pub returns-in_err-digit_value : goal.returns-in_err-digit_value
returns-in_err-digit_value c =
    let p = err_from_is_err_and c.from_residual.result c.from_residual.ensures.1 in
    rw (p.1, p.2) (reading_stops c.args.word.now c.loop-b.value c.loop-b.b-index c.loop-b.invariant.1 _ (omega arith) c.in_err-digit_value.ensures)

pub loop-b-preserved : goal.loop-b-preserved
loop-b-preserved c = (
  omega arith,
  reading_more c.args.word.now c.loop-b.value c.loop-b.b-index c.loop-b.invariant.1 _ _ (omega arith) c.in_ok-digit_value.ensures c.min-value.ensures,
)

pub returns : goal.returns
returns c =
    limited_by c.loop-b.value c.try_from.result c.map_err.result c.try_from.ensures (search rules) ∙ reading_all c.args.word.now c.loop-b.value c.loop-b.b-index c.loop-b.invariant.1 (omega arith)
