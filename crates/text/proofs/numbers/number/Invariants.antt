use Rattle.std.proofs.Common.{◌≡◌, ◌^◌, ◌≤◌, drop}
use Rattle.text.specs.Numbers.{number_of}
use Rattle.text.proofs.Readings.{reading}
use Rattle.text.proofs.numbers.number.Given as goal

abbrev pub invariant-loop-b : goal.invariant-loop-b
invariant-loop-b l = (l.value ≤ 2 ^ 32) × (reading l.value (drop l.b-index l.word) ≡ number_of l.word)
