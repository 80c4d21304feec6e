use Rattle.std.proofs.Common.{◌≡◌, ℕ, ◌*◌, ◌<◌}
use Rattle.table.specs.Slots.{headed, two, none}
use Rattle.table.proofs.memory.Memory.emptied.Given as goal

abbrev pub invariant-loop-slot : goal.invariant-loop-slot
invariant-loop-slot g l = (b : ℕ) → b < 2 * l.slot-index → two (headed l.slot-items) b ≡ none
