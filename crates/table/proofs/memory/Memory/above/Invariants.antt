use Rattle.std.proofs.Common.{◌≡◌, ◌<◌, ◌≤◌}
use Rattle.lists.specs.Latest.{latest}
use Rattle.table.specs.Slots.{none, place_of}
use Rattle.table.specs.Index.{bucket_of, ChainedBut}
use Rattle.table.proofs.memory.Memory.above.Given as goal

abbrev pub invariant-loop-at : goal.invariant-loop-at
invariant-loop-at g l =
    (l.g < l.p) × (l.p ≤ l.n) × (l.p < l.n → bucket_of g.K.NodeTrait.hashed l.self l.p ≡ l.b)
    × ((C : ChainedBut g.K.NodeTrait.hashed l.self l.n l.g) × (l.at ≡ place_of (latest none C.bucket l.b l.p)))

abbrev pub decreases-loop-at : goal.decreases-loop-at
decreases-loop-at g l = l.p
