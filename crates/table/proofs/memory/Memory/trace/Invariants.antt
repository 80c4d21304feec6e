use Rattle.std.proofs.Common.{◌≡◌, ℕ, ◌≤◌, take}
use Rattle.lists.specs.Latest.{latest}
use Rattle.table.specs.Slots.{pairs, none, place_of}
use Rattle.table.specs.Index.{bucket_of}
use Rattle.table.specs.Searches.{Unseen}
use Rattle.table.proofs.Walks.{to_go}
use Rattle.table.proofs.memory.Memory.trace.Given as goal

-- the walk stands at the latest place below some p, from which on the key was not seen
abbrev pub invariant-loop-at : goal.invariant-loop-at
invariant-loop-at g l =
    (p : ℕ) × (p ≤ l.len) × (l.at ≡ place_of (latest none (bucket_of g.K.NodeTrait.hashed l.self) l.b p))
    × Unseen g.K.Compare.value (take l.len (pairs l.self)) l.k p

abbrev pub decreases-loop-at : goal.decreases-loop-at
decreases-loop-at g l = to_go l.at
