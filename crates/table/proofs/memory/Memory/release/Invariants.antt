use Rattle.std.proofs.Common.{◌≡◌, ℕ, ◌*◌, ◌<◌, ◌⊎◌}
use Rattle.table.specs.Slots.{pairs, headed, two, none}
use Rattle.table.specs.Index.{capacity_of, bucket_of}
use Rattle.table.proofs.memory.Memory.release.Given as goal

-- a bucket is empty, or as it was and none of the places so far is in it
abbrev pub invariant-loop-i : goal.invariant-loop-i
invariant-loop-i g l =
    (pairs l.self ≡ pairs l.initial.self)
    × ((b : ℕ) → b < 2 * capacity_of l.initial.self
    → (two (headed l.self) b ≡ none)
    ⊎ ((two (headed l.self) b ≡ two (headed l.initial.self) b) × ((j : ℕ) → j < l.i → bucket_of g.K.NodeTrait.hashed l.initial.self j ≡ b → ⊥)))
