-- How the capacity bounds places and buckets.
use Rattle.std.proofs.Common.{ℕ, ◌*◌, ◌/◌, ◌<◌, ◌≤◌, List, length, arith}
use native.Mathlib.Nat.{min-le_left, min-le_right}
use Rattle.table.specs.Index.{capacity_of}

pub within_memory : {A : Type 0} (xs : List A) → capacity_of xs ≤ length xs
within_memory xs = min-le_left _ _

pub within_links : {A : Type 0} (xs : List A) → capacity_of xs ≤ 65535
within_links xs = min-le_right _ _

pub bucket_slot : {A : Type 0} (xs : List A) (b : ℕ) → b < 2 * capacity_of xs → b / 2 < length xs
bucket_slot xs b lt = omega (arith, within_memory xs)
