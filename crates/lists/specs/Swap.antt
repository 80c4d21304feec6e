-- Swap removal: an entry leaves, and the last entry takes its place.
use Rattle.std.specs.Prelude.{ℕ, List, [], ◌∷◌, length, take, slice_index_or, slice_set}

-- the last element is put at g, and the end dropped
abbrev pub swap_removed : {A : Type 0} → List A → ℕ → List A
swap_removed [] g = []
swap_removed (x ∷ xs) g = take (length xs) (slice_set (x ∷ xs) g (slice_index_or (x ∷ xs) (length xs) x))
