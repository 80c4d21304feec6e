-- Two cells for each link: the link at place p has the cells 2p and 2p + 1, one for each of its ends.
use Rattle.std.specs.Prelude.{ℕ, ◌+◌, ◌-◌, ◌*◌, ◌%◌, cond, List, [], ◌∷◌, map, ◌==◌, slice_index_or}
use Rattle.keys.specs.declared.kinds.Direction.{Direction}
use Rattle.keys.specs.declared.kinds.Direction.TheVariants.{Outgoing, Incoming}

-- the direction of a cell's entry
abbrev pub side : ℕ → Direction
side c = cond (c % 2 == 0) Outgoing Incoming

-- the other cell of the same link
abbrev pub twin : ℕ → ℕ
twin c = c + 1 - 2 * (c % 2)

-- the entries of the cells xs, where ks are the keys of all cells
abbrev pub told : {K : Type 0} → List K → List ℕ → List (K × Direction)
told [] xs = []
told (k ∷ ks) xs = map (λ c. (slice_index_or (k ∷ ks) c k, side c)) xs
