-- What each call answers and leaves.
use Rattle.std.specs.Prelude.{ℕ, ◌-◌, cond, List, [], ◌∷◌, ◌++◌, length, Some, None, Ok, Err, Option, Result, nat_lt, slice_set}
use Rattle.std.specs.declared.cmp.Ordering.{Ordering}
use Rattle.std.specs.List.{slice_get}
use Rattle.keys.specs.Order.{alike}
use Rattle.lists.specs.Positions.{position}
use Rattle.lists.specs.Swap.{swap_removed}
use Rattle.table.specs.declared.table.Vacancy.{Vacancy}
use Rattle.table.specs.declared.table.Taken.{Taken}
use Rattle.table.specs.Index.{home, mark}

-- where a key that is not there would go: it follows from its hash
abbrev pub vacancy : ℕ → ℕ → Vacancy
vacancy room hash = record { home = home room hash; mark = mark hash }

abbrev pub found : Option ℕ → Vacancy → Result ℕ Vacancy
found None w = Err w
found (Some i) w = Ok i

-- the place of the entry whose key has k's value
abbrev pub sought : {K V W : Type 0} → (W → W → Ordering) → (K → W) → (K → ℕ) → ℕ → List (K × V) → K → Result ℕ Vacancy
sought order value hashed room es k =
    found (position (λ e. alike order (value e.0) (value k)) es) (vacancy room (hashed k))

-- an entry at the end, where there is room: its place, and the entries then
abbrev pub appended : {K V : Type 0} → ℕ → List (K × V) → K × V → Option ℕ × List (K × V)
appended room es e = cond (nat_lt (length es) room) (Some (length es), es ++ e ∷ []) (None, es)

abbrev pub replaced_at : {K V : Type 0} → List (K × V) → ℕ → V → Option (K × V) → Option V × List (K × V)
replaced_at es i v None = (None, es)
replaced_at es i v (Some e) = (Some e.1, slice_set es i (e.0, v))

-- another value at place i: the old one, and the entries then; none where there is no such place
abbrev pub replaced : {K V : Type 0} → List (K × V) → ℕ → V → Option V × List (K × V)
replaced es i v = replaced_at es i v (slice_get es i)

abbrev pub taken_at : {K V : Type 0} → List (K × V) → ℕ → Option (K × V) → Option (Taken K V) × List (K × V)
taken_at es i None = (None, es)
taken_at es i (Some e) = (Some (record { entry = e; last = length es - 1; gap = i }), swap_removed es i)

-- the entry at place i by swap removal: what was taken, and the entries then; none where there is no such place
abbrev pub taken : {K V : Type 0} → List (K × V) → ℕ → Option (Taken K V) × List (K × V)
taken es i = taken_at es i (slice_get es i)
