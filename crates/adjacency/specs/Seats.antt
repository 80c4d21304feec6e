-- A node's place in the table, or the end where it is absent.
use Rattle.std.specs.Prelude.{ℕ, ◌+◌, Bool, cond, List, [], ◌∷◌, ◌++◌, Some, None, Ok, Err, Option, Result}
use Rattle.lists.specs.Positions.{position}
use Rattle.table.specs.declared.table.Vacancy.{Vacancy}
use Rattle.model.specs.Keys.{Keys, eq}
use Rattle.rows.specs.declared.cells.RowHead.{RowHead}
use Rattle.rows.specs.Links.{bare}

-- 1 where a search found nothing
abbrev pub vacant : Result ℕ Vacancy → ℕ
vacant (Ok i) = 0
vacant (Err w) = 1

-- how many of two ends are absent, where `one` says that they are the same
abbrev pub lacking_of : Result ℕ Vacancy → Result ℕ Vacancy → Bool → ℕ
lacking_of first second one = cond one (vacant first) (vacant first + vacant second)

abbrev pub seat_by : {N : Type 0} → Option ℕ → N → List (N × RowHead) → List (N × RowHead)
seat_by None n es = es ++ (n, bare) ∷ []
seat_by (Some i) n es = es

-- an absent node at the end, with an empty row
abbrev pub seated_in : {N V : Type 0} → Keys N V → N → List (N × RowHead) → List (N × RowHead)
seated_in K n es = seat_by (position (λ e. eq K (K.value e.0) (K.value n)) es) n es
