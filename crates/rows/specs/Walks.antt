-- Walks along the links of any memory, whatever the links are: a walk ends where a cell lies past the memory.
use Rattle.std.specs.Prelude.{◌≡◌, ℕ, zero, suc, Bool, cond, List, [], ◌∷◌, length, Some, None, Option, nat_lt, slice_index, slice_index_or}
use Rattle.std.specs.List.{slice_get}
use Rattle.std.specs.Iterator.{YieldsFirstBy}
use denote.Ref.{Bor}
use Rattle.keys.specs.declared.kinds.Direction.{Direction}
use Rattle.keys.specs.declared.kinds.Kind.{Kind}
use Rattle.model.specs.Keys.{Keys}
use Rattle.model.specs.Lists.{kept}
use Rattle.model.specs.Questions.{shown}
use Rattle.rows.specs.declared.cells.Cell.{Cell}
use Rattle.rows.specs.declared.cells.RowHead.{RowHead}
use Rattle.rows.specs.declared.walk.Walk.{Walk}
use Rattle.rows.specs.declared.walk.Steps.{Steps}
use Rattle.rows.specs.Links.{nexts, cell_keys}
use Rattle.rows.specs.HalfEdges.{side}

-- the walk from the start of a row
abbrev pub walk_of : RowHead → Walk
walk_of h = record { at = h.first; left = h.len }

-- n cells from x on, as far as they are in the memory
abbrev pub walked : {K : Type 0} → List (Cell K) → ℕ → ℕ → List ℕ
walked mem x zero = []
walked mem x (suc n) = cond (nat_lt x (length mem)) (x ∷ walked mem (slice_index (nexts mem) x) n) []

-- the cell x, where it is in the memory, and the rest after it
abbrev pub met_at : {K : Type 0} → ℕ → Option (Cell K) → (Cell K → List (ℕ × Cell K)) → List (ℕ × Cell K)
met_at x None rest = []
met_at x (Some c) rest = (x, c) ∷ rest c

-- the cells of a walk, each with what it holds
abbrev pub met : {K : Type 0} → List (Cell K) → ℕ → ℕ → List (ℕ × Cell K)
met mem x zero = []
met mem x (suc n) = met_at x (slice_get mem x) (λ c. met mem c.next n)

-- the cells that the steps of a walk have still to meet, and what one step does
abbrev pub still_met : {K : Type 0} → Steps K → List (ℕ × Cell K)
still_met s = met s.cells.now s.walk.at s.walk.left

abbrev pub StepsOn : {K : Type 0} → Steps K → Option (ℕ × Bor (Cell K)) → Steps K → Type 0
StepsOn s r t = (t.cells ≡ s.cells) × YieldsFirstBy (λ p. (p.0, p.1.now)) still_met s r t

-- whether the direction d shows the cell x, where v is the value of the node whose row it is
abbrev pub showing : {N V : Type 0} → Keys N V → N → List (Cell N) → Kind → Direction → V → ℕ → Bool
showing K e mem kind d v x = shown K kind d v (slice_index_or (cell_keys mem) x e, side x)

-- the cells to come that are shown
abbrev pub upcoming : {N V : Type 0} → Keys N V → N → List (Cell N) → Kind → Direction → V → Walk → List ℕ
upcoming K e mem kind d v w = kept (showing K e mem kind d v) (walked mem w.at w.left)

-- the first of a list, and the rest
abbrev pub first_of : {X : Type 0} → List X → Option X × List X
first_of [] = (None, [])
first_of (x ∷ xs) = (Some x, xs)
