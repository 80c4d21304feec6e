-- Rows of doubly linked cells. The links and the keys are lists beside the memory, so that no cell need be named as
-- a default.
use Rattle.std.specs.Prelude.{◌≡◌, ℕ, zero, suc, ◌<◌, cond, List, [], ◌∷◌, map, length, ◌==◌, ◌≢◌, slice_index, slice_index_or}
use Rattle.rows.specs.declared.cells.Cell.{Cell}
use Rattle.rows.specs.declared.cells.RowHead.{RowHead}
use Rattle.rows.specs.Rings.{none, Ring, Apart}

-- the row of no cells
abbrev pub bare : RowHead
bare = record { first = none; last = none; len = 0 }

-- n numbers from f on, each by N from the one before
abbrev pub walk : (ℕ → ℕ) → ℕ → ℕ → List ℕ
walk N f zero = []
walk N f (suc n) = f ∷ walk N (N f) n

module _ {K : Type 0} where
  -- a cell that no row has
  abbrev pub loose : K → Cell K
  loose k = record { key = k; prev = none; next = none }

  abbrev pub nexts : List (Cell K) → List ℕ
  nexts mem = map (λ c. c.next) mem

  abbrev pub prevs : List (Cell K) → List ℕ
  prevs mem = map (λ c. c.prev) mem

  abbrev pub cell_keys : List (Cell K) → List K
  cell_keys mem = map (λ c. c.key) mem

  -- what comes after x, where the head stands for the cell none: after it comes the first
  abbrev pub next_of : List (Cell K) → RowHead → ℕ → ℕ
  next_of mem h x = cond (x == none) h.first (slice_index (nexts mem) x)

  -- what comes before x: before the cell none comes the last
  abbrev pub prev_of : List (Cell K) → RowHead → ℕ → ℕ
  prev_of mem h x = cond (x == none) h.last (slice_index (prevs mem) x)

  -- the cells of a row, from its first by the links onward
  abbrev pub listed : List (Cell K) → RowHead → List ℕ
  listed mem h = walk (λ x. slice_index (nexts mem) x) h.first h.len

  -- the row h has the cells xs, in this order
  pub record Row (mem : List (Cell K)) (h : RowHead) (xs : List ℕ) : Type 0 where
    pub long : h.len ≡ length xs
    pub ring : Ring (next_of mem h) (prev_of mem h) (length mem) xs

  -- the links of the row h fit one another in both directions
  abbrev pub Linked : List (Cell K) → RowHead → Type 0
  Linked mem h = Row mem h (listed mem h)

  -- cells that are none of xs are as they were, and so is every key
  pub record Kept (mem mem' : List (Cell K)) (xs : List ℕ) : Type 0 where
    pub others : (x : ℕ) (d : Cell K) → x < length mem → Apart x xs → slice_index_or mem' x d ≡ slice_index_or mem x d
    pub keys : cell_keys mem' ≡ cell_keys mem

  -- b now comes after a, and nothing else has changed
  pub record Joined (mem : List (Cell K)) (h : RowHead) (mem' : List (Cell K)) (h' : RowHead) (a b : ℕ) : Type 0 where
    pub onward : next_of mem' h' a ≡ b
    pub back : prev_of mem' h' b ≡ a
    pub nexts : (x : ℕ) → (x ≢ a) → next_of mem' h' x ≡ next_of mem h x
    pub prevs : (x : ℕ) → (x ≢ b) → prev_of mem' h' x ≡ prev_of mem h x
    pub others : (x : ℕ) (d : Cell K) → (x ≢ a) → (x ≢ b) → slice_index_or mem' x d ≡ slice_index_or mem x d
    pub keys : cell_keys mem' ≡ cell_keys mem
    pub len : h'.len ≡ h.len
