-- Rings through a list of numbers, said gap by gap, over two functions: N x comes after x, P x before it.
use Rattle.std.specs.Prelude.{◌≡◌, ℕ, ◌<◌, ◌≤◌, List, ◌∷◌, length, slice_index_or}

-- the number of no cell: in a ring it stands between the last and the first
abbrev pub none : ℕ
none = 4294967295

-- the k-th of a list, none past its end
abbrev pub nth : List ℕ → ℕ → ℕ
nth xs k = slice_index_or xs k none

-- the one before the k-th, none at the start
abbrev pub before : List ℕ → ℕ → ℕ
before xs k = slice_index_or (none ∷ xs) k none

-- the two sides of the k-th gap point at each other
pub record Gap (N P : ℕ → ℕ) (xs : List ℕ) (k : ℕ) : Type 0 where
  pub onward : N (before xs k) ≡ nth xs k
  pub back : P (nth xs k) ≡ before xs k

-- a ring through none and xs, all below n
pub record Ring (N P : ℕ → ℕ) (n : ℕ) (xs : List ℕ) : Type 0 where
  pub within : (k : ℕ) → k < length xs → nth xs k < n
  pub gaps : (k : ℕ) → k ≤ length xs → Gap N P xs k

-- c is none of xs
abbrev pub Apart : ℕ → List ℕ → Type 0
Apart c xs = (k : ℕ) → k < length xs → nth xs k ≡ c → ⊥

-- c is one of xs
abbrev pub Holds : ℕ → List ℕ → Type 0
Holds c xs = (k : ℕ) × (k < length xs) × (nth xs k ≡ c)
