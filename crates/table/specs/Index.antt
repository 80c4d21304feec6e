-- The index of a table: each place hangs in the chain of its key's bucket.
use Rattle.std.specs.Prelude.{◌≡◌, ℕ, ◌*◌, ◌/◌, ◌%◌, ◌^◌, ◌<◌, ◌≤◌, min, cond, List, map, length, ◌==◌}
use Rattle.lists.specs.Chains.{Chains, ChainsBut}
use Rattle.table.specs.declared.slot.Slot.{Slot}
use Rattle.table.specs.Slots.{pairs, nexts, headed, marked, at, two, none}

-- how many entries a memory has room for
abbrev pub capacity_of : {A : Type 0} → List A → ℕ
capacity_of xs = min (length xs) 65535

-- the bucket of a hash, of two for each place: the second 32 bits choose it
abbrev pub home : ℕ → ℕ → ℕ
home capacity hash = hash / 2 ^ 32 % 2 ^ 32 * (2 * capacity) / 2 ^ 32

-- the mark of a hash: the number of one of eight bits
abbrev pub mark : ℕ → ℕ
mark hash = hash / 2 ^ 29 % 8

-- whether a bit is set in a bucket's marks
abbrev pub bit_of : ℕ → ℕ → ℕ
bit_of marks m = marks / 2 ^ m % 2

abbrev pub homes : {K V : Type 0} → (K → ℕ) → ℕ → List (K × V) → List ℕ
homes hashed capacity es = map (λ e. home capacity (hashed e.0)) es

abbrev pub tags : {K V : Type 0} → (K → ℕ) → List (K × V) → List ℕ
tags hashed es = map (λ e. mark (hashed e.0)) es

-- the bucket of the key at place i
abbrev pub bucket_of : {K V : Type 0} → (K → ℕ) → List (Slot K V) → ℕ → ℕ
bucket_of hashed xs i = at (homes hashed (capacity_of xs) (pairs xs)) i

-- b is a bucket, and the one of place i
pub record InBucket {K V : Type 0} (hashed : K → ℕ) (xs : List (Slot K V)) (i b : ℕ) : Type 0 where
  pub below : b < 2 * capacity_of xs
  pub home : bucket_of hashed xs i ≡ b

-- the buckets of places, but that place g is in none
abbrev pub off : ℕ → ℕ → (ℕ → ℕ) → ℕ → ℕ
off buckets g h i = cond (i == g) buckets (h i)

-- the first n places hang in their chains
abbrev pub Chained : {K V : Type 0} → (K → ℕ) → List (Slot K V) → ℕ → Type 0
Chained hashed xs n = Chains none (2 * capacity_of xs) n (bucket_of hashed xs) (two (headed xs)) (at (nexts xs))

-- all of them but g
abbrev pub ChainedOff : {K V : Type 0} → (K → ℕ) → List (Slot K V) → ℕ → ℕ → Type 0
ChainedOff hashed xs n g =
    Chains none (2 * capacity_of xs) n (off (2 * capacity_of xs) g (bucket_of hashed xs)) (two (headed xs)) (at (nexts xs))

-- all of them, with g or without it
abbrev pub ChainedBut : {K V : Type 0} → (K → ℕ) → List (Slot K V) → ℕ → ℕ → Type 0
ChainedBut hashed xs n g = ChainsBut none (2 * capacity_of xs) n g (bucket_of hashed xs) (two (headed xs)) (at (nexts xs))

-- what the holder p of bucket b has: the head where p is n, else the link of p
abbrev pub held : ℕ → (ℕ → ℕ) → (ℕ → ℕ) → ℕ → ℕ → ℕ
held n first next b p = cond (p == n) (first b) (next p)

-- each of the first n places has its mark set at its bucket
abbrev pub Marked : {K V : Type 0} → (K → ℕ) → List (Slot K V) → ℕ → Type 0
Marked hashed xs n =
    (i : ℕ) → i < n → bit_of (two (marked xs) (bucket_of hashed xs i)) (at (tags hashed (pairs xs)) i) ≡ 1

-- what is true of a table's slots: its entries fit, and each hangs in its chain and has its mark
pub record Indexed {K V : Type 0} (hashed : K → ℕ) (xs : List (Slot K V)) (n : ℕ) : Type 0 where
  pub fits : n ≤ capacity_of xs
  pub chained : Chained hashed xs n
  pub marks : Marked hashed xs n

-- every bucket is empty
abbrev pub Emptied : {K V : Type 0} → List (Slot K V) → Type 0
Emptied xs = (b : ℕ) → b < 2 * capacity_of xs → two (headed xs) b ≡ none
