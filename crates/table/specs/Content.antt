-- What a table stands for, and what is true of its fields.
use Rattle.std.specs.Prelude.{ℕ, ◌<◌, List, length, take, ◌≢◌, slice_index_or}
use Rattle.table.specs.declared.slot.Slot.{Slot}
use Rattle.table.specs.Slots.{pairs}
use Rattle.table.specs.Index.{capacity_of, Indexed}

-- the entries in the order of their places, and how many there is room for
pub record Content (K V : Type 0) : Type 0 where
  pub entries : List (K × V)
  pub room : ℕ

-- what the first len slots hold
abbrev pub content : {K V : Type 0} → ℕ → List (Slot K V) → Content K V
content len slots = record { entries = take len (pairs slots); room = capacity_of slots }

-- the key at each place has a value of its own
abbrev pub Apart : {K V W : Type 0} → (K → W) → List (K × V) → Type 0
Apart {K} {V} value es =
    (i j : ℕ) (d : K × V) → i < j → j < length es → value (slice_index_or es i d).0 ≢ value (slice_index_or es j d).0

-- the entries fit, the index is theirs, and their keys are apart
pub record Sound {K V W : Type 0} (value : K → W) (hashed : K → ℕ) (len : ℕ) (slots : List (Slot K V)) : Type 0 where
  pub index : Indexed hashed slots len
  pub apart : Apart value (take len (pairs slots))
