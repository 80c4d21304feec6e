-- What a search for a key finds, by places.
use Rattle.std.specs.Prelude.{◌≡◌, ℕ, ◌<◌, ◌≤◌, List, length, Option, MatchOption, ◌≢◌, slice_index_or}

-- no key of es has the value of k
abbrev pub Absent : {K V W : Type 0} → (K → W) → List (K × V) → K → Type 0
Absent {K} {V} value es k = (i : ℕ) (d : K × V) → i < length es → value (slice_index_or es i d).0 ≢ value k

-- the key at i has the value of k
abbrev pub Present : {K V W : Type 0} → (K → W) → List (K × V) → K → ℕ → Type 0
Present {K} {V} value es k i = (i < length es) × ((d : K × V) → value (slice_index_or es i d).0 ≡ value k)

-- o is the place of the key that has the value of k, or no key has it
abbrev pub Located : {K V W : Type 0} → (K → W) → List (K × V) → K → Option ℕ → Type 0
Located value es k o = MatchOption o (Absent value es k) (Present value es k)

-- no key from place `low` on has the value of k
abbrev pub Unseen : {K V W : Type 0} → (K → W) → List (K × V) → K → ℕ → Type 0
Unseen {K} {V} value es k low =
    (i : ℕ) (d : K × V) → low ≤ i → i < length es → value (slice_index_or es i d).0 ≢ value k
