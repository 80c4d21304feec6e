-- What a slice of slots stands for: four lists, one for each part.
use Rattle.std.specs.Prelude.{◌≡◌, ℕ, ◌/◌, ◌%◌, ◌==◌, cond, Some, None, Option, List, [], ◌∷◌, map, ◌≢◌, slice_index, slice_index_or}
use Rattle.table.specs.declared.slot.Slot.{Slot}

abbrev pub pairs : {K V : Type 0} → List (Slot K V) → List (K × V)
pairs xs = map (λ s. (s.key, s.value)) xs

abbrev pub nexts : {K V : Type 0} → List (Slot K V) → List ℕ
nexts xs = map (λ s. s.next) xs

abbrev pub headed : {K V : Type 0} → List (Slot K V) → List (List ℕ)
headed xs = map (λ s. s.heads) xs

abbrev pub marked : {K V : Type 0} → List (Slot K V) → List (List ℕ)
marked xs = map (λ s. s.marks) xs

-- a slot that no table has used
abbrev pub fresh_slot : {K V : Type 0} → K → V → Slot K V
fresh_slot k v = record { key = k; value = v; heads = 0 ∷ 0 ∷ []; next = 0; marks = 0 ∷ 0 ∷ [] }

-- the link of a chain that ends: no place is as large
abbrev pub none : ℕ
none = 65535

-- the place that a link leads to
abbrev pub place_of : ℕ → Option ℕ
place_of link = cond (link == none) None (Some link)

-- what stands at a place of a list of numbers
abbrev pub at : List ℕ → ℕ → ℕ
at l i = slice_index l i

-- what bucket b has, where each slot has the numbers of two buckets
abbrev pub two : List (List ℕ) → ℕ → ℕ
two l b = at (slice_index_or l (b / 2) []) (b % 2)

-- only heads and links may differ
pub record SameEntries {K V : Type 0} (old new : List (Slot K V)) : Type 0 where
  pub marks : marked new ≡ marked old
  pub pair : pairs new ≡ pairs old

-- v becomes what bucket b has, and the other buckets keep what they have
pub record TwoSet (b v : ℕ) (l l' : List (List ℕ)) : Type 0 where
  pub here : two l' b ≡ v
  pub there : (c : ℕ) → (c ≢ b) → two l' c ≡ two l c
