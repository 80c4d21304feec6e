-- The entries of a slice of slots, of which no more is known than that so many are within it.
use Rattle.std.proofs.Common.{◌≡◌, ℕ, ◌<◌, ◌≤◌, List, map, length, get_or, take, sym, ap, ◌∙◌, inl, inr, arith}
use Rattle.std.proofs.lemmas.List.{length-take-le, length-map, get_or-take, get_or-map}
use Rattle.std.proofs.lemmas.Bool.{cases_lt}
use Rattle.lists.specs.Latest.{latest}
use Rattle.lists.proofs.Latest.{latest_covers}
use Rattle.table.specs.declared.slot.Slot.{Slot}
use Rattle.table.specs.Slots.{pairs, at, none}
use Rattle.table.specs.Index.{home, homes, mark, tags}
use Rattle.table.specs.Searches.{Unseen}

module _ {K V : Type 0} (xs : List (Slot K V)) (len : ℕ) (fits : len ≤ length xs) where
  pub length_entries : length (take len (pairs xs)) ≡ len
  length_entries = length-take-le len (pairs xs) (simp length-map fits)

  pub entry_at : (i : ℕ) (d : K × V) → i < len → get_or (take len (pairs xs)) i d ≡ get_or (pairs xs) i d
  entry_at i d lt = get_or-take len (pairs xs) i d lt

-- the key at a place is the slot's
pub key_of_slot : {K V : Type 0} (xs : List (Slot K V)) (len : ℕ) → len ≤ length xs → (i : ℕ) (s : Slot K V) (d : K × V) → i < len
    → (get_or (take len (pairs xs)) i d).0 ≡ (get_or xs i s).key
key_of_slot {K} {V} xs len fits i s d lt =
    ap (λ (z : K × V). z.0) (entry_at xs len fits i d lt ∙ get_or-map (λ (z : Slot K V). (z.key, z.value)) xs i s d (omega arith))

-- what follows from the value of a key, where an entry has it
part_of_same : {K V W : Type 0} (value : K → W) (part : K → ℕ) (xs : List (Slot K V)) (len p : ℕ) → len ≤ length xs → (k : K)
    → ((j : K) → value j ≡ value k → part j ≡ p) → (i : ℕ) (d : K × V) → i < len
    → value (get_or (take len (pairs xs)) i d).0 ≡ value k → at (map (λ e. part e.0) (pairs xs)) i ≡ p
part_of_same {K} {V} value part xs len p fits k by_value i d lt e =
    get_or-map (λ (z : K × V). part z.0) (pairs xs) i d 0 (simp length-map (omega arith))
    ∙ by_value _ (sym (ap (λ (z : K × V). value z.0) (entry_at xs len fits i d lt)) ∙ e)

-- such an entry has the key's mark
pub tag_of_same : {K V W : Type 0} (value : K → W) (hashed : K → ℕ) (xs : List (Slot K V)) (len m : ℕ) → len ≤ length xs → (k : K)
    → ((j : K) → value j ≡ value k → mark (hashed j) ≡ m) → (i : ℕ) (d : K × V) → i < len
    → value (get_or (take len (pairs xs)) i d).0 ≡ value k → at (tags hashed (pairs xs)) i ≡ m
tag_of_same value hashed xs len m fits k by_value i d lt e = part_of_same value (λ j. mark (hashed j)) xs len m fits k by_value i d lt e

module _ {K V W : Type 0} (value : K → W) (hashed : K → ℕ) (xs : List (Slot K V)) (len cap b : ℕ) (fits : len ≤ length xs) (k : K)
    (by_value : (j : K) → value j ≡ value k → home cap (hashed j) ≡ b) where
  -- and is in the key's bucket
  pub home_of_same : (i : ℕ) (d : K × V) → i < len → value (get_or (take len (pairs xs)) i d).0 ≡ value k
      → at (homes hashed cap (pairs xs)) i ≡ b
  home_of_same i d lt e =
      part_of_same value (λ j. home cap (hashed j)) xs len b fits k by_value i d lt e

  -- from the place of the link on, the key was not seen but perhaps there
  pub unseen_past : (p link : ℕ) → p ≤ len → link ≡ latest none (at (homes hashed cap (pairs xs))) b p
      → Unseen value (take len (pairs xs)) k p → (i : ℕ) (d : K × V) → i < len
      → value (get_or (take len (pairs xs)) i d).0 ≡ value k → (link < p) × (i ≤ link)
  unseen_past p link pl el seen i d lt e =
      elim (cases_lt i p) [
        | inl ip ↦
            let r = latest_covers none (at (homes hashed cap (pairs xs))) b p i ip (home_of_same i d lt e) in
            (omega (arith, r.0), omega (arith, r.1))
        | inr ge ↦ absurd (seen i d ge (omega (arith, length_entries xs len fits)) e)
      ]
