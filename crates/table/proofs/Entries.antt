-- The entries of a table, in the slots that hold them.
use Rattle.std.proofs.Common.{◌≡◌, ℕ, ◌+◌, ◌<◌, ◌≤◌, List, [], ◌∷◌, ◌++◌, length, get_or, take, set, Some, option_map, sym, refl, ap, ◌∙◌, arith}
use Rattle.std.proofs.lemmas.List.{length-map, take_more_set}
use Rattle.std.proofs.lemmas.Option.{slice_get-map, slice_get_read, slice_get_within}
use Rattle.std.specs.List.{slice_get}
use Rattle.lists.proofs.Chains.{emptied}
use Rattle.table.specs.declared.slot.Slot.{Slot}
use Rattle.table.specs.Slots.{pairs, none}
use Rattle.table.specs.Index.{capacity_of, Indexed, Emptied}
use Rattle.table.specs.Content.{Content, content, Sound}
use Rattle.table.proofs.Capacity.{within_memory, within_links}
use Rattle.table.proofs.Slices.{length_entries as length_of_entries, entry_at as entry_of_slice}

module _ {K V : Type 0} {hashed : K → ℕ} {xs : List (Slot K V)} {len : ℕ} (I : Indexed hashed xs len) where
  pub in_memory : len ≤ length xs
  in_memory = omega (arith, I.fits, within_memory xs)

  pub below_none : len ≤ none
  below_none = omega (arith, I.fits, within_links xs)

  pub length_entries : length (take len (pairs xs)) ≡ len
  length_entries = length_of_entries xs len in_memory

  -- the entries that a clause sees
  pub length_seen : {C : Content K V} → content len xs ≡ C → length C.entries ≡ len
  length_seen seen = sym (ap (λ z. length z.entries) seen) ∙ length_entries

  -- a place of those entries
  pub seen_place : {C : Content K V} → content len xs ≡ C → (i : ℕ) → i < length C.entries → (i < len) × (i < length xs)
  seen_place seen i lt = (omega (arith, length_seen seen), omega (arith, length_seen seen, in_memory))

  pub entry_at : (i : ℕ) (d : K × V) → i < len → get_or (take len (pairs xs)) i d ≡ get_or (pairs xs) i d
  entry_at i d lt = entry_of_slice xs len in_memory i d lt

  -- the key at a place, among the entries
  pub key_of_entry : (i : ℕ) (k : K) (d : K × V) → i < len → ((e : K × V) → k ≡ (get_or (pairs xs) i e).0)
      → (get_or (take len (pairs xs)) i d).0 ≡ k
  key_of_entry i k d lt is = ap (λ (z : K × V). z.0) (entry_at i d lt) ∙ sym (is d)

  -- the entry of the slot at a place, where ys are the slots of the entries
  pub seen_slot : {C : Content K V} → content len xs ≡ C → (ys : List (Slot K V)) → pairs ys ≡ C.entries → (i : ℕ) (s : Slot K V)
      → i < length ys → s ≡ get_or ys i s → (slice_get (take len (pairs xs)) i ≡ Some (s.key, s.value)) × (i < len)
  seen_slot seen ys e i s lt is =
      let there : slice_get (take len (pairs xs)) i ≡ Some (s.key, s.value) =
      ap (λ z. slice_get z i) (ap (λ z. z.entries) seen ∙ sym e)
      ∙ (slice_get-map (λ (z : Slot K V). (z.key, z.value)) ys i
      ∙ ap (option_map (λ (z : Slot K V). (z.key, z.value))) (slice_get_read ys (length ys) i s refl lt is)) in
      (there, omega (arith, slice_get_within (take len (pairs xs)) i _ there, length_entries))

-- a table with no entries, over slots whose buckets are empty
pub sound_empty : {K V W : Type 0} {value : K → W} {hashed : K → ℕ} {xs : List (Slot K V)}
    → Emptied xs → Sound value hashed 0 xs
sound_empty empty = record {
  index = record {
    fits = omega arith;
    chained = emptied _ _ _ _ _ empty;
    marks = λ i lt. let no : ⊥ = omega arith in absurd no;
  };
  apart = λ i j d ij jl e. omega arith;
}

-- an entry that is written past the first len
pub take_set_end : {K V : Type 0} (xs ys : List (Slot K V)) (len : ℕ) (e : K × V) → pairs ys ≡ set (pairs xs) len e → len < capacity_of xs
    → take (len + 1) (pairs ys) ≡ take len (pairs xs) ++ e ∷ []
take_set_end xs ys len e is room =
    ap (take (len + 1)) is ∙ take_more_set (pairs xs) len e (simp length-map (omega (arith, within_memory xs)))
