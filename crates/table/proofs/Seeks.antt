-- A search for a key down the chain of its bucket.
use Rattle.std.proofs.Common.{◌≡◌, ℕ, ◌<◌, ◌≤◌, true, false, List, [], ◌∷◌, get_or, take, Some, None, Ok, Err, Option, ok_or, Ordering, sym, refl, ap, subst, ◌∙◌, inl, inr, arith}
use Rattle.std.proofs.lemmas.Bool.{cases_Bool, both_ways}
use Rattle.std.specs.Ordering.{is_eq}
use Rattle.keys.specs.Order.{Laws, alike}
use Rattle.keys.specs.Laws.{equal_from}
use Rattle.lists.specs.Latest.{latest}
use Rattle.table.specs.declared.slot.Slot.{Slot}
use Rattle.table.specs.Slots.{pairs, at, none}
use Rattle.table.specs.Index.{home, mark, tags, bit_of, capacity_of, bucket_of, Indexed}
use Rattle.table.proofs.Entries.{in_memory}
use Rattle.table.proofs.Slices.{tag_of_same as slice_tag, home_of_same as slice_home, unseen_past as slice_unseen}
use Rattle.table.specs.Content.{Content, content, Apart}
use Rattle.lists.specs.Positions.{position}
use Rattle.lists.proofs.Positions.{position_at, position_none, none_passes}
use Rattle.table.specs.declared.table.Vacancy.{Vacancy}
use Rattle.table.specs.Searches.{Absent, Present, Located, Unseen}
use Rattle.table.specs.Tables.{vacancy, found, sought}

-- what follows from the value of a key, where an entry has it
module _ {K V W : Type 0} (value : K → W) {hashed : K → ℕ} {xs : List (Slot K V)} {len : ℕ} (I : Indexed hashed xs len) (k : K) where
  -- such an entry has the key's mark
  pub tag_of_same : (m : ℕ) → ((j : K) → value j ≡ value k → mark (hashed j) ≡ m) → (i : ℕ) (d : K × V) → i < len
      → value (get_or (take len (pairs xs)) i d).0 ≡ value k → at (tags hashed (pairs xs)) i ≡ m
  tag_of_same m by_value i d lt e = slice_tag value hashed xs len m (in_memory I) k by_value i d lt e

  module _ (b : ℕ) (by_value : (j : K) → value j ≡ value k → home (capacity_of xs) (hashed j) ≡ b) where
    -- and is in the key's bucket
    pub home_of_same : (i : ℕ) (d : K × V) → i < len → value (get_or (take len (pairs xs)) i d).0 ≡ value k
        → bucket_of hashed xs i ≡ b
    home_of_same i d lt e = slice_home value hashed xs len (capacity_of xs) b (in_memory I) k by_value i d lt e

    -- from the place of the link on, the key was not seen but perhaps there
    pub unseen_past : (p link : ℕ) → p ≤ len → link ≡ latest none (bucket_of hashed xs) b p
        → Unseen value (take len (pairs xs)) k p → (i : ℕ) (d : K × V) → i < len
        → value (get_or (take len (pairs xs)) i d).0 ≡ value k → (link < p) × (i ≤ link)
    unseen_past p link pl el seen i d lt e = slice_unseen value hashed xs len (capacity_of xs) b (in_memory I) k by_value p link pl el seen i d lt e

-- equal by test is equal by value, and not by test is not
module _ {W : Type 0} (order : W → W → Ordering) (laws : Laws order) where
  pub alike_same : (a b : W) → alike order a b ≡ true → a ≡ b
  alike_same a b e = laws.equal_same a b (equal_from (order a b) e)

  pub same_alike : (a b : W) → a ≡ b → alike order a b ≡ true
  same_alike a b e = ap (alike order a) (sym e) ∙ ap is_eq (laws.same_equal a)

  pub not_alike : (a b : W) → (a ≡ b → ⊥) → alike order a b ≡ false
  not_alike a b ne = elim (cases_Bool (alike order a b)) [ inl t ↦ absurd (ne (alike_same a b t)) | inr f ↦ f ]

-- a mark that was not found, told of the place that would have it
pub unmarked : (f : ℕ → ℕ) (b b' t t' v : ℕ) → b ≡ b' → t ≡ t' → v ≡ f b' → bit_of v t' ≡ 0 → bit_of (f b) t ≡ 0
unmarked f b b' t t' v eb et ev e = rw (eb, et, sym ev) e

-- the answer of a search, by places, is the position of the first entry that has the key
module _ {K V W : Type 0} (order : W → W → Ordering) (laws : Laws order) (value : K → W) (es : List (K × V)) (k : K) where
  pub absent_position : Absent value es k → position (λ e. alike order (value e.0) (value k)) es ≡ None
  absent_position none_has =
      position_none (λ e. alike order (value e.0) (value k)) es
      (λ j d lt. not_alike order laws _ _ (none_has j d lt))

  pub present_position : Apart value es → (i : ℕ) → Present value es k i → position (λ e. alike order (value e.0) (value k)) es ≡ Some i
  present_position apart i P = at_first es apart P
    where
      at_first : (xs : List (K × V)) → Apart value xs → Present value xs k i → position (λ e. alike order (value e.0) (value k)) xs ≡ Some i
      at_first [] A Q = let no : ⊥ = omega (arith, Q.0) in absurd no
      at_first (x ∷ xs) A Q =
          position_at (λ e. alike order (value e.0) (value k)) (x ∷ xs) i x Q.0 (same_alike order laws _ _ (Q.1 x))
          (λ j lt. not_alike order laws _ _ (λ e. A j i x lt Q.0 (e ∙ sym (Q.1 x))))

-- the same of either answer, and the vacancy where there is none
pub located_sought : {K V W : Type 0} (order : W → W → Ordering) (laws : Laws order) (value : K → W) (hashed : K → ℕ) (room : ℕ) (es : List (K × V)) (k : K) (o : Option ℕ) (w : Vacancy)
    → Apart value es → Located value es k o → w ≡ vacancy room (hashed k) → ok_or o w ≡ sought order value hashed room es k
located_sought order laws value hashed room es k None w apart L e =
    ap Err e ∙ sym (ap (λ z. found z (vacancy room (hashed k))) (absent_position order laws value es k L))
located_sought order laws value hashed room es k (Some i) w apart L e =
    sym (ap (λ z. found z (vacancy room (hashed k))) (present_position order laws value es k apart i L))

found_none : (o : Option ℕ) (v w : Vacancy) → found o v ≡ Err w → (o ≡ None) × (v ≡ w)
found_none None v w e = (refl, cc)
found_none (Some i) v w e = let z : ◌≡◌ {A = ℕ} 0 1 = cc in let no : ⊥ = omega arith in absurd no

-- a search that was answered with a vacancy: no entry has the key, and the vacancy is its hash's
pub sought_vacant : {K V W : Type 0} (order : W → W → Ordering) (laws : Laws order) (value : K → W) (hashed : K → ℕ) (room : ℕ) (es : List (K × V)) (k : K) (w : Vacancy)
    → sought order value hashed room es k ≡ Err w → Absent value es k × (w ≡ vacancy room (hashed k))
sought_vacant order laws value hashed room es k w e =
    let f = found_none (position (λ x. alike order (value x.0) (value k)) es) (vacancy room (hashed k)) w e in (
      λ i d lt q.
          both_ways _ (none_passes (λ x. alike order (value x.0) (value k)) es f.0 i d lt) (same_alike order laws _ _ q),
      sym f.1,
    )

-- the same of the fields, where a clause sees their content
pub seen_vacant : {K V W : Type 0} (order : W → W → Ordering) (laws : Laws order) (value : K → W) (hashed : K → ℕ) (xs : List (Slot K V)) (len : ℕ)
    {C : Content K V} (k : K) (w : Vacancy) → content len xs ≡ C → sought order value hashed C.room C.entries k ≡ Err w
    → Absent value (take len (pairs xs)) k × (w ≡ vacancy (capacity_of xs) (hashed k))
seen_vacant order laws value hashed xs len k w seen e =
    sought_vacant order laws value hashed _ _ k w (subst (λ z. sought order value hashed z.room z.entries k ≡ Err w) (sym seen) e)

-- a search that was answered with a place
pub found_place : (o : Option ℕ) (w : Vacancy) (i : ℕ) → Ok i ≡ found o w → o ≡ Some i
found_place None w i e = let z : ◌≡◌ {A = ℕ} 0 1 = cc in let no : ⊥ = omega arith in absurd no
found_place (Some j) w i e = ap Some (cc)
