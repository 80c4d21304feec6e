-- A write to a holder, and what it leaves of the chains.
use Rattle.std.proofs.Common.{◌≡◌, ℕ, ◌*◌, ◌/◌, ◌<◌, ◌≤◌, min, eqb, List, [], ◌∷◌, length, get_or, set, sym, refl, ap, ◌∙◌, inl, inr, arith}
use Rattle.std.proofs.lemmas.List.{length-map, length-set}
use Rattle.lists.specs.Chains.{Above, Put, Chains}
use Rattle.table.specs.declared.slot.Slot.{Slot}
use Rattle.table.specs.Slots.{pairs, at, two, none, TwoSet}
use Rattle.std.proofs.lemmas.Bool.{cases_eq, cond-true, cond-false, eq-eqb, ne_eqb}
use Rattle.lists.specs.Latest.{latest}
use Rattle.table.specs.Index.{homes, bit_of, off, held, capacity_of, bucket_of, InBucket}
use Rattle.table.proofs.Capacity.{bucket_slot}
use Rattle.table.proofs.Lists.{at_set, at_other, at_same}

pub two_same : (l l' : List (List ℕ)) → l' ≡ l → (b : ℕ) → two l' b ≡ two l b
two_same l l' e b = ap (λ z. two z b) e

pub put_head : (n b p v : ℕ) (fs fs' : List (List ℕ)) (ns ns' : List ℕ) → p ≡ n → TwoSet b v fs fs' → ns' ≡ ns
    → Put n b p v (two fs) (at ns) (two fs') (at ns')
put_head n b p v fs fs' ns ns' pn S en = record {
  head = λ _. S.here;
  link = λ q. let no : ⊥ = omega arith in absurd no;
  heads = λ c ne. S.there c (ne pn);
  links = λ i _. at_same ns ns' en i;
}

pub put_link : (n b p v : ℕ) (fs fs' : List (List ℕ)) (ns ns' : List ℕ) → p < n → p < length ns → fs' ≡ fs → ns' ≡ set ns p v
    → Put n b p v (two fs) (at ns) (two fs') (at ns')
put_link n b p v fs fs' ns ns' pn lt ef en = record {
  head = λ q. let no : ⊥ = omega arith in absurd no;
  link = λ _. at_set ns ns' p v en lt;
  heads = λ c _. two_same fs fs' ef c;
  links = λ i ne. at_other ns ns' p v en i ne;
}

pub same_capacity : {A B : Type 0} (xs : List A) (ys : List B) → length ys ≡ length xs → capacity_of ys ≡ capacity_of xs
same_capacity xs ys e = ap (λ n. min n 65535) e

-- a memory with the same entries has as many slots
pub as_long : {K V : Type 0} (xs ys : List (Slot K V)) → pairs ys ≡ pairs xs → length ys ≡ length xs
as_long xs ys e = sym (length-map ys _) ∙ (ap length e ∙ length-map xs _)

-- also where an entry is written
pub as_long_set : {K V : Type 0} (xs ys : List (Slot K V)) (i : ℕ) (e : K × V) → pairs ys ≡ set (pairs xs) i e → length ys ≡ length xs
as_long_set xs ys i e is = sym (length-map ys _) ∙ (ap length is ∙ (length-set (pairs xs) i e ∙ length-map xs _))

-- or where one is copied from place l
pub as_long_copied : {K V : Type 0} (xs ys : List (Slot K V)) (i l : ℕ) → l < length xs
    → ((d : K × V) → pairs ys ≡ set (pairs xs) i (get_or (pairs xs) l d)) → length ys ≡ length xs
as_long_copied [] ys i l lt is = omega arith
as_long_copied (x ∷ xs) ys i l lt is = as_long_set (x ∷ xs) ys i _ (is (x.key, x.value))

-- and as much room
pub same_room : {K V : Type 0} (xs ys : List (Slot K V)) → pairs ys ≡ pairs xs → capacity_of ys ≡ capacity_of xs
same_room xs ys e = same_capacity xs ys (as_long xs ys e)

-- the slot of a bucket is there after an entry is written
pub slot_kept : {K V : Type 0} (xs ys : List (Slot K V)) (i : ℕ) (e : K × V) (b : ℕ) → pairs ys ≡ set (pairs xs) i e
    → b < 2 * capacity_of xs → b / 2 < length ys
slot_kept xs ys i e b is lt = omega (arith, bucket_slot xs b lt, as_long_set xs ys i e is)

pub off_here : (buckets g : ℕ) (h : ℕ → ℕ) → off buckets g h g ≡ buckets
off_here buckets g h = cond-true (eqb g g) _ _ (eq-eqb g g refl)

pub off_other : (buckets g : ℕ) (h : ℕ → ℕ) (i : ℕ) → (i ≡ g → ⊥) → off buckets g h i ≡ h i
off_other buckets g h i ne = cond-false (eqb i g) _ _ (ne_eqb i g ne)

-- the same chains of a memory with the same entries and as much room
module _ {K V : Type 0} (hashed : K → ℕ) (cap cap' n : ℕ) (es es' : List (K × V)) (f x : ℕ → ℕ) (ec : cap' ≡ cap) (ee : es' ≡ es) where
  pub settled : Chains none (2 * cap) n (at (homes hashed cap es)) f x → Chains none (2 * cap') n (at (homes hashed cap' es')) f x
  settled L = rw (ec, ee) L

  pub settled_off : (g : ℕ) → Chains none (2 * cap) n (off (2 * cap) g (at (homes hashed cap es))) f x
      → Chains none (2 * cap') n (off (2 * cap') g (at (homes hashed cap' es'))) f x
  settled_off g L = rw (ec, ee) L

-- what a holder has is the latest place below it
pub held_latest : (buckets n b p : ℕ) (h f x : ℕ → ℕ) → Chains none buckets n h f x → b < buckets → p ≤ n → (p < n → h p ≡ b)
    → held n f x b p ≡ latest none h b p
held_latest buckets n b p h f x L bl pn here =
    elim (cases_eq p n) [
      | inl e ↦ cond-true (eqb p n) _ _ (eq-eqb p n e) ∙ (L.heads b bl ∙ ap (latest none h b) (sym e))
      | inr ne ↦
          let e : h p ≡ b = here (omega arith) in
          cond-false (eqb p n) _ _ (ne_eqb p n ne) ∙ (L.links p (omega arith) (omega arith) ∙ ap (λ z. latest none h z p) e)
    ]

-- the holder does not depend on the bucket of g itself
pub above_off : (buckets n b g p : ℕ) (h : ℕ → ℕ) → Above n h b g p → Above n (off buckets g h) b g p
above_off buckets n b g p h A = record {
  past = A.past;
  within = A.within;
  here = λ lt. off_other buckets g h p (omega (arith, A.past)) ∙ A.here lt;
  between = λ i lo hi e. A.between i lo hi (sym (off_other buckets g h i (omega arith)) ∙ e);
}

-- the same write, from heads that are equal as lists
pub put_after : (n b p v : ℕ) (fs fs₀ : List (List ℕ)) (x f' x' : ℕ → ℕ) → fs₀ ≡ fs → Put n b p v (two fs₀) x f' x' → Put n b p v (two fs) x f' x'
put_after n b p v fs fs₀ x f' x' e P = rw (sym e) P

-- the same entries hang in the same buckets
pub same_bucket : {K V : Type 0} (hashed : K → ℕ) (xs ys : List (Slot K V)) → pairs ys ≡ pairs xs → (i : ℕ)
    → bucket_of hashed ys i ≡ bucket_of hashed xs i
same_bucket hashed xs ys e i =
    ap (λ z. at (homes hashed z (pairs ys)) i) (same_room xs ys e) ∙ ap (λ z. at (homes hashed (capacity_of xs) z) i) e

pub still_in_bucket : {K V : Type 0} (hashed : K → ℕ) (xs ys : List (Slot K V)) (i b : ℕ) → pairs ys ≡ pairs xs
    → InBucket hashed xs i b → InBucket hashed ys i b
still_in_bucket hashed xs ys i b e B = record {
  below = omega (arith, B.below, same_room xs ys e);
  home = same_bucket hashed xs ys e i ∙ B.home;
}

-- the same chains, from links that are equal as lists
pub relinked : (buckets n : ℕ) (h f : ℕ → ℕ) (ns ns' : List ℕ) → ns' ≡ ns → Chains none buckets n h f (at ns) → Chains none buckets n h f (at ns')
relinked buckets n h f ns ns' e L = rw e L

-- and from heads that are
pub reheaded : (buckets n : ℕ) (h x : ℕ → ℕ) (fs fs' : List (List ℕ)) → fs' ≡ fs → Chains none buckets n h (two fs) x → Chains none buckets n h (two fs') x
reheaded buckets n h x fs fs' e L = rw e L

-- the same chains and the same marks, from parts that are equal as lists
pub rechained : (cap cap' n : ℕ) (hs hs' : List ℕ) (fs fs' : List (List ℕ)) (ns ns' : List ℕ) → cap' ≡ cap → hs' ≡ hs → fs' ≡ fs → ns' ≡ ns
    → Chains none (2 * cap) n (at hs) (two fs) (at ns) → Chains none (2 * cap') n (at hs') (two fs') (at ns')
rechained cap cap' n hs hs' fs fs' ns ns' ec eh ef en L = rw (ec, eh, ef, en) L

pub remarked : (n : ℕ) (hs hs' ts ts' : List ℕ) (ms ms' : List (List ℕ)) → hs' ≡ hs → ts' ≡ ts → ms' ≡ ms
    → ((i : ℕ) → i < n → bit_of (two ms (at hs i)) (at ts i) ≡ 1) → (i : ℕ) → i < n → bit_of (two ms' (at hs' i)) (at ts' i) ≡ 1
remarked n hs hs' ts ts' ms ms' eh et em M i lt = rw (eh, et, em) (M i lt)
