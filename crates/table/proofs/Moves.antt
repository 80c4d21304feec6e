-- An entry that is written at a place, and the buckets then.
use Rattle.std.proofs.Common.{◌≡◌, ℕ, ◌+◌, ◌*◌, ◌<◌, ◌≤◌, List, [], ◌∷◌, map, length, get_or, set, sym, refl, ap, ◌∙◌, inl, inr, arith}
use Rattle.std.proofs.lemmas.List.{map-set, length-map, get_or-map, get_or-set_same, get_or-set_other}
use Rattle.std.proofs.lemmas.Bool.{cases_eq}
use Rattle.lists.specs.Chains.{Chains}
use Rattle.lists.proofs.Chains.{agreeing}
use Rattle.table.specs.declared.slot.Slot.{Slot}
use Rattle.table.specs.Slots.{pairs, headed, nexts, marked, at, two, none}
use Rattle.table.specs.Index.{home, homes, mark, tags, bit_of, off, capacity_of, bucket_of, Marked, Indexed}
use Rattle.table.proofs.Lists.{kept}
use Rattle.table.proofs.Writes.{rechained, remarked, off_here, off_other, same_capacity, same_bucket, as_long_set, as_long_copied}

-- the entry e is written at place g
module _ {K V : Type 0} (g : ℕ) (es es' : List (K × V)) (e : K × V) (is : es' ≡ set es g e) where
  pub written_part : (part : K → ℕ) → g < length es → at (map (λ z. part z.0) es') g ≡ part e.0
  written_part part lt =
      ap (λ z. at (map (λ (x : K × V). part x.0) z) g) is
      ∙ (ap (λ z. at z g) (map-set (λ (z : K × V). part z.0) es g e)
      ∙ get_or-set_same (map (λ (z : K × V). part z.0) es) g (part e.0) 0 (simp length-map lt))

  pub other_part : (part : K → ℕ) (i : ℕ) → (i ≡ g → ⊥) → at (map (λ z. part z.0) es') i ≡ at (map (λ z. part z.0) es) i
  other_part part i ne =
      ap (λ z. at (map (λ (x : K × V). part x.0) z) i) is
      ∙ (ap (λ z. at z i) (map-set (λ (z : K × V). part z.0) es g e)
      ∙ get_or-set_other (map (λ (z : K × V). part z.0) es) g i (part e.0) 0 ne)

  pub written_home : (hashed : K → ℕ) (cap : ℕ) → g < length es → at (homes hashed cap es') g ≡ home cap (hashed e.0)
  written_home hashed cap lt = written_part (λ k. home cap (hashed k)) lt

  pub other_home : (hashed : K → ℕ) (cap i : ℕ) → (i ≡ g → ⊥) → at (homes hashed cap es') i ≡ at (homes hashed cap es) i
  other_home hashed cap i ne = other_part (λ k. home cap (hashed k)) i ne

  pub written_tag : (hashed : K → ℕ) → g < length es → at (tags hashed es') g ≡ mark (hashed e.0)
  written_tag hashed lt = written_part (λ k. mark (hashed k)) lt

  pub other_tag : (hashed : K → ℕ) (i : ℕ) → (i ≡ g → ⊥) → at (tags hashed es') i ≡ at (tags hashed es) i
  other_tag hashed i ne = other_part (λ k. mark (hashed k)) i ne

  -- the chains without g do not change
  pub moved_off : (hashed : K → ℕ) (cap cap' n : ℕ) (fs fs' : List (List ℕ)) (ns ns' : List ℕ) → cap' ≡ cap → fs' ≡ fs → ns' ≡ ns
      → Chains none (2 * cap) n (off (2 * cap) g (at (homes hashed cap es))) (two fs) (at ns)
      → Chains none (2 * cap') n (off (2 * cap') g (at (homes hashed cap' es'))) (two fs') (at ns')
  moved_off hashed cap cap' n fs fs' ns ns' ec ef en L =
      rw (ec, ef, en)
      (agreeing none (2 * cap) n (off (2 * cap) g (at (homes hashed cap es))) (two fs) (at ns) (off (2 * cap) g (at (homes hashed cap es'))) (two fs) (at ns)
      (λ i lt.
      elim (cases_eq i g) [
        | inl q ↦
            ap (off (2 * cap) g (at (homes hashed cap es'))) q
            ∙ (off_here (2 * cap) g (at (homes hashed cap es'))
            ∙ (sym (off_here (2 * cap) g (at (homes hashed cap es))) ∙ ap (off (2 * cap) g (at (homes hashed cap es))) (sym q)))
        | inr ne ↦
            off_other (2 * cap) g (at (homes hashed cap es')) i ne
            ∙ (other_home hashed cap i ne ∙ sym (off_other (2 * cap) g (at (homes hashed cap es)) i ne))
      ])
      (λ b lt. refl) (λ i lt. refl) L)

-- the marks of the same entries
pub marked_same : {K V : Type 0} (hashed : K → ℕ) (xs ys : List (Slot K V)) (n m : ℕ) → Marked hashed xs n → m ≤ n
    → pairs ys ≡ pairs xs → marked ys ≡ marked xs → Marked hashed ys m
marked_same hashed xs ys n m M le ep em i lt =
    ap (λ z. bit_of (two (marked ys) z) (at (tags hashed (pairs ys)) i)) (same_bucket hashed xs ys ep i)
    ∙ (ap (λ z. bit_of (two z (bucket_of hashed xs i)) (at (tags hashed (pairs ys)) i)) em
    ∙ (ap (λ z. bit_of (two (marked xs) (bucket_of hashed xs i)) (at (tags hashed z) i)) ep ∙ M i (omega arith)))

-- a part of a key, where an entry was copied from place l to place g
copied_part : {K V : Type 0} (part : K → ℕ) (es es' : List (K × V)) (g l : ℕ) → g < length es → l < length es
    → ((d : K × V) → es' ≡ set es g (get_or es l d)) → at (map (λ z. part z.0) es') g ≡ at (map (λ z. part z.0) es) l
copied_part part [] es' g l gl ll is = omega arith
copied_part {K} {V} part (e ∷ es) es' g l gl ll is =
    written_part g (e ∷ es) es' (get_or (e ∷ es) l e) (is e) part gl ∙ sym (get_or-map (λ (z : K × V). part z.0) (e ∷ es) l e 0 ll)

kept_part : {K V : Type 0} (part : K → ℕ) (es es' : List (K × V)) (g l : ℕ)
    → ((d : K × V) → es' ≡ set es g (get_or es l d)) → g < length es → (i : ℕ) → (i ≡ g → ⊥)
    → at (map (λ z. part z.0) es') i ≡ at (map (λ z. part z.0) es) i
kept_part part [] es' g l is gl i ne = let no : ⊥ = omega arith in absurd no
kept_part part (e ∷ es) es' g l is gl i ne = other_part g (e ∷ es) es' (get_or (e ∷ es) l e) (is e) part i ne

-- the marks after the last of n + 1 entries was copied to place g
pub marked_moved : {K V : Type 0} (hashed : K → ℕ) (xs ys : List (Slot K V)) (n g : ℕ) → Marked hashed xs (n + 1) → g < n → n < length xs
    → ((d : K × V) → pairs ys ≡ set (pairs xs) g (get_or (pairs xs) n d)) → marked ys ≡ marked xs → Marked hashed ys n
marked_moved {K} {V} hashed xs ys n g M gn nl ep em i lt =
    let cap = capacity_of xs in
    let in_g : g < length (pairs xs) = simp length-map (omega arith) in
    let in_n : n < length (pairs xs) = simp length-map nl in
    let from : (j : ℕ) → at (homes hashed cap (pairs ys)) i ≡ at (homes hashed cap (pairs xs)) j
    → at (tags hashed (pairs ys)) i ≡ at (tags hashed (pairs xs)) j → j < n + 1
    → bit_of (two (marked ys) (bucket_of hashed ys i)) (at (tags hashed (pairs ys)) i) ≡ 1 =
    λ j eh et jl.
    ap (λ z. bit_of (two (marked ys) (at (homes hashed z (pairs ys)) i)) (at (tags hashed (pairs ys)) i)) (same_capacity xs ys (as_long_copied xs ys g n nl ep))
    ∙ (ap (λ z. bit_of (two (marked ys) z) (at (tags hashed (pairs ys)) i)) eh
    ∙ (ap (λ z. bit_of (two (marked ys) (bucket_of hashed xs j)) z) et
    ∙ (ap (λ z. bit_of (two z (bucket_of hashed xs j)) (at (tags hashed (pairs xs)) j)) em ∙ M j jl))) in
    elim (cases_eq i g) [
      | inl q ↦
          from n
          (ap (at (homes hashed cap (pairs ys))) q ∙ copied_part (λ k. home cap (hashed k)) (pairs xs) (pairs ys) g n in_g in_n ep)
          (ap (at (tags hashed (pairs ys))) q ∙ copied_part (λ k. mark (hashed k)) (pairs xs) (pairs ys) g n in_g in_n ep) (omega arith)
      | inr ne ↦
          from i (kept_part (λ k. home cap (hashed k)) (pairs xs) (pairs ys) g n ep in_g i ne)
          (kept_part (λ k. mark (hashed k)) (pairs xs) (pairs ys) g n ep in_g i ne) (omega arith)
    ]

-- the index of entries of which one has another value under its key
pub indexed_set : {K V : Type 0} (hashed : K → ℕ) (xs ys : List (Slot K V)) (n i : ℕ) (k : K) (v : V) → Indexed hashed xs n
    → ((d : K × V) → k ≡ (get_or (pairs xs) i d).0) → pairs ys ≡ set (pairs xs) i (k, v) → headed ys ≡ headed xs → nexts ys ≡ nexts xs → marked ys ≡ marked xs → Indexed hashed ys n
indexed_set {K} {V} hashed xs ys n i k v I key ep eh en em =
    let cap : capacity_of ys ≡ capacity_of xs = same_capacity xs ys (as_long_set xs ys i (k, v) ep) in
    let same : (part : K → ℕ) → map (λ (e : K × V). part e.0) (pairs ys) ≡ map (λ (e : K × V). part e.0) (pairs xs) =
    λ part.
    ap (map (λ (e : K × V). part e.0)) ep
    ∙ kept (λ (e : K × V). part e.0) (pairs xs) i (k, v) (k, v) (ap part (key (k, v))) in
    let hs : homes hashed (capacity_of ys) (pairs ys) ≡ homes hashed (capacity_of xs) (pairs xs) =
    ap (λ z. homes hashed z (pairs ys)) cap ∙ same (λ z. home (capacity_of xs) (hashed z)) in
    record {
      fits = omega (arith, I.fits);
      chained =
          rechained (capacity_of xs) (capacity_of ys) n (homes hashed (capacity_of xs) (pairs xs)) (homes hashed (capacity_of ys) (pairs ys)) (headed xs) (headed ys) (nexts xs) (nexts ys)
          cap hs eh en I.chained;
      marks =
          remarked n (homes hashed (capacity_of xs) (pairs xs)) (homes hashed (capacity_of ys) (pairs ys)) (tags hashed (pairs xs)) (tags hashed (pairs ys)) (marked xs) (marked ys)
          hs (same (λ z. mark (hashed z))) em I.marks;
    }
