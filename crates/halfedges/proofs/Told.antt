-- The entries of a row, as its cells or their keys change.
use Rattle.std.proofs.Common.{◌≡◌, ℕ, suc, ◌<◌, ◌≤◌, Bool, eqb, List, [], ◌∷◌, ◌++◌, map, length, get_or, take, set, Some, sym, refl, ap, ◌∙◌, arith}
use lib.Seq.{map-set}
use Rattle.std.proofs.lemmas.List.{get_or_default, map-append, get_or-map, length-map, take-map, set-get_or}
use Rattle.std.proofs.lemmas.Bool.{eq-eqb, ne_eqb}
use Rattle.keys.specs.declared.kinds.Direction.{Direction}
use Rattle.lists.specs.Positions.{position}
use Rattle.lists.specs.Swap.{swap_removed}
use Rattle.rows.specs.Rings.{none, nth}
use Rattle.rows.specs.HalfEdges.{side, told}
use Rattle.model.specs.Lists.{bit, without}
use Rattle.model.proofs.Tallies.{tally_one, tally_two}
use Rattle.model.proofs.Positions.{position_map, position_sole, without_at}
use Rattle.halfedges.specs.Cells.{count, standing, noded}
use Rattle.halfedges.proofs.Counts.{bit_same, bit_is, count_at}

pub map_on : {X Y : Type 0} (f g : X → Y) (xs : List X) → ((i : ℕ) (d : X) → i < length xs → f (get_or xs i d) ≡ g (get_or xs i d)) → map f xs ≡ map g xs
map_on f g [] h = refl
map_on f g (x ∷ xs) h = λ j. h 0 x (omega arith) j ∷ map_on f g xs (λ i d l. h (suc i) d (omega arith)) j

pub map_swap_removed : {X Y : Type 0} (f : X → Y) (xs : List X) (k : ℕ) → map f (swap_removed xs k) ≡ swap_removed (map f xs) k
map_swap_removed f [] k = refl
map_swap_removed f (x ∷ xs) k =
    let last = get_or (x ∷ xs) (length xs) x in
    sym (take-map f (length xs) (set (x ∷ xs) k last))
    ∙ ap (take (length xs)) (map-set f (x ∷ xs) k last)
    ∙ ap (λ y. take (length xs) (set (map f (x ∷ xs)) k y)) (sym (get_or-map f (x ∷ xs) (length xs) x (f x) (omega arith)))
    ∙ ap (λ n. take n (set (map f (x ∷ xs)) k (get_or (map f (x ∷ xs)) n (f x)))) (sym (length-map xs f))

-- the entry of a cell
abbrev pub entry : {N : Type 0} → N → List N → ℕ → N × Direction
entry d ks c = (get_or ks c d, side c)

-- cells within the memory are told with any default
pub told_is : {N : Type 0} (d : N) (ks : List N) (xs : List ℕ) → ((x : ℕ) → 1 ≤ count x xs → x < length ks) → told ks xs ≡ map (entry d ks) xs
told_is d [] [] h = refl
told_is d [] (x ∷ xs) h = absurd (let b = bit_same x in let no : ⊥ = omega (arith, h x (omega arith)) in no)
told_is d (k ∷ ks) xs h = map_on _ _ xs (λ i e l. ap (λ z. (z, side (get_or xs i e))) (get_or_default (k ∷ ks) (get_or xs i e) k d (h _ (count_at xs i e l))))

pub told_push : {N : Type 0} (d : N) (ks : List N) (xs : List ℕ) (c : ℕ) → c < length ks → told ks (xs ++ c ∷ []) ≡ told ks xs ++ entry d ks c ∷ []
told_push d [] xs c l = absurd (omega arith)
told_push d (k ∷ ks) xs c l = map-append _ xs (c ∷ []) ∙ ap (λ z. told (k ∷ ks) xs ++ (z, side c) ∷ []) (get_or_default (k ∷ ks) c k d l)

pub told_first : {N : Type 0} (d : N) (ks : List N) (c : ℕ) (xs : List ℕ) → c < length ks → told ks (c ∷ xs) ≡ entry d ks c ∷ told ks xs
told_first d [] c xs l = absurd (omega arith)
told_first d (k ∷ ks) c xs l = ap (λ z. (z, side c) ∷ told (k ∷ ks) xs) (get_or_default (k ∷ ks) c k d l)

pub told_none : {N : Type 0} (ks : List N) → told ks [] ≡ []
told_none [] = refl
told_none (k ∷ ks) = refl

pub told_swap_removed : {N : Type 0} (ks : List N) (xs : List ℕ) (k : ℕ) → told ks (swap_removed xs k) ≡ swap_removed (told ks xs) k
told_swap_removed [] xs k = refl
told_swap_removed (n ∷ ns) xs k = map_swap_removed _ xs k

-- another cell in a position, with the same entry
pub told_set : {N : Type 0} (d : N) (ks : List N) (xs : List ℕ) (k c new : ℕ) → k < length xs → nth xs k ≡ c → c < length ks → new < length ks
    → get_or ks new d ≡ get_or ks c d → side new ≡ side c → told ks (set xs k new) ≡ told ks xs
told_set d [] xs k c new lk e lc ln same sides = absurd (omega arith)
told_set {N} d (n ∷ ns) xs k c new lk e lc ln same sides =
    let f : ℕ → N × Direction = λ x. (get_or (n ∷ ns) x n, side x) in
    let same' : get_or (n ∷ ns) new n ≡ get_or (n ∷ ns) c n = get_or_default (n ∷ ns) new n d ln ∙ same ∙ get_or_default (n ∷ ns) c d n lc in
    let at : f new ≡ get_or (map f xs) k (f c) = (λ i. (same' i, sides i)) ∙ sym (get_or-map f xs k none (f c) lk ∙ ap f e) in
    map-set f xs k new ∙ ap (set (map f xs) k) at ∙ set-get_or (map f xs) k (f c)

-- keys that are the same at the cells of a row
pub told_agree : {N : Type 0} (d : N) (ks ks' : List N) (xs : List ℕ) → ((x : ℕ) → 1 ≤ count x xs → (x < length ks) × (x < length ks') × (get_or ks' x d ≡ get_or ks x d)) → told ks' xs ≡ told ks xs
told_agree d ks ks' xs h =
    told_is d ks' xs (λ x l. (h x l).1)
    ∙ map_on _ _ xs (λ i e l. ap (λ z. (z, side (get_or xs i e))) (h (get_or xs i e) (count_at xs i e l)).2)
    ∙ sym (told_is d ks xs (λ x l. (h x l).0))

pub noded_agree : {N : Type 0} (d : N) (ks ks' : List N) (ns : List (N × List ℕ)) → ((x : ℕ) → 1 ≤ standing x ns → (x < length ks) × (x < length ks') × (get_or ks' x d ≡ get_or ks x d)) → noded ks' ns ≡ noded ks ns
noded_agree d ks ks' ns h =
    map_on _ _ ns (λ i e l.
    ap (λ r. ((get_or ns i e).0, r))
    (told_agree d ks ks' (get_or ns i e).1 (λ x o. h x (let t = tally_one (λ n. count x n.1) ns i e l in omega arith))))

-- the cell at k is the only one that passes: its entry is the first that does
pub told_position : {N : Type 0} (d : N) (ks : List N) (xs : List ℕ) (k c : ℕ) (p : N × Direction → Bool) → k < length xs → nth xs k ≡ c → count c xs ≤ 1
    → ((x : ℕ) → 1 ≤ count x xs → x < length ks) → ((x : ℕ) → 1 ≤ count x xs → p (entry d ks x) ≡ eqb x c) → position p (told ks xs) ≡ Some k
told_position d ks xs k c p lk e one within only =
    ap (position p) (told_is d ks xs within) ∙ position_map p (entry d ks) xs
    ∙ position_sole (λ x. p (entry d ks x)) xs k lk
    (λ z. only (get_or xs k z) (count_at xs k z lk) ∙ eq-eqb (get_or xs k z) c (here z))
    (λ j z lj ne. only (get_or xs j z) (count_at xs j z lj) ∙ ne_eqb (get_or xs j z) c (λ q.
    let t = tally_two (λ y. bit (eqb c y)) xs j k z lj lk ne in
    let u = bit_is c (get_or xs j z) (sym q) in
    let v = bit_is c (get_or xs k z) (sym (here z)) in
    let no : ⊥ = omega arith in no))
  where
    here : (z : ℕ) → get_or xs k z ≡ c
    here z = get_or_default xs k z none lk ∙ e

pub told_without : {N : Type 0} (d : N) (ks : List N) (xs : List ℕ) (k c : ℕ) (p : N × Direction → Bool) → k < length xs → nth xs k ≡ c → count c xs ≤ 1
    → ((x : ℕ) → 1 ≤ count x xs → x < length ks) → ((x : ℕ) → 1 ≤ count x xs → p (entry d ks x) ≡ eqb x c)
    → told ks (swap_removed xs k) ≡ without p (told ks xs)
told_without d ks xs k c p lk e one within only =
    told_swap_removed ks xs k ∙ sym (without_at p (told ks xs) k (told_position d ks xs k c p lk e one within only))
