-- The cells that are to come of a walk, over any memory, and of a walk from the start of a row.
use Rattle.std.proofs.Common.{◌≡◌, ℕ, zero, suc, ◌<◌, ◌≤◌, true, ltb, List, [], ◌∷◌, map, length, get_or, Some, None, Option, sym, refl, ap, ◌∙◌, subst, ⊎_elim, arith}
use Rattle.std.specs.List.{slice_get}
use Rattle.std.proofs.lemmas.Simd.{map-map}
use Rattle.std.proofs.lemmas.Bool.{cases_lt, cases_eq, lt-ltb, le-ltb, cond-true, cond-false}
use Rattle.keys.specs.declared.kinds.Direction.{Direction}
use Rattle.keys.specs.declared.kinds.Direction.TheVariants.{Outgoing}
use Rattle.keys.specs.declared.kinds.Kind.{Kind}
use Rattle.keys.specs.declared.kinds.Kind.TheVariants.{Undirected}
use Rattle.model.specs.Keys.{Keys}
use Rattle.model.specs.Lists.{kept}
use Rattle.model.specs.Questions.{shown}
use Rattle.rows.specs.declared.cells.Cell.{Cell}
use Rattle.rows.specs.declared.cells.RowHead.{RowHead}
use Rattle.rows.specs.declared.walk.Walk.{Walk}
use Rattle.rows.specs.Links.{nexts, cell_keys, listed, Linked}
use Rattle.rows.specs.HalfEdges.{told}
use Rattle.rows.specs.Walks.{walk_of, walked, showing, upcoming, first_of}
use Rattle.rows.proofs.Walks.{walked_listed}
use Rattle.halfedges.specs.Cells.{count}
use Rattle.halfedges.proofs.Counts.{bit_is, bit_other}
use Rattle.halfedges.proofs.Told.{entry}
use Rattle.graphmap.specs.Walks.{first_by, key_of}
use Rattle.graphmap.proofs.Lists.{kept_map, kept_all, count_kept, count_place}
use Rattle.graphmap.proofs.NodeRows.{told_row}

-- the first of a list, by what a step gave: y
pub first_turned : {X Y : Type 0} (f : X → Option Y) (xs ys : List X) (r : Option X) (x : X) (y : Option Y) → ◌≡◌ {A = Option X × List X} (r, ys) (first_of xs) → r ≡ Some x → y ≡ f x
    → ◌≡◌ {A = Option Y × List X} (y, ys) (first_by f xs)
first_turned {X} f [] ys r x y e q p =
    let n = ap (λ (z : Option X × List X). z.0) e in
    let z : ◌≡◌ {A = ℕ} 0 1 = cc in
    absurd (omega arith)
first_turned {X} f (v ∷ vs) ys r x y e q p =
    let n : Some x ≡ Some v = sym q ∙ ap (λ (z : Option X × List X). z.0) e in
    let s : x ≡ v = cc in
    λ i. ((p ∙ ap f s) i, (e i).1)

-- the same at the end
pub first_ended : {X Y : Type 0} (f : X → Option Y) (xs ys : List X) (r : Option X) → ◌≡◌ {A = Option X × List X} (r, ys) (first_of xs) → r ≡ None
    → ◌≡◌ {A = Option Y × List X} (None, ys) (first_by f xs)
first_ended f [] ys r e q = λ i. (None, (e i).1)
first_ended f (y ∷ zs) ys r e q =
    let p = ap (λ z. z.0) e in
    let z : ◌≡◌ {A = ℕ} 0 1 = cc in
    absurd (omega arith)

pub first_count : (xs ys : List ℕ) (r : Option ℕ) (c : ℕ) → ◌≡◌ {A = Option ℕ × List ℕ} (r, ys) (first_of xs) → r ≡ Some c → 1 ≤ count c xs
first_count [] ys r c e q =
    let p = ap (λ (z : Option ℕ × List ℕ). z.0) e in
    let z : ◌≡◌ {A = ℕ} 0 1 = cc in
    absurd (omega arith)
first_count (x ∷ xs) ys r c e q =
    let p : Some c ≡ Some x = sym q ∙ ap (λ (z : Option ℕ × List ℕ). z.0) e in
    let s : c ≡ x = cc in
    let b = bit_is c x s in
    omega arith

module _ {N : Type 0} (mem : List (Cell N)) where
  walked_within : (x n c : ℕ) → 1 ≤ count c (walked mem x n) → c < length mem
  walked_within x zero c h = absurd (omega arith)
  walked_within x (suc n) c h =
      let rest = walked_within (get_or (nexts mem) x 0) n c in
      ⊎_elim
      (λ l.
      let k = ap (count c) (cond-true (ltb x (length mem)) (x ∷ walked mem (get_or (nexts mem) x 0) n) [] (lt-ltb x (length mem) l)) in
      ⊎_elim (λ q. omega arith) (λ ne. let b = bit_other c x ne in rest (omega arith)) (cases_eq c x))
      (λ l.
      let k = ap (count c) (cond-false (ltb x (length mem)) (x ∷ walked mem (get_or (nexts mem) x 0) n) [] (le-ltb x (length mem) l)) in
      absurd (let no : ⊥ = omega arith in no))
      (cases_lt x (length mem))

module _ {N V : Type 0} (K : Keys N V) (e : N) (mem : List (Cell N)) (kind : Kind) (d : Direction) (v : V) where
  -- what is to come is in the memory
  pub upcoming_within : (w : Walk) (c : ℕ) → 1 ≤ count c (upcoming K e mem kind d v w) → c < length mem
  upcoming_within w c h = walked_within mem w.at w.left c (count_kept (showing K e mem kind d v) (walked mem w.at w.left) c h).0

  pub place_within : (w : Walk) (k : ℕ) (r : Option ℕ) (c : ℕ) → r ≡ slice_get (upcoming K e mem kind d v w) k → r ≡ Some c → c < length mem
  place_within w k r c at is = upcoming_within w c (count_place (upcoming K e mem kind d v w) k c (sym is ∙ at))

  pub first_within : (w : Walk) (ys : List ℕ) (r : Option ℕ) (c : ℕ) → ◌≡◌ {A = Option ℕ × List ℕ} (r, ys) (first_of (upcoming K e mem kind d v w)) → r ≡ Some c → c < length mem
  first_within w ys r c at is = upcoming_within w c (first_count (upcoming K e mem kind d v w) ys r c at is)

  module _ (h : RowHead) (linked : Linked mem h) where
    -- from the start of a row all its cells that are shown are to come
    pub upcoming_row : upcoming K e mem kind d v (walk_of h) ≡ kept (showing K e mem kind d v) (listed mem h)
    upcoming_row = ap (kept (showing K e mem kind d v)) (walked_listed mem h linked)

    pub upcoming_shown : (c : ℕ) → 1 ≤ count c (upcoming K e mem kind d v (walk_of h)) → (1 ≤ count c (listed mem h)) × (showing K e mem kind d v c ≡ true)
    upcoming_shown c o = count_kept (showing K e mem kind d v) (listed mem h) c (subst (λ xs. 1 ≤ count c xs) upcoming_row o)

    -- their keys are those of the entries that are shown
    pub upcoming_keys : map (key_of e mem) (upcoming K e mem kind d v (walk_of h)) ≡ map (λ x. x.0) (kept (shown K kind d v) (told (cell_keys mem) (listed mem h)))
    upcoming_keys =
        let f = entry e (cell_keys mem) in
        ap (map (key_of e mem)) upcoming_row
        ∙ sym (map-map (λ (x : N × Direction). x.0) f (kept (showing K e mem kind d v) (listed mem h)))
        ∙ ap (map (λ x. x.0)) (sym (kept_map f (shown K kind d v) (listed mem h)) ∙ ap (kept (shown K kind d v)) (sym (told_row e mem h linked)))

-- in an Undirected map any direction shows every entry
pub upcoming_entries : {N V : Type 0} (K : Keys N V) (e : N) (mem : List (Cell N)) (v : V) (h : RowHead) → Linked mem h
    → map (entry e (cell_keys mem)) (upcoming K e mem Undirected Outgoing v (walk_of h)) ≡ told (cell_keys mem) (listed mem h)
upcoming_entries K e mem v h linked =
    ap (map (entry e (cell_keys mem))) (upcoming_row K e mem Undirected Outgoing v h linked ∙ kept_all (showing K e mem Undirected Outgoing v) (listed mem h) (λ x. refl))
    ∙ sym (told_row e mem h linked)
