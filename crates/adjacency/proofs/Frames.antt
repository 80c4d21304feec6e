-- One row of many is edited over one memory: the others stay.
use Rattle.std.proofs.Common.{◌≡◌, ℕ, zero, suc, ◌<◌, ◌≤◌, true, eqb, List, [], ◌∷◌, length, get_or, set, sym, refl, ap, ◌∙◌, subst, ⊎_elim, arith}
use lib.Seq.{map-set}
use Rattle.std.proofs.lemmas.List.{get_or-set_same, get_or-set_other, get_or-map, length-set, same_lists}
use Rattle.std.specs.List.{list_any}
use Rattle.std.proofs.lemmas.Bool.{cases_eq, ne_eqb}
use Rattle.std.proofs.lemmas.Map.Keys.{IsDistinct-from_apart}
use Rattle.std.proofs.lemmas.Map.Steps.{length-le_from_distinct_below}
use Rattle.model.specs.Lists.{bit}
use Rattle.model.proofs.Tallies.{tally_one, tally_two}
use Rattle.rows.specs.declared.cells.Cell.{Cell}
use Rattle.rows.specs.declared.cells.RowHead.{RowHead}
use Rattle.rows.specs.Rings.{none, nth, Apart}
use Rattle.rows.specs.Links.{bare, listed, Linked, Kept}
use Rattle.rows.proofs.Rings.{apart_more}
use Rattle.rows.proofs.Frames.{other_linked, other_listed}
use Rattle.halfedges.specs.Cells.{count, standing}
use Rattle.halfedges.proofs.Counts.{bit_is, bit_other, count_nth, count_apart}
use Rattle.adjacency.specs.Stages.{rowed, Rings}
use Rattle.adjacency.proofs.Entries.{rowed_length, row_read}

-- lists that differ at i alone, after a write there
set_but : {X : Type 0} (xs ys : List X) (i : ℕ) (v : X) → length xs ≡ length ys → ((j : ℕ) (d : X) → j < length xs → (j ≡ i → ⊥) → get_or xs j d ≡ get_or ys j d) → set xs i v ≡ set ys i v
set_but xs ys i v n h =
    same_lists (set xs i v) (set ys i v) (length-set xs i v ∙ n ∙ sym (length-set ys i v))
    (λ k d l.
    let m : k < length xs = omega (arith, length-set xs i v) in
    ⊎_elim
    (λ e. subst (λ j. get_or (set xs i v) j d ≡ get_or (set ys i v) j d) (sym e) (get_or-set_same xs i v d (omega arith) ∙ sym (get_or-set_same ys i v d (omega arith))))
    (λ ne. get_or-set_other xs i k v d ne ∙ h k d m ne ∙ sym (get_or-set_other ys i k v d ne))
    (cases_eq k i))

-- the row at i is edited: what is written is apart from every other row
module _ {N : Type 0} (mem mem' : List (Cell N)) (es : List (N × RowHead)) (i : ℕ) (k : N) (h' : RowHead) (ys : List ℕ)
    (small : length mem ≤ none) (R : Rings mem es) (li : i < length es)
    (kept : Kept mem mem' ys) (linked : Linked mem' h')
    (off : (j : ℕ) (e : N × RowHead) → j < length es → (j ≡ i → ⊥) → (c : ℕ) → 1 ≤ count c (listed mem (get_or es j e).1) → Apart c ys) where
  apart_row : (j : ℕ) (e : N × RowHead) → j < length es → (j ≡ i → ⊥) → (x : ℕ) → x < length (listed mem (get_or es j e).1) → Apart (nth (listed mem (get_or es j e).1) x) ys
  apart_row j e l ne x lx = off j e l ne _ (count_nth (listed mem (get_or es j e).1) x lx)

  pub edited_rings : Rings mem' (set es i (k, h'))
  edited_rings j e l =
      ⊎_elim
      (λ q. subst (λ z. Linked mem' (get_or (set es i (k, h')) z e).1) (sym q) (subst (λ x. Linked mem' x.1) (sym (get_or-set_same es i (k, h') e li)) linked))
      (λ ne.
      let lj : j < length es = omega (arith, length-set es i (k, h')) in
      subst (λ x. Linked mem' x.1) (sym (get_or-set_other es i j (k, h') e ne)) (other_linked mem mem' (get_or es j e).1 ys (R j e lj) small kept (apart_row j e lj ne)))
      (cases_eq j i)

  pub edited_rows : rowed mem' (set es i (k, h')) ≡ set (rowed mem es) i (k, listed mem' h')
  edited_rows =
      map-set (λ e. (e.0, listed mem' e.1)) es i (k, h')
      ∙ set_but (rowed mem' es) (rowed mem es) i (k, listed mem' h') (rowed_length mem' es ∙ sym (rowed_length mem es))
      (λ j d l ne.
      let e : N × RowHead = (d.0, bare) in
      let m : j < length es = omega (arith, rowed_length mem' es) in
      get_or-map (λ x. (x.0, listed mem' x.1)) es j e d m
      ∙ ap (λ xs. ((get_or es j e).0, xs)) (other_listed mem mem' (get_or es j e).1 ys (R j e m) small kept (apart_row j e m ne))
      ∙ sym (get_or-map (λ x. (x.0, listed mem x.1)) es j e d m))

-- where each cell stands once at most, one that stands in another row does not stand in this one
module _ {N : Type 0} (mem : List (Cell N)) (es : List (N × RowHead)) (alone : (x : ℕ) → standing x (rowed mem es) ≤ 1) where
  pub others_apart : (i j : ℕ) (e : N × RowHead) → i < length es → j < length es → (j ≡ i → ⊥) → (c : ℕ) → 1 ≤ count c (listed mem (get_or es j e).1) → Apart c (listed mem (get_or es i e).1)
  others_apart i j e li l ne c h =
      let t = tally_two (λ n. count c n.1) (rowed mem es) j i (e.0, []) (omega (arith, rowed_length mem es)) (omega (arith, rowed_length mem es)) ne in
      let a = ap (λ n. count c n.1) (row_read mem es j e l) in
      let b = ap (λ n. count c n.1) (row_read mem es i e li) in
      count_apart c (listed mem (get_or es i e).1) (omega (arith, alone c))

-- a cell that stands nowhere is in no row
pub fresh_count : {N : Type 0} (mem : List (Cell N)) (es : List (N × RowHead)) (e : N × RowHead) (c : ℕ) → standing c (rowed mem es) ≡ 0 → (j : ℕ) → j < length es → count c (listed mem (get_or es j e).1) ≡ 0
fresh_count mem es e c z j l =
    let t = tally_one (λ n. count c n.1) (rowed mem es) j (e.0, []) (omega (arith, rowed_length mem es)) in
    let a = ap (λ n. count c n.1) (row_read mem es j e l) in
    omega arith

-- the cells of other rows are apart from this one, and from a cell that stands nowhere
module _ {N : Type 0} (mem : List (Cell N)) (es : List (N × RowHead)) (alone : (x : ℕ) → standing x (rowed mem es) ≤ 1) (i : ℕ) (li : i < length es) (h : RowHead)
    (is : (e : N × RowHead) → h ≡ (get_or es i e).1) where
  pub off_row : (j : ℕ) (e : N × RowHead) → j < length es → (j ≡ i → ⊥) → (y : ℕ) → 1 ≤ count y (listed mem (get_or es j e).1) → Apart y (listed mem h)
  off_row j e l ne y o = subst (λ w. Apart y (listed mem w)) (sym (is e)) (others_apart mem es alone i j e li l ne y o)

  pub off_more : (c : ℕ) → standing c (rowed mem es) ≡ 0 → (j : ℕ) (e : N × RowHead) → j < length es → (j ≡ i → ⊥) → (y : ℕ) → 1 ≤ count y (listed mem (get_or es j e).1) → Apart y (c ∷ listed mem h)
  off_more c fresh j e l ne y o =
      apart_more (listed mem h) (off_row j e l ne y o)
      (λ q.
      let z = fresh_count mem es e c fresh j l in
      let w = ap (λ v. count v (listed mem (get_or es j e).1)) (sym q) in
      let no : ⊥ = omega arith in no)

-- cells below n, each once at most, are n at most
any_below : (q n : ℕ) (xs : List ℕ) → ((k : ℕ) → k < length xs → nth xs k < n) → list_any (eqb q) xs ≡ true → q < n
any_below q n [] h e = cc
any_below q n (x ∷ xs) h e =
    ⊎_elim
    (λ s. omega (arith, h 0 (omega arith)))
    (λ ne. any_below q n xs (λ k l. h (suc k) (omega arith)) (rw (ne_eqb q x ne) at e))
    (cases_eq q x)

short : (xs : List ℕ) (n : ℕ) → ((k : ℕ) → k < length xs → nth xs k < n) → ((c : ℕ) → count c xs ≤ 1) → length xs ≤ n
short xs n h o =
    length-le_from_distinct_below xs n
    (IsDistinct-from_apart eqb xs
    (λ i j d lt lj.
    ne_eqb (get_or xs i d) (get_or xs j d)
    (λ e.
    let t = tally_two (λ z. bit (eqb (get_or xs i d) z)) xs i j d (omega arith) lj (λ q. omega arith) in
    let a = bit_is (get_or xs i d) (get_or xs i d) refl in
    let b = bit_is (get_or xs i d) (get_or xs j d) e in
    omega (arith, o (get_or xs i d)))))
    (λ q. any_below q n xs h)

-- a row has room for a cell that stands nowhere
module _ {N : Type 0} (mem : List (Cell N)) (es : List (N × RowHead)) (i : ℕ) (li : i < length es) (alone : (x : ℕ) → standing x (rowed mem es) ≤ 1)
    (small : length mem ≤ none) (R : Rings mem es) (c : ℕ) (lc : c < length mem) (fresh : standing c (rowed mem es) ≡ 0) (e : N × RowHead) where
  all_within : (xs : List ℕ) → ((k : ℕ) → k < length xs → nth xs k < length mem) → (k : ℕ) → k < length (c ∷ xs) → nth (c ∷ xs) k < length mem
  all_within xs h zero l = lc
  all_within xs h (suc k) l = h k (omega arith)

  ones : (x : ℕ) → count x (c ∷ listed mem (get_or es i e).1) ≤ 1
  ones x =
      ⊎_elim
      (λ q.
      let z = fresh_count mem es e c fresh i li in
      let y = ap (λ w. count w (listed mem (get_or es i e).1)) q in
      let b = bit_is x c q in omega arith)
      (λ ne.
      let t = tally_one (λ n. count x n.1) (rowed mem es) i (e.0, []) (omega (arith, rowed_length mem es)) in
      let a = ap (λ n. count x n.1) (row_read mem es i e li) in
      let b = bit_other x c ne in omega (arith, alone x))
      (cases_eq x c)

  pub roomy : (get_or es i e).1.len < none
  roomy =
      let r = R i e li in
      let n = short (c ∷ listed mem (get_or es i e).1) (length mem) (all_within (listed mem (get_or es i e).1) r.ring.within) ones in
      omega (arith, r.long)
