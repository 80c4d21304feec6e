-- What each edit of a row gains: a cell at its end, a cell in another's place, or none.
use Rattle.std.proofs.Common.{◌≡◌, ℕ, ◌+◌, ◌<◌, ◌≤◌, eqb, List, [], ◌∷◌, ◌++◌, length, get_or, set, ap, ◌∙◌, ⊎_elim, inl, inr, arith}
use Rattle.std.proofs.lemmas.Bool.{cases_eq}
use Rattle.lists.specs.Swap.{swap_removed}
use Rattle.model.specs.Keys.{Keys}
use Rattle.model.specs.Lists.{bit}
use Rattle.rows.specs.Rings.{nth}
use Rattle.rows.specs.HalfEdges.{twin}
use Rattle.halfedges.specs.Cells.{count, standing, named, row_at, put_row}
use Rattle.halfedges.proofs.Counts.{bit_is, bit_other, count_push, count_set, count_swap_removed}
use Rattle.halfedges.proofs.Rows.{standing_put, stands_in_row}
use Rattle.adjacency.proofs.RowEdits.{Gained}

module _ {N V : Type 0} (K : Keys N V) (d : N) (ks : List N) (ns : List (N × List ℕ)) (i : ℕ) (li : i < length ns) where
  -- a cell that stands nowhere is new to the row
  new_here : (c : ℕ) → standing c ns ≡ 0 → count c (row_at ns i d) ≡ 0
  new_here c fresh =
      ⊎_elim (λ z. z) (λ ne. absurd (let s = stands_in_row d ns i c li (omega arith) in let no : ⊥ = omega arith in no)) (cases_eq (count c (row_at ns i d)) 0)

  -- the cell c, and no other, comes into the row
  one_more : (c : ℕ) (zs : List ℕ) → standing c ns ≡ 0 → named K d ks (twin c) ≡ K.value (get_or ns i (d, [])).0
      → ((x : ℕ) → count x zs ≤ count x (row_at ns i d) + bit (eqb x c)) → (x : ℕ) → Gained K d ks ns i zs x
  one_more c zs fresh own more x =
      ⊎_elim
      (λ e.
      let z = new_here c fresh in
      let y = ap (λ w. count w (row_at ns i d)) e in
      let b = bit_is x c e in
      inr (ap (λ w. standing w ns) e ∙ fresh, omega (arith, more x), ap (λ w. named K d ks (twin w)) e ∙ own))
      (λ ne. let b = bit_other x c ne in inl (omega (arith, more x)))
      (cases_eq x c)

  pub gained_push : (c : ℕ) → standing c ns ≡ 0 → named K d ks (twin c) ≡ K.value (get_or ns i (d, [])).0
      → (x : ℕ) → Gained K d ks ns i (row_at ns i d ++ c ∷ []) x
  gained_push c fresh own = one_more c _ fresh own (λ x. let m = count_push x c (row_at ns i d) in omega arith)

  pub gained_set : (k c new : ℕ) → k < length (row_at ns i d) → nth (row_at ns i d) k ≡ c → standing new ns ≡ 0
      → named K d ks (twin new) ≡ K.value (get_or ns i (d, [])).0 → (x : ℕ) → Gained K d ks ns i (set (row_at ns i d) k new) x
  gained_set k c new lk at fresh own = one_more new _ fresh own (λ x. let m = count_set x c new k (row_at ns i d) lk at in omega arith)

  pub gained_less : (k c : ℕ) → k < length (row_at ns i d) → nth (row_at ns i d) k ≡ c → (x : ℕ) → Gained K d ks ns i (swap_removed (row_at ns i d) k) x
  gained_less k c lk at x = inl (let m = count_swap_removed x c k (row_at ns i d) lk at in omega arith)

  pub gained_rest : (c : ℕ) (zs : List ℕ) → row_at ns i d ≡ c ∷ zs → (x : ℕ) → Gained K d ks ns i zs x
  gained_rest c zs e x = inl (let m = ap (count x) e in omega arith)

-- how often each cell stands then
module _ {N : Type 0} (d : N) (ns : List (N × List ℕ)) (i : ℕ) (li : i < length ns) where
  pub pushed_standing : (c : ℕ) (x : ℕ) → standing x (put_row ns i d (row_at ns i d ++ c ∷ [])) ≡ standing x ns + bit (eqb x c)
  pushed_standing c x =
      let t = standing_put d ns i li (row_at ns i d ++ c ∷ []) x in
      let m = count_push x c (row_at ns i d) in
      omega arith

  pub set_standing : (k c new : ℕ) → k < length (row_at ns i d) → nth (row_at ns i d) k ≡ c
      → (x : ℕ) → standing x (put_row ns i d (set (row_at ns i d) k new)) + bit (eqb x c) ≡ standing x ns + bit (eqb x new)
  set_standing k c new lk at x =
      let t = standing_put d ns i li (set (row_at ns i d) k new) x in
      let m = count_set x c new k (row_at ns i d) lk at in
      omega arith
