-- A cell that stands is in the row of the node that its twin names.
use Rattle.std.proofs.Common.{◌≡◌, ℕ, ◌<◌, ◌≤◌, List, [], length, get_or, Some, None, Ordering, sym, ap, ◌∙◌, subst, ⊎_elim, arith}
use Rattle.std.proofs.lemmas.List.{get_or_default}
use Rattle.std.proofs.lemmas.Bool.{cases_lt, both_ways}
use Rattle.keys.specs.Order.{Laws}
use Rattle.lists.specs.Positions.{position}
use Rattle.lists.proofs.Positions.{none_passes, found_within}
use Rattle.table.specs.Content.{Apart}
use Rattle.model.specs.Keys.{Keys, keys, eq}
use Rattle.model.proofs.Tests.{same_eq, other_eq, eq_true}
use Rattle.model.proofs.Positions.{position_sole, passes_at}
use Rattle.rows.specs.declared.cells.Cell.{Cell}
use Rattle.rows.specs.declared.cells.RowHead.{RowHead}
use Rattle.rows.specs.HalfEdges.{twin}
use Rattle.rows.specs.Links.{bare}
use Rattle.halfedges.specs.Cells.{count, standing, row_at, named, Owned}
use Rattle.halfedges.proofs.Rows.{held_in}
use Rattle.adjacency.specs.Stages.{NodeRows, Stage, rowed, rows_of, keys_of}
use Rattle.adjacency.proofs.Entries.{rowed_length, row_read}

-- owners over other keys and rows that are the same
pub owned_as : {N V : Type 0} (K : Keys N V) (d : N) (ks ks' : List N) (ns ns' : List (N × List ℕ)) → ks' ≡ ks → ns' ≡ ns → Owned K d ks ns → Owned K d ks' ns'
owned_as K d ks ks' ns ns' e f O = subst (λ z. Owned K d z ns') (sym e) (subst (Owned K d ks) (sym f) O)

-- the row at the place of a key is that key's
pub owner_at : {N V : Type 0} (K : Keys N V) (laws : Laws K.order) (mem : List (Cell N)) (es : List (N × RowHead)) (v : V) (i : ℕ) → position (λ e. eq K (K.value e.0) v) es ≡ Some i
    → (d : N) → v ≡ K.value (get_or (rowed mem es) i (d, [])).0
owner_at {N} K laws mem es v i at d =
    let e : N × RowHead = (d, bare) in
    sym (ap (λ x. K.value x.0) (row_read mem es i e (found_within _ es i at)) ∙ eq_true K laws _ _ (passes_at (λ x. eq K (K.value x.0) v) es i e at))

-- the place of a key, by its value
pub key_place : {N V : Type 0} (K : Keys N V) (laws : Laws K.order) (es : List (N × RowHead)) (v : V) (i : ℕ) → Apart K.value es → i < length es
    → ((e : N × RowHead) → K.value (get_or es i e).0 ≡ v) → position (λ e. eq K (K.value e.0) v) es ≡ Some i
key_place {N} K laws es v i apart l h =
    position_sole (λ e. eq K (K.value e.0) v) es i l (λ e. same_eq K laws _ _ (h e))
    (λ j e lj ne. other_eq K laws _ _ (λ q.
    ⊎_elim
    (λ s. apart j i e s l (q ∙ sym (h e)))
    (λ s. ⊎_elim (λ r. apart i j e r lj (h e ∙ sym q)) (λ r. ne (omega arith)) (cases_lt i j))
    (cases_lt j i)))

module _ {N V : Type 0} {value : N → V} {order : V → V → Ordering} {r : NodeRows N} (s : Stage value order r) (laws : Laws order) (d : N) (v : V) (x : ℕ)
    (h : 1 ≤ standing x (rows_of r)) (own : named (keys value order) d (keys_of r) (twin x) ≡ v) where
  its_row : (j : ℕ) × (j < length r.nodes.entries) × (1 ≤ count x (row_at (rows_of r) j d)) × (value (get_or r.nodes.entries j (d, bare)).0 ≡ v)
  its_row =
      let t = held_in (keys value order) d (keys_of r) (rows_of r) x (s.owned d) h in
      let l : t.0 < length r.nodes.entries = omega (arith, t.1, rowed_length r.cells r.nodes.entries) in
      (t.0, l, t.2, sym (ap (λ y. value y.0) (row_read r.cells r.nodes.entries t.0 (d, bare) l)) ∙ sym t.3 ∙ own)

  -- so the node is there
  pub never_absent : position (λ e. eq (keys value order) (value e.0) v) r.nodes.entries ≡ None → ⊥
  never_absent e =
      let t = its_row in
      both_ways _ (none_passes (λ y. eq (keys value order) (value y.0) v) r.nodes.entries e t.0 (d, bare) t.1) (same_eq (keys value order) laws _ _ t.3)

  -- and its row has the cell
  pub in_its_row : (i : ℕ) → position (λ e. eq (keys value order) (value e.0) v) r.nodes.entries ≡ Some i → 1 ≤ count x (row_at (rows_of r) i d)
  in_its_row i e =
      let t = its_row in
      let p = key_place (keys value order) laws r.nodes.entries v t.0 s.apart t.1 (λ y. ap (λ z. value z.0) (get_or_default r.nodes.entries t.0 y (d, bare) t.1) ∙ t.3) in
      let q : Some i ≡ Some t.0 = sym e ∙ p in
      let same : t.0 ≡ i = cc in
      subst (λ j. 1 ≤ count x (row_at (rows_of r) j d)) same t.2
