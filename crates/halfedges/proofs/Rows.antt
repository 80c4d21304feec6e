-- One row of many is put in the place of another.
use Rattle.std.proofs.Common.{◌≡◌, ℕ, ◌+◌, ◌<◌, ◌≤◌, Bool, List, [], ◌∷◌, ◌++◌, length, get_or, set, Some, sym, refl, ap, ◌∙◌, subst, ⊎_elim, arith}
use lib.Seq.{map-set}
use Rattle.std.proofs.lemmas.List.{get_or-set_same, get_or-set_other, length-set, get_or-map, length-map, get_or_append_left, get_or_push, length_push, map-append}
use Rattle.std.proofs.lemmas.Bool.{cases_eq, cases_lt}
use Rattle.keys.specs.declared.kinds.Direction.{Direction}
use Rattle.lists.specs.Positions.{position}
use Rattle.rows.specs.HalfEdges.{twin, told}
use Rattle.table.proofs.Lists.{kept}
use Rattle.model.specs.Keys.{Keys, eq}
use Rattle.model.specs.Maps.{is_node, at_row}
use Rattle.model.proofs.Tallies.{tally_set, tally_one, tally_some, tally_push}
use Rattle.model.proofs.Positions.{position_map, amended_at}
use Rattle.halfedges.specs.Cells.{count, standing, noded, row_at, put_row, named, Owned}
use Rattle.halfedges.proofs.Told.{told_none}

-- a cell of a row stands
pub stands_in_row : {N : Type 0} (d : N) (ns : List (N × List ℕ)) (i x : ℕ) → i < length ns → 1 ≤ count x (row_at ns i d) → 1 ≤ standing x ns
stands_in_row d ns i x l h = let t = tally_one (λ n. count x n.1) ns i (d, []) l in omega arith

pub length_noded : {N : Type 0} (ks : List N) (ns : List (N × List ℕ)) → length (noded ks ns) ≡ length ns
length_noded ks ns = length-map ns _

pub noded_read : {N : Type 0} (d : N) (ks : List N) (ns : List (N × List ℕ)) (i : ℕ) → i < length ns → get_or (noded ks ns) i (d, []) ≡ ((get_or ns i (d, [])).0, told ks (row_at ns i d))
noded_read d ks ns i l = get_or-map _ ns i (d, []) (d, []) l

-- a node is found by its key, whatever its row
pub position_noded : {N V : Type 0} (K : Keys N V) (v : V) (ks : List N) (ns : List (N × List ℕ)) → position (is_node K v) (noded ks ns) ≡ position (λ n. eq K (K.value n.0) v) ns
position_noded K v ks ns = position_map (is_node K v) _ ns

module _ {N : Type 0} (d : N) (ns : List (N × List ℕ)) (i : ℕ) (li : i < length ns) (ys : List ℕ) where
  pub read_here : get_or (put_row ns i d ys) i (d, []) ≡ ((get_or ns i (d, [])).0, ys)
  read_here = get_or-set_same ns i ((get_or ns i (d, [])).0, ys) (d, []) li

  pub read_other : (j : ℕ) → (j ≡ i → ⊥) → get_or (put_row ns i d ys) j (d, []) ≡ get_or ns j (d, [])
  read_other j ne = get_or-set_other ns i j ((get_or ns i (d, [])).0, ys) (d, []) ne

  pub length_put : length (put_row ns i d ys) ≡ length ns
  length_put = length-set ns i ((get_or ns i (d, [])).0, ys)

  pub standing_put : (x : ℕ) → standing x (put_row ns i d ys) + count x (row_at ns i d) ≡ standing x ns + count x ys
  standing_put x = tally_set (λ n. count x n.1) ns i ((get_or ns i (d, [])).0, ys) (d, []) li

  pub owned_put : {V : Type 0} (K : Keys N V) (ks : List N) → Owned K d ks ns → ((x : ℕ) → 1 ≤ count x ys → named K d ks (twin x) ≡ K.value (get_or ns i (d, [])).0) → Owned K d ks (put_row ns i d ys)
  owned_put K ks O h j x l o =
      ⊎_elim
      (λ e. let q = ap (λ z. get_or (put_row ns i d ys) z (d, [])) e ∙ read_here in
      h x (subst (λ n. 1 ≤ count x n.1) q o) ∙ sym (ap (λ n. K.value n.0) q))
      (λ ne. let q = read_other j ne in
      O j x (omega (arith, length_put)) (subst (λ n. 1 ≤ count x n.1) q o) ∙ sym (ap (λ n. K.value n.0) q))
      (cases_eq j i)

  pub noded_put : (ks : List N) → noded ks (put_row ns i d ys) ≡ set (noded ks ns) i ((get_or ns i (d, [])).0, told ks ys)
  noded_put ks = map-set _ ns i ((get_or ns i (d, [])).0, ys)

  -- as an edit of the row of the node of value v
  pub noded_at_row : {V : Type 0} (K : Keys N V) (ks : List N) (v : V) (g : List (N × Direction) → List (N × Direction)) → position (is_node K v) (noded ks ns) ≡ Some i
      → told ks ys ≡ g (told ks (row_at ns i d)) → noded ks (put_row ns i d ys) ≡ at_row K v g (noded ks ns)
  noded_at_row K ks v g at e =
      noded_put ks
      ∙ ap (λ r. set (noded ks ns) i ((get_or ns i (d, [])).0, r)) e
      ∙ sym (ap (λ n. set (noded ks ns) i (n.0, g n.1)) (noded_read d ks ns i li))
      ∙ sym (amended_at (is_node K v) (λ n. (n.0, g n.1)) (noded ks ns) i (d, []) at)

-- keys stay where they are
pub position_put : {N V : Type 0} (K : Keys N V) (v : V) (d : N) (ns : List (N × List ℕ)) (i : ℕ) (ys : List ℕ)
    → position (λ n. eq K (K.value n.0) v) (put_row ns i d ys) ≡ position (λ n. eq K (K.value n.0) v) ns
position_put {N} K v d ns i ys =
    let p : N → Bool = λ n. eq K (K.value n) v in
    sym (position_map p (λ n. n.0) (put_row ns i d ys))
    ∙ ap (position p) (kept (λ n. n.0) ns i ((get_or ns i (d, [])).0, ys) (d, []) refl)
    ∙ position_map p (λ n. n.0) ns

-- a node more, with an empty row
module _ {N : Type 0} (d : N) (ns : List (N × List ℕ)) (n : N) where
  pub standing_more : (x : ℕ) → standing x (ns ++ (n, []) ∷ []) ≡ standing x ns
  standing_more x = let t = tally_push (λ y. count x y.1) ns (n, []) in omega arith

  pub owned_more : {V : Type 0} (K : Keys N V) (ks : List N) → Owned K d ks ns → Owned K d ks (ns ++ (n, []) ∷ [])
  owned_more K ks O i c l h =
      ⊎_elim
      (λ m. let e = get_or_append_left ns ((n, []) ∷ []) (d, []) i m in
      subst (λ x. named K d ks (twin c) ≡ K.value x.0) (sym e) (O i c m (subst (λ x. 1 ≤ count c x.1) e h)))
      (λ m. let e = get_or_push ns (n, []) (d, []) i (omega (arith, length_push ns (n, []))) in
      absurd (let no : 1 ≤ 0 = subst (λ x. 1 ≤ count c x.1) e h in omega arith))
      (cases_lt i (length ns))

  pub noded_more : (ks : List N) → noded ks (ns ++ (n, []) ∷ []) ≡ noded ks ns ++ (n, []) ∷ []
  noded_more ks = map-append _ ns ((n, []) ∷ []) ∙ ap (λ r. noded ks ns ++ (n, r) ∷ []) (told_none ks)

-- a cell that stands is in the row of some node, the one that its twin names
pub held_in : {N V : Type 0} (K : Keys N V) (d : N) (ks : List N) (ns : List (N × List ℕ)) (c : ℕ) → Owned K d ks ns → 1 ≤ standing c ns
    → (i : ℕ) × (i < length ns) × (1 ≤ count c (row_at ns i d)) × (named K d ks (twin c) ≡ K.value (get_or ns i (d, [])).0)
held_in K d ks ns c O h =
    let s = tally_some (λ n. count c n.1) ns h in
    (s.0, s.1, s.2 (d, []), O s.0 c s.1 (s.2 (d, [])))
