-- A node is sought in the table and, where it is absent, put at its end.
use Rattle.std.proofs.Common.{◌≤◌, ◌≡◌, ℕ, ◌+◌, Bool, not, List, [], ◌∷◌, ◌++◌, length, Some, None, Ok, Err, Option, Result, Ordering, sym, refl, ap, ◌∙◌, subst, ⊎_elim, arith}
use Rattle.std.proofs.lemmas.List.{get_or_append_left, get_or_push, length_push, map-append}
use Rattle.std.proofs.lemmas.Bool.{cases_lt, cond-true, cond-false}
use Rattle.std.specs.Result.{result_ok}
use Rattle.keys.specs.Order.{Laws}
use Rattle.lists.specs.Positions.{position}
use Rattle.lists.proofs.Positions.{position_at, none_passes}
use Rattle.table.specs.declared.table.Vacancy.{Vacancy}
use Rattle.table.specs.Content.{Content, Apart}
use Rattle.table.specs.Tables.{found}
use Rattle.model.specs.Keys.{Keys, keys, eq}
use Rattle.model.specs.Lists.{bit, some}
use Rattle.model.specs.Lists.{found as found_first}
use Rattle.model.specs.Maps.{is_node, has_node, seated, absent}
use Rattle.model.proofs.Tests.{eq_itself, other_eq}
use Rattle.model.proofs.Positions.{position_map, position_push, found_at, found_none}
use Rattle.rows.specs.declared.cells.Cell.{Cell}
use Rattle.rows.specs.declared.cells.RowHead.{RowHead}
use Rattle.rows.specs.Links.{bare, Linked}
use Rattle.rows.proofs.Lists.{bare_linked}
use Rattle.halfedges.specs.Cells.{standing, noded, Owned}
use Rattle.halfedges.proofs.Rows.{standing_more, owned_more, noded_more}
use Rattle.adjacency.specs.Stages.{NodeRows, rowed, rows_of, keys_of, Rings, Stage}
use Rattle.adjacency.specs.Seats.{vacant, seat_by, seated_in}

-- what a table's search tells
pub found_vacant : (o : Option ℕ) (w v : Vacancy) → found o w ≡ Err v → o ≡ None
found_vacant None w v e = refl
found_vacant (Some i) w v e = let z : ◌≡◌ {A = ℕ} 0 1 = cc in absurd (omega arith)

pub found_ok : (o : Option ℕ) (w : Vacancy) (i : ℕ) → found o w ≡ Ok i → o ≡ Some i
found_ok None w i e = let z : ◌≡◌ {A = ℕ} 0 1 = cc in absurd (omega arith)
found_ok (Some j) w i e = ap Some (cc)

-- what `ok` makes of it
pub ok_found : (o : Option ℕ) (w : Vacancy) {r : Result ℕ Vacancy} {p : Option ℕ} → r ≡ found o w → p ≡ result_ok r → o ≡ p
ok_found None w e f = sym (f ∙ ap result_ok e)
ok_found (Some i) w e f = sym (f ∙ ap result_ok e)

pub vacant_none : (o : Option ℕ) (w : Vacancy) → vacant (found o w) ≡ bit (not (some o))
vacant_none None w = refl
vacant_none (Some i) w = refl

-- whether there is one is told by the position
pub some_found : {X : Type 0} (p : X → Bool) (xs : List X) → some (found_first p xs) ≡ some (position p xs)
some_found {X} p xs = by (position p xs) refl
  where
    by : (o : Option ℕ) → position p xs ≡ o → some (found_first p xs) ≡ some (position p xs)
    by None e = ap some (found_none p xs e) ∙ sym (ap some e)
    by (Some i) e = there xs i e
      where
        there : (ys : List X) (i : ℕ) → position p ys ≡ Some i → some (found_first p ys) ≡ some (position p ys)
        there [] i e = let z : ◌≡◌ {A = ℕ} 0 1 = cc in absurd (omega arith)
        there (y ∷ ys) i e = ap some (found_at p (y ∷ ys) i y e) ∙ sym (ap some e)

module _ {N V : Type 0} (K : Keys N V) where
  -- a node is found in the lists where it is found in the table
  pub node_position : (v : V) (ks : List N) (mem : List (Cell N)) (es : List (N × RowHead)) → position (is_node K v) (noded ks (rowed mem es)) ≡ position (λ e. eq K (K.value e.0) v) es
  node_position v ks mem es = position_map (is_node K v) _ (rowed mem es) ∙ position_map (λ x. eq K (K.value x.0) v) _ es

  pub has_position : (v : V) (ks : List N) (mem : List (Cell N)) (es : List (N × RowHead)) → has_node K v (noded ks (rowed mem es)) ≡ some (position (λ e. eq K (K.value e.0) v) es)
  has_position v ks mem es = some_found (is_node K v) (noded ks (rowed mem es)) ∙ ap some (node_position v ks mem es)

  pub vacant_absent : (n : N) (w : Vacancy) (ks : List N) (mem : List (Cell N)) (es : List (N × RowHead)) → vacant (found (position (λ e. eq K (K.value e.0) (K.value n)) es) w) ≡ absent K n (noded ks (rowed mem es))
  vacant_absent n w ks mem es = vacant_none (position (λ e. eq K (K.value e.0) (K.value n)) es) w ∙ sym (ap (λ b. bit (not b)) (has_position (K.value n) ks mem es))

-- the rows beside a node more
pub rowed_more : {N : Type 0} (mem : List (Cell N)) (es : List (N × RowHead)) (n : N) → rowed mem (es ++ (n, bare) ∷ []) ≡ rowed mem es ++ (n, []) ∷ []
rowed_more mem es n = map-append _ es ((n, bare) ∷ [])

module _ {N V : Type 0} (K : Keys N V) (n : N) (mem : List (Cell N)) (es : List (N × RowHead)) where
  abbrev spot : Option ℕ
  spot = position (λ e. eq K (K.value e.0) (K.value n)) es

  pub seated_noded : (ks : List N) → noded ks (rowed mem (seated_in K n es)) ≡ seated K n (noded ks (rowed mem es))
  seated_noded ks = by spot refl
    where
      by : (o : Option ℕ) → spot ≡ o → noded ks (rowed mem (seated_in K n es)) ≡ seated K n (noded ks (rowed mem es))
      by None e =
          ap (λ o. noded ks (rowed mem (seat_by o n es))) e ∙ ap (noded ks) (rowed_more mem es n) ∙ noded_more n (rowed mem es) n ks
          ∙ sym (cond-false _ _ _ (has_position K (K.value n) ks mem es ∙ ap some e))
      by (Some i) e =
          ap (λ o. noded ks (rowed mem (seat_by o n es))) e ∙ sym (cond-true _ _ _ (has_position K (K.value n) ks mem es ∙ ap some e))

  pub seated_rings : Rings mem es → Rings mem (seated_in K n es)
  seated_rings R = by spot
    where
      by : (o : Option ℕ) → Rings mem (seat_by o n es)
      by None = λ i e l.
          ⊎_elim
          (λ m. subst (λ x. Linked mem x.1) (sym (get_or_append_left es ((n, bare) ∷ []) e i m)) (R i e m))
          (λ m. subst (λ x. Linked mem x.1) (sym (get_or_push es (n, bare) e i (omega (arith, length_push es (n, bare))))) (bare_linked mem))
          (cases_lt i (length es))
      by (Some i) = R

  pub seated_standing : (x : ℕ) → standing x (rowed mem (seated_in K n es)) ≡ standing x (rowed mem es)
  seated_standing x = by spot
    where
      by : (o : Option ℕ) → standing x (rowed mem (seat_by o n es)) ≡ standing x (rowed mem es)
      by None = ap (standing x) (rowed_more mem es n) ∙ standing_more n (rowed mem es) n x
      by (Some i) = refl

  pub seated_owned : (d : N) (ks : List N) → Owned K d ks (rowed mem es) → Owned K d ks (rowed mem (seated_in K n es))
  seated_owned d ks O = by spot
    where
      by : (o : Option ℕ) → Owned K d ks (rowed mem (seat_by o n es))
      by None = subst (Owned K d ks) (sym (rowed_more mem es n)) (owned_more d (rowed mem es) n K ks O)
      by (Some i) = O

module _ {N V : Type 0} (K : Keys N V) (n : N) (es : List (N × RowHead)) where
  abbrev sought_at : Option ℕ
  sought_at = position (λ e. eq K (K.value e.0) (K.value n)) es

  pub seated_length : (w : Vacancy) → length (seated_in K n es) ≡ length es + vacant (found sought_at w)
  seated_length w = by sought_at
    where
      by : (o : Option ℕ) → length (seat_by o n es) ≡ length es + vacant (found o w)
      by None = length_push es (n, bare)
      by (Some i) = omega arith

  -- where it is in the end
  pub seated_place : Laws K.order → sought_at ≡ None → position (λ e. eq K (K.value e.0) (K.value n)) (seated_in K n es) ≡ Some (length es)
  seated_place laws e =
      let p : N × RowHead → Bool = λ x. eq K (K.value x.0) (K.value n) in
      ap (λ o. position p (seat_by o n es)) e
      ∙ position_at p (es ++ (n, bare) ∷ []) (length es) (n, bare) (omega (arith, length_push es (n, bare)))
      (ap p (get_or_push es (n, bare) (n, bare) (length es) refl) ∙ eq_itself K laws (K.value n))
      (λ j l. ap p (get_or_append_left es ((n, bare) ∷ []) (n, bare) j l) ∙ none_passes p es e j (n, bare) l)

  -- and another key is found as before
  pub seated_other : Laws K.order → (v : V) → (K.value n ≡ v → ⊥) → position (λ e. eq K (K.value e.0) v) (seated_in K n es) ≡ position (λ e. eq K (K.value e.0) v) es
  seated_other laws v ne = by sought_at
    where
      by : (o : Option ℕ) → position (λ e. eq K (K.value e.0) v) (seat_by o n es) ≡ position (λ e. eq K (K.value e.0) v) es
      by None = position_push (λ e. eq K (K.value e.0) v) es (n, bare) (other_eq K laws (K.value n) v ne)
      by (Some i) = refl

-- the nodes r with one more where it was absent: r'
module _ {N V : Type 0} (K : Keys N V) (n : N) (r r' : NodeRows N) (cells : r'.cells ≡ r.cells) (seat : r'.nodes.entries ≡ seated_in K n r.nodes.entries) where
  rows_then : rows_of r' ≡ rowed r.cells (seated_in K n r.nodes.entries)
  rows_then i = rowed (cells i) (seat i)

  pub noded_then : (ks : List N) → noded ks (rows_of r') ≡ seated K n (noded ks (rows_of r))
  noded_then ks = ap (noded ks) rows_then ∙ seated_noded K n r.cells r.nodes.entries ks

  pub standing_then : (x : ℕ) → standing x (rows_of r') ≡ standing x (rows_of r)
  standing_then x = ap (standing x) rows_then ∙ seated_standing K n r.cells r.nodes.entries x

-- they fit their rows
pub seated_stage : {N V : Type 0} {value : N → V} {order : V → V → Ordering} (n : N) {r : NodeRows N} (nodes' : Content N RowHead) → Stage value order r
    → nodes'.entries ≡ seated_in (keys value order) n r.nodes.entries → Apart value nodes'.entries → length nodes'.entries ≤ nodes'.room
    → Stage value order (record { nodes = nodes'; cells = r.cells })
seated_stage {value = value} {order = order} n {r} nodes' s e apart fits =
    let K = keys value order in
    record {
      apart = apart;
      fits = fits;
      small = s.small;
      rings = subst (Rings r.cells) (sym e) (seated_rings K n r.cells r.nodes.entries s.rings);
      alone = λ x. let q = ap (λ es. standing x (rowed r.cells es)) e in let z = seated_standing K n r.cells r.nodes.entries x in omega (arith, s.alone x);
      owned = λ d. subst (λ es. Owned K d (keys_of r) (rowed r.cells es)) (sym e) (seated_owned K n r.cells r.nodes.entries d (keys_of r) (s.owned d));
    }
