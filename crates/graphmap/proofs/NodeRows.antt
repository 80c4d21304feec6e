-- The head that a node is found to have, and the row of the node.
use Rattle.std.proofs.Common.{◌≡◌, ℕ, ◌<◌, ◌≤◌, Bool, List, [], map, length, get_or, Some, None, Err, Option, unwrap_or, sym, refl, ap, ◌∙◌, subst, arith}
use Rattle.std.specs.Option.{option_map}
use Rattle.std.proofs.lemmas.List.{length-map}
use Rattle.keys.specs.Order.{Laws}
use Rattle.table.specs.declared.table.Vacancy.{Vacancy}
use Rattle.table.specs.Tables.{found as answered}
use Rattle.model.specs.Keys.{Keys, eq}
use Rattle.model.specs.Lists.{found}
use Rattle.model.specs.Maps.{Node, is_node, row, row_in}
use Rattle.model.specs.Questions.{degree_in}
use Rattle.model.proofs.Tests.{eq_true}
use Rattle.rows.specs.declared.cells.Cell.{Cell}
use Rattle.rows.specs.declared.cells.RowHead.{RowHead}
use Rattle.rows.specs.Links.{bare, cell_keys, listed, Linked}
use Rattle.rows.specs.HalfEdges.{twin, told}
use Rattle.rows.proofs.Lists.{bare_linked, listed_length}
use Rattle.halfedges.specs.Cells.{count, standing, noded, row_at, named, Owned}
use Rattle.halfedges.proofs.Counts.{count_holds}
use Rattle.halfedges.proofs.Rows.{stands_in_row}
use Rattle.halfedges.proofs.Told.{entry, told_is, told_none}
use Rattle.adjacency.specs.Stages.{rowed, Rings}
use Rattle.adjacency.proofs.Entries.{rowed_length, row_read}
use Rattle.adjacency.specs.Heads.{head_of, row_of}
use Rattle.graphmap.proofs.Lists.{mapped_mapped, found_map, found_there}

-- a search that was answered with a vacancy
pub absent_place : (o : Option ℕ) (w v : Vacancy) → Err v ≡ answered o w → o ≡ None
absent_place None w v e = refl
absent_place (Some i) w v e = let z : ◌≡◌ {A = ℕ} 0 1 = cc in let no : ⊥ = omega arith in absurd no

-- a cell of a row is in the memory
pub cell_within : {N : Type 0} (mem : List (Cell N)) (h : RowHead) → Linked mem h → (x : ℕ) → 1 ≤ count x (listed mem h) → x < length mem
cell_within mem h linked x o = let s = count_holds x (listed mem h) o in omega (arith, s.2, linked.ring.within s.0 s.1)

-- the entries of a row are those of its cells, by any default
pub told_row : {N : Type 0} (e : N) (mem : List (Cell N)) (h : RowHead) → Linked mem h → told (cell_keys mem) (listed mem h) ≡ map (entry e (cell_keys mem)) (listed mem h)
told_row e mem h linked = told_is e (cell_keys mem) (listed mem h) (λ x o. omega (arith, length-map mem (λ c. c.key), cell_within mem h linked x o))

-- whether an entry of the node table has the value v
abbrev pub hit : {N V : Type 0} → Keys N V → V → N × RowHead → Bool
hit K v e = eq K (K.value e.0) v

module _ {N V : Type 0} (K : Keys N V) (v : V) (mem : List (Cell N)) (es : List (N × RowHead)) where
  -- what is known of the head of v's row
  pub record Headed (h : RowHead) : Type 0 where
    pub linked : Linked mem h
    pub entries : row K v (noded (cell_keys mem) (rowed mem es)) ≡ told (cell_keys mem) (listed mem h)
    pub stands : (x : ℕ) → 1 ≤ count x (listed mem h) → 1 ≤ standing x (rowed mem es)
    pub own : (d : N) (x : ℕ) → 1 ≤ count x (listed mem h) → named K d (cell_keys mem) (twin x) ≡ v

  abbrev told_node : N × RowHead → Node N
  told_node e = (e.0, told (cell_keys mem) (listed mem e.1))

  node_found : found (is_node K v) (noded (cell_keys mem) (rowed mem es)) ≡ option_map told_node (found (hit K v) es)
  node_found =
      let f : N × List ℕ → Node N = λ n. (n.0, told (cell_keys mem) n.1) in
      let h : N × RowHead → N × List ℕ = λ e. (e.0, listed mem e.1) in
      found_map f (is_node K v) (rowed mem es)
      ∙ ap (option_map f) (found_map h (λ n. is_node K v (f n)) es)
      ∙ mapped_mapped f h (found (hit K v) es)

  module _ (laws : Laws K.order) (rings : Rings mem es) (owned : (d : N) → Owned K d (cell_keys mem) (rowed mem es)) where
    present : (e : N × RowHead) → found (hit K v) es ≡ Some e → Headed e.1
    present e q =
        let f = found_there (hit K v) es e q in
        let i = f.0 in
        let li : i < length (rowed mem es) = omega (arith, f.1, rowed_length mem es) in
        let is : (d : N) → get_or (rowed mem es) i (d, []) ≡ (e.0, listed mem e.1) =
        λ d. row_read mem es i (d, bare) f.1 ∙ ap (λ z. (z.0, listed mem z.1)) (f.2 (d, bare)) in
        let in_row : (d : N) (x : ℕ) → 1 ≤ count x (listed mem e.1) → 1 ≤ count x (row_at (rowed mem es) i d) =
        λ d x o. subst (λ n. 1 ≤ count x n.1) (sym (is d)) o in
        record {
          linked = subst (λ z. Linked mem z.1) (f.2 e) (rings i e f.1);
          entries = ap (row_in K) (node_found ∙ ap (option_map told_node) q);
          stands = λ x o. stands_in_row e.0 (rowed mem es) i x li (in_row e.0 x o);
          own = λ d x o. owned d i x li (in_row d x o) ∙ ap (λ n. K.value n.0) (is d) ∙ eq_true K laws _ _ f.3;
        }

    absent : found (hit K v) es ≡ None → Headed bare
    absent q = record {
      linked = bare_linked mem;
      entries = ap (row_in K) (node_found ∙ ap (option_map told_node) q) ∙ sym (told_none (cell_keys mem));
      stands = λ x o. absurd (omega arith);
      own = λ d x o. absurd (omega arith);
    }

    pub headed : Headed (row_of K v es)
    headed = by (found (hit K v) es) refl
      where
        by : (o : Option (N × RowHead)) → found (hit K v) es ≡ o → Headed (unwrap_or (option_map (λ e. e.1) o) bare)
        by None q = absent q
        by (Some e) q = present e q

    -- the length in a head is the number of the entries
    pub degree_is : option_map (λ h. h.len) (head_of K v es) ≡ degree_in (found (is_node K v) (noded (cell_keys mem) (rowed mem es)))
    degree_is = by (found (hit K v) es) refl ∙ sym (ap degree_in node_found)
      where
        long : (h : RowHead) → Linked mem h → (e : N) → h.len ≡ length (told (cell_keys mem) (listed mem h))
        long h linked e = sym (ap length (told_row e mem h linked) ∙ length-map (listed mem h) _ ∙ listed_length mem h)

        by : (o : Option (N × RowHead)) → found (hit K v) es ≡ o → option_map (λ h. h.len) (option_map (λ e. e.1) o) ≡ degree_in (option_map told_node o)
        by None q = refl
        by (Some e) q = ap Some (long e.1 (present e q).linked e.0)
