-- The keys of a link's cells are written while the cells stand nowhere: every row stays as it is, and is told alike.
use Rattle.std.proofs.Common.{◌≡◌, ℕ, ◌/◌, ◌<◌, ◌≤◌, List, map, length, get_or, Ordering, sym, ap, ◌∙◌, subst, arith}
use Rattle.std.proofs.lemmas.List.{length-map}
use Rattle.model.specs.Keys.{keys}
use Rattle.model.proofs.Tallies.{tally_some}
use Rattle.rows.specs.declared.cells.Cell.{Cell}
use Rattle.rows.specs.HalfEdges.{twin}
use Rattle.rows.specs.Links.{cell_keys, nexts, prevs, walk}
use Rattle.rows.proofs.Lists.{same_long}
use Rattle.rows.proofs.Frames.{rekeyed_linked}
use Rattle.halfedges.specs.Cells.{count, standing, noded, wrote, Owned}
use Rattle.halfedges.proofs.Counts.{count_holds}
use Rattle.halfedges.proofs.Rows.{stands_in_row}
use Rattle.halfedges.proofs.Stands.{key_other, length_wrote}
use Rattle.halfedges.proofs.Told.{noded_agree}
use Rattle.adjacency.specs.Stages.{NodeRows, Stage, rows_of, keys_of}
use Rattle.adjacency.proofs.Entries.{some_of, row_read, rowed_length}

-- a cell that stands is in the memory
pub stands_within : {N V : Type 0} {value : N → V} {order : V → V → Ordering} {r : NodeRows N} → Stage value order r → (x : ℕ) → 1 ≤ standing x (rows_of r) → x < length r.cells
stands_within {r = r} s x h =
    let t = tally_some (λ n. count x n.1) (rows_of r) h in
    let l : t.0 < length r.nodes.entries = omega (arith, t.1, rowed_length r.cells r.nodes.entries) in
    let e = some_of r.nodes.entries t.0 l in
    let o = count_holds x _ (subst (λ n. 1 ≤ count x n.1) (row_read r.cells r.nodes.entries t.0 e l) (t.2 (e.0, _))) in
    omega (arith, o.2, (s.rings t.0 e l).ring.within o.0 o.1)

-- the keys of the link p are a and b then, and the rows are as they were
pub record Still {N V : Type 0} (value : N → V) (order : V → V → Ordering) (r r' : NodeRows N) (p : ℕ) (a b : N) : Type 0 where
  pub stage : Stage value order r'
  pub keys : keys_of r' ≡ wrote (keys_of r) p a b
  pub rows : rows_of r' ≡ rows_of r
  pub told : noded (keys_of r') (rows_of r') ≡ noded (keys_of r) (rows_of r)

module _ {N V : Type 0} {value : N → V} {order : V → V → Ordering} {r : NodeRows N} (s : Stage value order r) (mem' : List (Cell N)) (p : ℕ) (a b : N)
    (en : nexts mem' ≡ nexts r.cells) (ep : prevs mem' ≡ prevs r.cells) (ek : cell_keys mem' ≡ wrote (keys_of r) p a b)
    (off : (x : ℕ) → x / 2 ≡ p → standing x (rows_of r) ≡ 0) where
  abbrev then : NodeRows N
  then = record { nodes = r.nodes; cells = mem' }

  not_here : (x : ℕ) → 1 ≤ standing x (rows_of r) → x / 2 ≡ p → ⊥
  not_here x h e = let z = off x e in let no : ⊥ = omega arith in no

  pub rows_still : rows_of then ≡ rows_of r
  rows_still = ap (λ ns. map (λ e. (e.0, walk (λ x. get_or ns x 0) e.1.first e.1.len)) r.nodes.entries) en

  pub standing_still : (x : ℕ) → standing x (rows_of then) ≡ standing x (rows_of r)
  standing_still x = ap (standing x) rows_still

  owned_still : (d : N) → Owned (keys value order) d (keys_of then) (rows_of r)
  owned_still d =
      subst (λ ks. Owned (keys value order) d ks (rows_of r)) (sym ek)
      (λ i c l h.
      let u = stands_in_row d (rows_of r) i c l h in
      ap value (key_other d (keys_of r) p a b (twin c) (λ e. not_here c u (omega arith))) ∙ s.owned d i c l h)

  pub stage_still : Stage value order then
  stage_still = record {
    apart = s.apart;
    fits = s.fits;
    small = omega (arith, s.small, same_long (λ c. c.next) r.cells mem' en);
    rings = λ i e l. rekeyed_linked r.cells mem' (get_or r.nodes.entries i e).1 en ep (s.rings i e l);
    alone = λ x. rw rows_still (s.alone x);
    owned = λ d. rw rows_still (owned_still d);
  }

  pub noded_still : noded (keys_of then) (rows_of then) ≡ noded (keys_of r) (rows_of r)
  noded_still =
      (λ i. noded (ek i) (rows_still i))
      ∙ noded_agree a (keys_of r) (wrote (keys_of r) p a b) (rows_of r)
      (λ x h.
      let l : x < length (keys_of r) = omega (arith, length-map r.cells (λ c. c.key), stands_within s x h) in
      (l, omega (arith, length_wrote a (keys_of r) p a b), key_other a (keys_of r) p a b x (not_here x h)))

  pub written : Still value order r then p a b
  written = record { stage = stage_still; keys = ek; rows = rows_still; told = noded_still }
