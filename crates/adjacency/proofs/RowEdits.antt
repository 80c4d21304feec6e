-- A row is read, edited in the memory and written back: what the rows are then, and that they fit one another.
use Rattle.std.proofs.Common.{◌≡◌, ◌⊎◌, ℕ, ◌<◌, ◌≤◌, List, [], ◌∷◌, length, get_or, set, Option, Ordering, sym, ap, ◌∙◌, subst, ⊎_elim, arith}
use Rattle.std.proofs.lemmas.List.{length-set, length-map, get_or_default}
use Rattle.table.specs.Tables.{replaced}
use Rattle.table.proofs.Apart.{apart_set}
use Rattle.model.specs.Keys.{Keys, keys}
use Rattle.rows.specs.declared.cells.RowHead.{RowHead}
use Rattle.rows.specs.Rings.{none, Apart, Holds}
use Rattle.rows.specs.HalfEdges.{twin}
use Rattle.rows.specs.Links.{bare, listed, Linked, Kept}
use Rattle.rows.proofs.Lists.{same_long, listed_length}
use Rattle.halfedges.specs.Cells.{count, standing, named, row_at, put_row, Owned}
use Rattle.halfedges.proofs.Counts.{count_apart, count_holds}
use Rattle.halfedges.proofs.Rows.{standing_put, owned_put}
use Rattle.adjacency.specs.Stages.{NodeRows, Stage, Rings, rowed, rows_of, keys_of}
use Rattle.adjacency.proofs.Entries.{some_of, row_read, rowed_length, value_put}
use Rattle.adjacency.proofs.Frames.{edited_rings, edited_rows, off_row, off_more, fresh_count, roomy}

-- a cell of the list zs, put in place of the row at i, has been no less often in that row, or is new, and the node's own
abbrev pub Gained : {N V : Type 0} → Keys N V → N → List N → List (N × List ℕ) → ℕ → List ℕ → ℕ → Type 0
Gained K d ks ns i zs x =
    (count x zs ≤ count x (row_at ns i d))
    ⊎ ((standing x ns ≡ 0) × (count x zs ≤ 1) × (named K d ks (twin x) ≡ K.value (get_or ns i (d, [])).0))

module _ {N V : Type 0} (K : Keys N V) (d : N) (ks : List N) (ns : List (N × List ℕ)) (i : ℕ) (zs : List ℕ) (li : i < length ns)
    (gained : (x : ℕ) → Gained K d ks ns i zs x) where
  put_alone : ((x : ℕ) → standing x ns ≤ 1) → (x : ℕ) → standing x (put_row ns i d zs) ≤ 1
  put_alone alone x =
      let t = standing_put d ns i li zs x in
      ⊎_elim (λ f. omega (arith, alone x)) (λ f. omega (arith, f.0, f.1)) (gained x)

  put_owned : Owned K d ks ns → Owned K d ks (put_row ns i d zs)
  put_owned O = owned_put d ns i li zs K ks O (λ x h. ⊎_elim (λ f. O i x li (omega arith)) (λ f. f.2) (gained x))

-- the row at i was read, whose head is h, in what was opened as r
pub record Opened {N V : Type 0} (value : N → V) (order : V → V → Ordering) (r now : NodeRows N) (i : ℕ) (h : RowHead) : Type 0 where
  pub is : r ≡ now
  pub stage : Stage value order r
  pub place : i < length now.nodes.entries
  pub read : (e : N × RowHead) → h ≡ (get_or r.nodes.entries i e).1

pub opened : {N V : Type 0} {value : N → V} {order : V → V → Ordering} {r now : NodeRows N} {i : ℕ} {h : RowHead} → r ≡ now → Stage value order r → i < length now.nodes.entries
    → ((e : N × RowHead) → h ≡ (get_or r.nodes.entries i e).1) → Opened value order r now i h
opened is stage place read = record { is = is; stage = stage; place = place; read = read }

-- its cells are zs then
pub record Edited {N V : Type 0} (value : N → V) (order : V → V → Ordering) (now r' : NodeRows N) (i : ℕ) (zs : N → List ℕ) : Type 0 where
  pub stage : Stage value order r'
  pub room : r'.nodes.room ≡ now.nodes.room
  pub keys : keys_of r' ≡ keys_of now
  pub rows : (d : N) → rows_of r' ≡ put_row (rows_of now) i d (zs d)

module _ {N V : Type 0} {value : N → V} {order : V → V → Ordering} {r now : NodeRows N} {i : ℕ} {h : RowHead} (o : Opened value order r now i h) where
  here : i < length r.nodes.entries
  here = subst (λ z. i < length z.nodes.entries) (sym o.is) o.place

  pub place_row : i < length (rows_of now)
  place_row = omega (arith, o.place, rowed_length now.cells now.nodes.entries)

  row_is : (d : N) → get_or (rows_of r) i (d, []) ≡ ((get_or r.nodes.entries i (d, bare)).0, listed r.cells h)
  row_is d =
      row_read r.cells r.nodes.entries i (d, bare) here ∙ ap (λ z. ((get_or r.nodes.entries i (d, bare)).0, listed r.cells z)) (sym (o.read (d, bare)))

  pub row_was : (d : N) → row_at (rows_of now) i d ≡ listed r.cells h
  row_was d = ap (λ z. row_at (rows_of z) i d) (sym o.is) ∙ ap (λ n. n.1) (row_is d)

  pub head_linked : Linked r.cells h
  head_linked = let e = some_of r.nodes.entries i here in subst (Linked r.cells) (sym (o.read e)) (o.stage.rings i e here)

  nowhere : (c : ℕ) → standing c (rows_of now) ≡ 0 → standing c (rows_of r) ≡ 0
  nowhere c fresh = ap (λ z. standing c (rows_of z)) o.is ∙ fresh

  -- a cell that stands nowhere is not in it, and it has room for that
  pub head_fresh : (c : ℕ) → standing c (rows_of now) ≡ 0 → Apart c (listed r.cells h)
  head_fresh c fresh =
      let e = some_of r.nodes.entries i here in
      count_apart c (listed r.cells h) (ap (λ w. count c (listed r.cells w)) (o.read e) ∙ fresh_count r.cells r.nodes.entries e c (nowhere c fresh) i here)

  pub cell_in : (c : ℕ) → c < length (keys_of now) → c < length r.cells
  cell_in c l = omega (arith, length-map now.cells (λ x. x.key), ap (λ z. length z.cells) o.is)

  pub head_room : (c : ℕ) → c < length (keys_of now) → standing c (rows_of now) ≡ 0 → h.len < none
  head_room c within fresh =
      let e = some_of r.nodes.entries i here in
      subst (λ w. w.len < none) (sym (o.read e)) (roomy r.cells r.nodes.entries i here o.stage.alone o.stage.small o.stage.rings c (cell_in c within) (nowhere c fresh) e)

  -- a cell that its row has
  pub head_held : (c : ℕ) → ((d : N) → 1 ≤ count c (row_at (rows_of now) i d)) → Holds c (listed r.cells h)
  head_held c held =
      let e = some_of r.nodes.entries i here in
      count_holds c (listed r.cells h) (subst (λ xs. 1 ≤ count c xs) (row_was e.0) (held e.0))

  pub head_some : ((d : N) → 0 < length (row_at (rows_of now) i d)) → 0 < h.len
  head_some some =
      let e = some_of r.nodes.entries i here in
      omega (arith, some e.0, ap length (row_was e.0), listed_length r.cells h)

  -- the cells of the other rows are apart from it
  abbrev pub OthersOff : List ℕ → Type 0
  OthersOff ys = (j : ℕ) (e : N × RowHead) → j < length r.nodes.entries → (j ≡ i → ⊥) → (c : ℕ) → 1 ≤ count c (listed r.cells (get_or r.nodes.entries j e).1) → Apart c ys

  pub off_here : OthersOff (listed r.cells h)
  off_here = off_row r.cells r.nodes.entries o.stage.alone i here h o.read

  pub off_new : (c : ℕ) → standing c (rows_of now) ≡ 0 → OthersOff (c ∷ listed r.cells h)
  off_new c fresh = off_more r.cells r.nodes.entries o.stage.alone i here h o.read c (nowhere c fresh)

  -- the head is h' then, and ys are the cells that may have been written
  module _ (r' : NodeRows N) {h' : RowHead} {ys : List ℕ} {was : Option RowHead}
      (done : (was, r'.nodes.entries) ≡ replaced r.nodes.entries i h') (room : r'.nodes.room ≡ r.nodes.room)
      (linked : Linked r'.cells h') (kept : Kept r.cells r'.cells ys) (off : OthersOff ys) where
    put : (e : N × RowHead) → r'.nodes.entries ≡ set r.nodes.entries i ((get_or r.nodes.entries i e).0, h')
    put = value_put r.nodes.entries r'.nodes.entries i h' _ done here

    row_put : (d : N) → rows_of r' ≡ put_row (rows_of now) i d (listed r'.cells h')
    row_put d =
        let e : N × RowHead = (d, bare) in
        ap (rowed r'.cells) (put e)
        ∙ edited_rows r.cells r'.cells r.nodes.entries i (get_or r.nodes.entries i e).0 h' ys o.stage.small o.stage.rings here kept linked off
        ∙ sym (ap (λ v. set (rows_of r) i (v.0, listed r'.cells h')) (row_is d))
        ∙ ap (λ z. put_row (rows_of z) i d (listed r'.cells h')) o.is

    pub edited : (zs : N → List ℕ) → ((d : N) → listed r'.cells h' ≡ zs d) → ((d : N) (x : ℕ) → Gained (keys value order) d (keys_of now) (rows_of now) i (zs d) x) → Edited value order now r' i zs
    edited zs list gained =
        let K : Keys N V = keys value order in
        let e = some_of r.nodes.entries i here in
        let s : Stage value order r = o.stage in
        let t : Stage value order now = subst (Stage value order) o.is s in
        let keys_same : keys_of r' ≡ keys_of now = kept.keys ∙ ap keys_of o.is in
        let rows : (d : N) → rows_of r' ≡ put_row (rows_of now) i d (zs d) = λ d. row_put d ∙ ap (put_row (rows_of now) i d) (list d) in
        record {
          stage = record {
            apart = rw (put e) (apart_set value r.nodes.entries i (get_or r.nodes.entries i e).0 h' (λ d. ap (λ z. z.0) (get_or_default r.nodes.entries i e d here)) s.apart);
            fits = let n = ap length (put e) ∙ length-set r.nodes.entries i ((get_or r.nodes.entries i e).0, h') in omega (arith, s.fits, room);
            small = omega (arith, s.small, same_long (λ c. c.key) r.cells r'.cells kept.keys);
            rings = subst (Rings r'.cells) (sym (put e)) (edited_rings r.cells r'.cells r.nodes.entries i (get_or r.nodes.entries i e).0 h' ys s.small s.rings here kept linked off);
            alone = rw (rows e.0) (put_alone K e.0 (keys_of now) (rows_of now) i (zs e.0) place_row (gained e.0) t.alone);
            owned = λ d.
                subst (λ ks. Owned K d ks (rows_of r')) (sym keys_same)
                (rw (rows d) (put_owned K d (keys_of now) (rows_of now) i (zs d) place_row (gained d) (t.owned d)));
          };
          room = room ∙ ap (λ z. z.nodes.room) o.is;
          keys = keys_same;
          rows = rows;
        }
