use Rattle.std.proofs.Common.{◌≡◌, ◌<◌, [], ◌∷◌, ◌++◌, length, get_or, sym, ap, ◌∙◌, arith}
use Rattle.lists.specs.Positions.{position}
use Rattle.lists.proofs.Positions.{found_within}
use Rattle.table.specs.Tables.{found, vacancy}
use Rattle.model.specs.Keys.{keys, eq}
use Rattle.model.specs.Maps.{at_row}
use Rattle.model.proofs.Positions.{position_map}
use Rattle.rows.specs.HalfEdges.{side, twin}
use Rattle.rows.specs.Links.{cell_keys}
use Rattle.halfedges.specs.Cells.{standing, named, noded, row_at}
use Rattle.halfedges.proofs.Rows.{length_put, noded_at_row, position_put}
use Rattle.halfedges.proofs.Told.{told_push}
use Rattle.adjacency.specs.Stages.{NodeRows, rows_of, keys_of}
use Rattle.adjacency.specs.Seats.{vacant}
use Rattle.adjacency.proofs.Entries.{rowed_length}
use Rattle.adjacency.proofs.Gains.{pushed_standing}
use Rattle.adjacency.proofs.Owners.{owner_at}
use Rattle.adjacency.proofs.Seating.{node_position, noded_then, standing_then, seated_length, seated_other}
use Rattle.adjacency.proofs.adjacency.NodesWithRows.note.Goals as goal

pub enter-requires : goal.enter-requires
enter-requires g c =
    let K = keys g.N.Compare.value g.N.Compare.order in
    let s = c.seat-i.ensures in
    let r₁ : NodeRows g.row.N.Denot = c.seat-i.new.self in
    let keys_same : keys_of r₁ ≡ keys_of c.args.self.now = ap cell_keys s.cells in
    record {
      place = found_within _ r₁.nodes.entries c.seat-i.result s.there;
      within = omega (arith, c.requires.within, ap length keys_same);
      fresh = standing_then K c.args.n c.args.self.now r₁ s.cells s.seated c.args.c ∙ c.requires.fresh;
      own = λ d.
          ap (λ ks. named K d ks (twin c.args.c)) keys_same
          ∙ c.requires.own d
          ∙ owner_at K g.met.N.Compare.ordered r₁.cells r₁.nodes.entries _ c.seat-i.result s.there d;
    }

pub returns : goal.returns
returns g c =
    let K = keys g.N.Compare.value g.N.Compare.order in
    let r : NodeRows g.row.N.Denot = c.args.self.now in
    let r₁ : NodeRows g.row.N.Denot = c.seat-i.new.self in
    let n = c.args.n in
    let x = c.args.c in
    let i = c.seat-i.result in
    let s = c.seat-i.ensures in
    let place : i < length r₁.nodes.entries = found_within _ r₁.nodes.entries i s.there in
    let a = c.enter.ensures in
    let r₂ : NodeRows g.row.N.Denot = c.enter.new.self in
    let ks = keys_of r in
    let es = r.nodes.entries in
    let li : i < length (rows_of r₁) = omega (arith, rowed_length r₁.cells r₁.nodes.entries) in
    record {
      room = a.room ∙ s.room;
      keys = a.keys ∙ ap cell_keys s.cells;
      standing = λ y. ap (standing y) (a.rows n) ∙ pushed_standing n (rows_of r₁) i li x y ∙ (let z = standing_then K n r r₁ s.cells s.seated y in omega arith);
      entered = λ d.
          ap (noded ks) (a.rows d)
          ∙ noded_at_row d (rows_of r₁) i li (row_at (rows_of r₁) i d ++ x ∷ []) K ks (K.value n) (λ y. y ++ (get_or ks x d, side x) ∷ [])
          (node_position K (K.value n) ks r₁.cells r₁.nodes.entries ∙ s.there) (told_push d ks (row_at (rows_of r₁) i d) x c.requires.within)
          ∙ ap (at_row K (K.value n) (λ y. y ++ (get_or ks x d, side x) ∷ [])) (noded_then K n r r₁ s.cells s.seated ks);
      more =
          let a₂ = rowed_length r₂.cells r₂.nodes.entries in
          let b = ap length (a.rows n) ∙ length_put n (rows_of r₁) i li (row_at (rows_of r₁) i n ++ x ∷ []) in
          let e = rowed_length r₁.cells r₁.nodes.entries in
          let f = ap length s.seated ∙ seated_length K n es (vacancy r.nodes.room (g.N.NodeTrait.hashed n)) in
          let h = ap vacant c.requires.found in
          omega arith;
      others = λ m ne.
          let p : position (λ e. eq K (K.value e.0) (K.value m)) r₂.nodes.entries ≡ position (λ e. eq K (K.value e.0) (K.value m)) es =
          sym (position_map (λ y. eq K (K.value y.0) (K.value m)) _ r₂.nodes.entries)
          ∙ ap (position (λ y. eq K (K.value y.0) (K.value m))) (a.rows n)
          ∙ position_put K (K.value m) n (rows_of r₁) i (row_at (rows_of r₁) i n ++ x ∷ [])
          ∙ position_map (λ y. eq K (K.value y.0) (K.value m)) _ r₁.nodes.entries
          ∙ ap (position (λ e. eq K (K.value e.0) (K.value m))) s.seated
          ∙ seated_other K n es g.met.N.Compare.ordered (K.value m) ne in
          λ j. found (p j) (vacancy ((a.room ∙ s.room) j) (g.N.NodeTrait.hashed m));
    }
