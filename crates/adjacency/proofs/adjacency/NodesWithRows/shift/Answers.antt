use Rattle.std.proofs.Common.{◌≡◌, ◌+◌, ◌<◌, ◌≤◌, eqb, [], length, get_or, set, Some, sym, ap, ◌∙◌, arith}
use Rattle.std.proofs.lemmas.List.{length-map, set-get_or}
use Rattle.lists.specs.Positions.{position}
use Rattle.lists.proofs.Positions.{found_within}
use Rattle.model.specs.Keys.{keys, eq}
use Rattle.model.specs.Lists.{bit}
use Rattle.rows.specs.Rings.{Holds}
use Rattle.halfedges.specs.Cells.{count, standing, noded, row_at}
use Rattle.halfedges.proofs.Counts.{count_holds}
use Rattle.halfedges.proofs.Rows.{noded_put, noded_read}
use Rattle.halfedges.proofs.Told.{told_set}
use Rattle.adjacency.specs.Stages.{rows_of, keys_of}
use Rattle.adjacency.proofs.Entries.{rowed_length}
use Rattle.adjacency.proofs.Gains.{set_standing}
use Rattle.adjacency.proofs.Seating.{found_vacant, found_ok}
use Rattle.adjacency.proofs.Owners.{owner_at, never_absent, in_its_row}
use Rattle.adjacency.proofs.Writes.{stands_within}
use Rattle.adjacency.proofs.adjacency.NodesWithRows.shift.Given as given
use Rattle.adjacency.proofs.adjacency.NodesWithRows.shift.Goals as goal

-- the row that has the cell is at i
module _ (g : given.Over) (c : goal.After-rename-arg-1 g) where
  at : position (λ e. eq (keys g.N.Compare.value g.N.Compare.order) (g.N.Compare.value e.0) (g.N.Compare.value c.args.n)) c.args.self.now.nodes.entries ≡ Some c.in-Ok.i
  at = found_ok _ _ c.in-Ok.i (sym c.find.ensures.found ∙ c.in-Ok.is)

  place : c.in-Ok.i < length c.args.self.now.nodes.entries
  place = found_within _ c.args.self.now.nodes.entries c.in-Ok.i at

  held : (d : g.row.N.Denot) → 1 ≤ count c.args.old (row_at (rows_of c.args.self.now) c.in-Ok.i d)
  held d = in_its_row c.find.ensures.stage g.met.N.Compare.ordered d (g.N.Compare.value c.args.n) c.args.old (omega (arith, c.requires.held)) (c.requires.own d) c.in-Ok.i at

pub rename-requires : goal.rename-requires
rename-requires g c = record {
  place = place g c;
  within = c.requires.within;
  fresh = c.requires.fresh;
  held = held g c;
  own = λ d.
      c.requires.owner d
      ∙ owner_at (keys g.N.Compare.value g.N.Compare.order) g.met.N.Compare.ordered c.args.self.now.cells c.args.self.now.nodes.entries _ c.in-Ok.i (at g c) d;
}

pub returns-in-Ok : goal.returns-in-Ok
returns-in-Ok g c =
    let n = c.args.n in
    let i = c.in-Ok.i in
    let r = c.rename.ensures in
    let ks = keys_of c.args.self.now in
    let ns = rows_of c.args.self.now in
    let old = c.args.old in
    let new = c.args.new in
    let li : i < length ns = omega (arith, rowed_length c.args.self.now.cells c.args.self.now.nodes.entries, place g c.before) in
    let h : Holds old (row_at ns i n) = count_holds old (row_at ns i n) (held g c.before n) in
    let rows = r.rows n h.0 h.1 h.2 in
    let lo : old < length ks = omega (arith, stands_within c.find.ensures.stage old (omega (arith, c.requires.held)), length-map c.args.self.now.cells (λ x. x.key)) in
    record {
      room = r.room;
      keys = r.keys;
      standing = λ x. ap (λ z. standing x z + bit (eqb x old)) rows ∙ set_standing n ns i li h.0 old new h.1 h.2 x;
      told =
          ap (noded ks) rows
          ∙ noded_put n ns i li (set (row_at ns i n) h.0 new) ks
          ∙ ap (λ y. set (noded ks ns) i ((get_or ns i (n, [])).0, y)) (told_set n ks (row_at ns i n) h.0 old new h.1 h.2 lo c.requires.within (c.requires.entry n) c.requires.side)
          ∙ sym (ap (set (noded ks ns) i) (noded_read n ks ns i li))
          ∙ set-get_or (noded ks ns) i (n, []);
    }

-- the node is there
pub returns-in_default : goal.returns-in_default
returns-in_default g c =
    let n = c.args.n in
    absurd (never_absent c.find.ensures.stage g.met.N.Compare.ordered n (g.N.Compare.value n) c.args.old (omega (arith, c.requires.held)) (c.requires.own n) (found_vacant _ _ _ (sym c.find.ensures.found ∙ c.in_default.is)))
