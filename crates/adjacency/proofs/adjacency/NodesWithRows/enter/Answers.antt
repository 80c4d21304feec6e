use Rattle.std.proofs.Common.{[], ◌∷◌, ◌++◌, sym, ap, ◌∙◌}
use Rattle.model.specs.Keys.{keys}
use Rattle.halfedges.specs.Cells.{row_at}
use Rattle.adjacency.specs.Stages.{rows_of, keys_of}
use Rattle.adjacency.proofs.RowEdits.{Edited, opened, place_row, cell_in, head_linked, head_fresh, head_room, off_new, row_was, edited}
use Rattle.adjacency.proofs.Gains.{gained_push}
use Rattle.adjacency.proofs.adjacency.NodesWithRows.enter.Given as given
use Rattle.adjacency.proofs.adjacency.NodesWithRows.enter.Goals as goal

pub append-requires : goal.append-requires
append-requires g c =
    let o = opened c.self.view_is c.self.invariant c.requires.place c.value_at-row.ensures in
    let p = c.requires in
    record {
      linked = head_linked o;
      within = cell_in o c.args.c p.within;
      fresh = head_fresh o c.args.c p.fresh;
      room = head_room o c.args.c p.within p.fresh;
    }

entered : (g : given.Over) (c : goal.After-set_value g)
    → Edited g.N.Compare.value g.N.Compare.order c.args.self.now (record { nodes = c.set_value.new.self; cells = c.append.new.self }) c.args.i
    (λ d. row_at (rows_of c.args.self.now) c.args.i d ++ c.args.c ∷ [])
entered g c =
    let o = opened c.self.view_is c.self.invariant c.requires.place c.value_at-row.ensures in
    let p = c.requires in
    let a = c.append.ensures in
    edited o _ c.set_value.ensures.done c.set_value.ensures.room a.linked a.kept (off_new o c.args.c p.fresh) _
    (λ d. a.list ∙ ap (λ xs. xs ++ c.args.c ∷ []) (sym (row_was o d)))
    (λ d. gained_push (keys g.N.Compare.value g.N.Compare.order) d (keys_of c.args.self.now) (rows_of c.args.self.now) c.args.i (place_row o) c.args.c p.fresh (p.own d))

pub invariant_of-self : goal.invariant_of-self
invariant_of-self g c = (entered g c).stage

pub returns : goal.returns
returns g c = let e = entered g c in record { room = e.room; keys = e.keys; rows = e.rows }
