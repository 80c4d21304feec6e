use Rattle.std.proofs.Common.{◌≡◌, ◌∷◌, refl, sym, ap, ◌∙◌}
use Rattle.model.specs.Keys.{keys}
use Rattle.rows.specs.Links.{listed}
use Rattle.halfedges.proofs.Rows.{read_here}
use Rattle.halfedges.specs.Cells.{row_at, put_row}
use Rattle.adjacency.specs.Stages.{NodeRows, rows_of, keys_of}
use Rattle.adjacency.proofs.RowEdits.{Edited, opened, place_row, head_linked, head_some, off_here, row_was, edited}
use Rattle.adjacency.proofs.Gains.{gained_rest}
use Rattle.adjacency.proofs.adjacency.NodesWithRows.behead.Given as given
use Rattle.adjacency.proofs.adjacency.NodesWithRows.behead.Goals as goal

pub pop_first-first-requires : goal.pop_first-first-requires
pop_first-first-requires g c =
    let o = opened c.self.view_is c.self.invariant c.requires.place c.value_at-row.ensures in
    record { linked = head_linked o; some = head_some o c.requires.some }

beheaded : (g : given.Over) (c : goal.After-set_value g)
    → Edited g.N.Compare.value g.N.Compare.order c.args.self.now (record { nodes = c.set_value.new.self; cells = c.pop_first-first.new.self }) c.args.i
    (λ _. listed c.pop_first-first.new.self c.pop_first-first.new.row)
beheaded g c =
    let o = opened c.self.view_is c.self.invariant c.requires.place c.value_at-row.ensures in
    let a = c.pop_first-first.ensures in
    edited o _ c.set_value.ensures.done c.set_value.ensures.room a.linked a.kept (off_here o) _ (λ _. refl)
    (λ d. gained_rest (keys g.N.Compare.value g.N.Compare.order) d (keys_of c.args.self.now) (rows_of c.args.self.now) c.args.i (place_row o) c.pop_first-first.result _ (row_was o d ∙ a.rest))

pub invariant_of-self : goal.invariant_of-self
invariant_of-self g c = (beheaded g c).stage

pub returns : goal.returns
returns g c =
    let o = opened c.self.view_is c.self.invariant c.requires.place c.value_at-row.ensures in
    let e = beheaded g c in
    let now : NodeRows g.row.N.Denot = c.args.self.now in
    let r' : NodeRows g.row.N.Denot = record { nodes = c.set_value.new.self; cells = c.pop_first-first.new.self } in
    let zs = listed c.pop_first-first.new.self c.pop_first-first.new.row in
    let rest : (d : g.row.N.Denot) → row_at (rows_of r') c.args.i d ≡ zs = λ d.
    ap (λ ns. row_at ns c.args.i d) (e.rows d) ∙ ap (λ v. v.1) (read_here d (rows_of now) c.args.i (place_row o) zs) in
    record {
      room = e.room;
      keys = e.keys;
      first = λ d. row_was o d ∙ c.pop_first-first.ensures.rest ∙ ap (λ ys. c.pop_first-first.result ∷ ys) (sym (rest d));
      rows = λ d. e.rows d ∙ ap (put_row (rows_of now) c.args.i d) (sym (rest d));
    }
