use Rattle.std.proofs.Common.{◌≡◌, ℕ, ◌<◌, length, set, sym, ap, ◌∙◌, subst, arith}
use Rattle.model.specs.Keys.{keys}
use Rattle.rows.specs.Rings.{nth}
use Rattle.rows.specs.Links.{listed}
use Rattle.rows.proofs.Lists.{listed_length}
use Rattle.halfedges.specs.Cells.{row_at}
use Rattle.adjacency.specs.Stages.{rows_of, keys_of}
use Rattle.adjacency.proofs.RowEdits.{Edited, opened, place_row, cell_in, head_linked, head_fresh, head_held, off_new, row_was, edited}
use Rattle.adjacency.proofs.Gains.{gained_set}
use Rattle.adjacency.proofs.adjacency.NodesWithRows.rename.Given as given
use Rattle.adjacency.proofs.adjacency.NodesWithRows.rename.Goals as goal

pub replace-requires : goal.replace-requires
replace-requires g c =
    let o = opened c.self.view_is c.self.invariant c.requires.place c.value_at-row.ensures in
    let p = c.requires in
    record {
      linked = head_linked o;
      within = cell_in o c.args.new p.within;
      fresh = head_fresh o c.args.new p.fresh;
      held = head_held o c.args.old p.held;
    }

renamed : (g : given.Over) (c : goal.After-set_value g) (k : ℕ) → k < length (listed c.self.inside.rows c.value_at-row.result) → nth (listed c.self.inside.rows c.value_at-row.result) k ≡ c.args.old
    → Edited g.N.Compare.value g.N.Compare.order c.args.self.now (record { nodes = c.set_value.new.self; cells = c.replace.new.self }) c.args.i
    (λ d. set (row_at (rows_of c.args.self.now) c.args.i d) k c.args.new)
renamed g c k lk at =
    let o = opened c.self.view_is c.self.invariant c.requires.place c.value_at-row.ensures in
    let p = c.requires in
    let a = c.replace.ensures in
    edited o _ c.set_value.ensures.done c.set_value.ensures.room a.linked a.kept (off_new o c.args.new p.fresh) _
    (λ d. a.list k (omega (arith, lk, listed_length c.self.inside.rows c.value_at-row.result)) at ∙ ap (λ xs. set xs k c.args.new) (sym (row_was o d)))
    (λ d.
    let w = row_was o d in
    gained_set (keys g.N.Compare.value g.N.Compare.order) d (keys_of c.args.self.now) (rows_of c.args.self.now) c.args.i (place_row o) k c.args.old c.args.new (subst (λ xs. k < length xs) (sym w) lk) (ap (λ xs. nth xs k) w ∙ at) p.fresh (p.own d))

pub invariant_of-self : goal.invariant_of-self
invariant_of-self g c =
    let h = head_held (opened c.self.view_is c.self.invariant c.requires.place c.value_at-row.ensures) c.args.old c.requires.held in
    (renamed g c h.0 h.1 h.2).stage

pub returns : goal.returns
returns g c =
    let o = opened c.self.view_is c.self.invariant c.requires.place c.value_at-row.ensures in
    let h = head_held o c.args.old c.requires.held in
    let e = renamed g c h.0 h.1 h.2 in
    record {
      room = e.room;
      keys = e.keys;
      rows = λ d k lk at. let w = row_was o d in (renamed g c k (omega (arith, lk, ap length w)) (ap (λ xs. nth xs k) (sym w) ∙ at)).rows d;
    }
