use Rattle.std.proofs.Common.{◌≡◌, ℕ, ◌<◌, length, sym, ap, ◌∙◌, subst, arith}
use Rattle.lists.specs.Swap.{swap_removed}
use Rattle.model.specs.Keys.{keys}
use Rattle.rows.specs.Rings.{nth}
use Rattle.rows.specs.Links.{listed}
use Rattle.rows.proofs.Lists.{listed_length}
use Rattle.halfedges.specs.Cells.{row_at}
use Rattle.adjacency.specs.Stages.{rows_of, keys_of}
use Rattle.adjacency.proofs.RowEdits.{Edited, opened, place_row, head_linked, head_held, off_here, row_was, edited}
use Rattle.adjacency.proofs.Gains.{gained_less}
use Rattle.adjacency.proofs.adjacency.NodesWithRows.leave.Given as given
use Rattle.adjacency.proofs.adjacency.NodesWithRows.leave.Goals as goal

pub swap_remove-requires : goal.swap_remove-requires
swap_remove-requires g c =
    let o = opened c.self.view_is c.self.invariant c.requires.place c.value_at-row.ensures in
    record { linked = head_linked o; held = head_held o c.args.c c.requires.held }

left : (g : given.Over) (c : goal.After-set_value g) (k : ℕ) → k < length (listed c.self.inside.rows c.value_at-row.result) → nth (listed c.self.inside.rows c.value_at-row.result) k ≡ c.args.c
    → Edited g.N.Compare.value g.N.Compare.order c.args.self.now (record { nodes = c.set_value.new.self; cells = c.swap_remove.new.self }) c.args.i
    (λ d. swap_removed (row_at (rows_of c.args.self.now) c.args.i d) k)
left g c k lk at =
    let o = opened c.self.view_is c.self.invariant c.requires.place c.value_at-row.ensures in
    let a = c.swap_remove.ensures in
    edited o _ c.set_value.ensures.done c.set_value.ensures.room a.linked a.kept (off_here o) _
    (λ d. a.list k (omega (arith, lk, listed_length c.self.inside.rows c.value_at-row.result)) at ∙ ap (λ xs. swap_removed xs k) (sym (row_was o d)))
    (λ d.
    let w = row_was o d in
    gained_less (keys g.N.Compare.value g.N.Compare.order) d (keys_of c.args.self.now) (rows_of c.args.self.now) c.args.i (place_row o) k c.args.c (subst (λ xs. k < length xs) (sym w) lk) (ap (λ xs. nth xs k) w ∙ at))

pub invariant_of-self : goal.invariant_of-self
invariant_of-self g c =
    let h = head_held (opened c.self.view_is c.self.invariant c.requires.place c.value_at-row.ensures) c.args.c c.requires.held in
    (left g c h.0 h.1 h.2).stage

pub returns : goal.returns
returns g c =
    let o = opened c.self.view_is c.self.invariant c.requires.place c.value_at-row.ensures in
    let h = head_held o c.args.c c.requires.held in
    let e = left g c h.0 h.1 h.2 in
    record {
      room = e.room;
      keys = e.keys;
      rows = λ d k lk at. let w = row_was o d in (left g c k (omega (arith, lk, ap length w)) (ap (λ xs. nth xs k) (sym w) ∙ at)).rows d;
    }
