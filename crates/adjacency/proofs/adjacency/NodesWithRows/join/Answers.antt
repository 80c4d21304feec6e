use Rattle.std.proofs.Common.{◌≡◌, ℕ, ◌+◌, ◌*◌, ◌==◌, List, sym, ap, ◌∙◌, arith}
use Rattle.model.specs.Keys.{keys}
use Rattle.model.specs.Lists.{bit}
use Rattle.model.specs.Maps.{joined}
use Rattle.halfedges.specs.Cells.{standing, noded}
use Rattle.halfedges.proofs.Counts.{bit_other}
use Rattle.adjacency.specs.Stages.{rows_of, keys_of}
use Rattle.adjacency.proofs.Joining.{next_off, whole_one, whole_two, joined_one, joined_two}
use Rattle.adjacency.proofs.adjacency.NodesWithRows.join.Goals as goal

-- how often each cell stands when the first one was put into a row
first_noted : {N : Type 0} {ns₀ ns : List (N × List ℕ)} (ns' : List (N × List ℕ)) (c : ℕ) → ns ≡ ns₀ → ((x : ℕ) → standing x ns' ≡ standing x ns + bit (x == c)) → (x : ℕ) → standing x ns' ≡ standing x ns₀ + bit (x == c)
first_noted ns' c same noted x = noted x ∙ ap (λ z. standing x z + bit (x == c)) same

pub write_link-requires-clause-off : goal.write_link-requires-clause-off
write_link-requires-clause-off g c = next_off (keys g.N.Compare.value g.N.Compare.order) c.args.a (keys_of c.args.self.now) c.args.p (rows_of c.args.self.now) (c.requires.whole c.args.a)

pub note-requires-clause-fresh : goal.note-requires-clause-fresh
note-requires-clause-fresh g c =
    ap (standing (2 * c.args.p)) c.write_link.ensures.rows
    ∙ next_off (keys g.N.Compare.value g.N.Compare.order) c.args.a (keys_of c.args.self.now) c.args.p (rows_of c.args.self.now) (c.requires.whole c.args.a) (2 * c.args.p) (omega arith)

pub returns-then-same : goal.returns-then-same
returns-then-same g c =
    let K = keys g.N.Compare.value g.N.Compare.order in
    let w = c.write_link.ensures in
    let n = c.note.ensures in
    let same = sym c.same.ensures ∙ c.if-same.true in
    record {
      whole = λ d.
          whole_one K (keys_of c.args.self.now) c.args.p c.args.a c.args.b c.requires.within (n.keys ∙ w.keys) same d (rows_of c.args.self.now) (c.requires.whole d)
          (λ y. standing y (rows_of c.note.new.self)) (first_noted _ _ w.rows n.standing);
      room = n.room ∙ ap (λ z. z.room) w.nodes;
      keys = n.keys ∙ w.keys;
      joined =
          ap (λ z. noded z (rows_of c.note.new.self)) n.keys
          ∙ joined_one K (keys_of c.args.self.now) c.args.p c.args.a c.args.b c.requires.within w.keys same _ _ (n.entered c.args.a)
          ∙ ap (joined K c.args.a c.args.b) w.told;
    }

pub note-requires-2-clause-fresh : goal.note-requires-2-clause-fresh
note-requires-2-clause-fresh g c =
    let K = keys g.N.Compare.value g.N.Compare.order in
    let x = 2 * c.args.p + 1 in
    let s = first_noted _ _ c.write_link.ensures.rows c.note.ensures.standing x in
    let u = bit_other x (2 * c.args.p) (λ e. omega arith) in
    let v = next_off K c.args.a (keys_of c.args.self.now) c.args.p (rows_of c.args.self.now) (c.requires.whole c.args.a) x (omega arith) in
    omega arith

pub returns : goal.returns
returns g c =
    let K = keys g.N.Compare.value g.N.Compare.order in
    let w = c.write_link.ensures in
    let n = c.note.ensures in
    let m = c.note-2.ensures in
    let same = sym c.same.ensures ∙ c.if-same.false in
    record {
      whole = λ d.
          whole_two K (keys_of c.args.self.now) c.args.p c.args.a c.args.b c.requires.within (m.keys ∙ n.keys ∙ w.keys) same d (rows_of c.args.self.now) (c.requires.whole d)
          (λ y. standing y (rows_of c.note.new.self)) (λ y. standing y (rows_of c.note-2.new.self)) (first_noted _ _ w.rows n.standing) m.standing;
      room = m.room ∙ n.room ∙ ap (λ z. z.room) w.nodes;
      keys = m.keys ∙ n.keys ∙ w.keys;
      joined =
          ap (λ z. noded z (rows_of c.note-2.new.self)) m.keys
          ∙ joined_two K (keys_of c.args.self.now) c.args.p c.args.a c.args.b c.requires.within w.keys same n.keys _ _ _ (ap (λ z. noded z (rows_of c.note.new.self)) n.keys ∙ n.entered c.args.a) (m.entered c.args.a)
          ∙ ap (joined K c.args.a c.args.b) w.told;
    }
