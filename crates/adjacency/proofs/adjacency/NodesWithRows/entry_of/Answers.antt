use Rattle.std.proofs.Common.{rules, ◌≡◌, Some, None, Option, ℕ, refl, sym, ap, ◌∙◌, inl, inr}
use borrow.Author.Tests.{tests}
use Rattle.std.specs.Option.{option_map}
use Rattle.keys.specs.declared.kinds.Direction.TheVariants.{Outgoing, Incoming}
use Rattle.model.specs.Keys.{keys}
use Rattle.model.specs.Lists.{found}
use Rattle.model.specs.Maps.{hits}
use Rattle.rows.specs.HalfEdges.{side, twin}
use Rattle.halfedges.specs.Cells.{twinned}
use Rattle.adjacency.specs.Stages.{keys_of}
use Rattle.adjacency.proofs.RowEdits.{opened, head_linked, row_was}
use Rattle.adjacency.proofs.adjacency.NodesWithRows.entry_of.Goals as goal

twinned_is : (o : Option ℕ) → option_map twin o ≡ twinned o
twinned_is None = refl
twinned_is (Some c) = refl

pub search-requires : goal.search-requires
search-requires g c = record { linked = head_linked (opened c.self.view_is c.self.invariant c.requires.from c.value_at-from.ensures) }

pub returns-then-i-j : goal.returns-then-i-j
returns-then-i-j g c d =
    let K = keys g.N.Compare.value g.N.Compare.order in
    let test : _ → ℕ → _ = λ ks x. hits K c.args.kind (K.value c.args.b) Outgoing (Rattle.std.proofs.Common.get_or ks x d, side x) in
    inl (c.search.ensures d ∙ (λ i. found (test (keys_of (c.self.view_is i))) (sym (row_was (opened c.self.view_is c.self.invariant c.requires.from c.value_at-from.ensures) d) i)))

pub search-requires-2 : goal.search-requires-2
search-requires-2 g c = record { linked = head_linked (opened c.self.view_is c.self.invariant c.requires.to c.value_at-to.ensures) }

pub returns : goal.returns
returns g c d =
    let K = keys g.N.Compare.value g.N.Compare.order in
    let test : _ → ℕ → _ = λ ks x. hits K c.args.kind (K.value c.args.a) Incoming (Rattle.std.proofs.Common.get_or ks x d, side x) in
    let turned : c.map.result ≡ option_map twin c.search-2.result = search (rules, tests) in
    inr (
      c.if-i-j.false,
      turned
          ∙ twinned_is c.search-2.result
          ∙ ap twinned
          (c.search-2.ensures d ∙ (λ i. found (test (keys_of (c.self.view_is i))) (sym (row_was (opened c.self.view_is c.self.invariant c.requires.to c.value_at-to.ensures) d) i))),
    )
