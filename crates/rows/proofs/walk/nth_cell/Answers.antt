use Rattle.std.proofs.Common.{rules, ◌≡◌, ℕ, Bool, map, refl, ap, ◌∙◌}
use borrow.Author.Tests.{tests}
use Rattle.std.specs.List.{filter, slice_get}
use Rattle.std.specs.Option.{option_map}
use Rattle.std.proofs.lemmas.Option.{slice_get-map}
use Rattle.std.proofs.lemmas.Iterator.Consumers.{nth_from_yields_List, YieldsList-from_filter, YieldsList-at}
use Rattle.model.specs.Keys.{keys}
use Rattle.model.specs.Questions.{shown}
use Rattle.rows.specs.HalfEdges.{side}
use Rattle.rows.specs.Walks.{walked}
use Rattle.rows.proofs.Walks.{keyed_in, seen, steps_yield}
use Rattle.rows.proofs.Firsts.{kept_map, first_back}
use Rattle.rows.proofs.walk.nth_cell.Goals as goal

pub returns : goal.returns
returns g c e =
    let K = keys g.N.Compare.value g.N.Compare.order in
    let a = c.args.asked in
    let mem = c.args.cells.now in
    let w = c.args.walk in
    let key = keyed_in e mem in
    let test : ℕ × _ → Bool = λ p. shown K a.kind a.direction (K.value a.node) (p.1, side p.0) in
    let steps = steps_yield e mem w (record { cells = c.args.cells; walk = w }) refl refl in
    let place : option_map seen c.nth.result ≡ slice_get (filter test (map key (walked mem w.at w.left))) c.args.k =
    nth_from_yields_List c.nth.result _ _ c.nth.ensures.ran
    (YieldsList-from_filter _ test (YieldsList-at c.filter.ensures.source steps) c.filter.ensures.closure (λ x b q k. search (rules, tests))) in
    let number : c.map.result ≡ option_map (λ p. p.0) (option_map seen c.nth.result) = search (rules, tests) in
    number
    ∙ ap (option_map (λ p. p.0)) (place ∙ ap (λ xs. slice_get xs c.args.k) (kept_map key test (walked mem w.at w.left)) ∙ slice_get-map key _ c.args.k)
    ∙ first_back _ _
