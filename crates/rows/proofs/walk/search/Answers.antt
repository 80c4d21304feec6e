use Rattle.std.proofs.Common.{rules, ◌≡◌, ℕ, Bool, map, refl, ap, ◌∙◌}
use borrow.Author.Tests.{tests}
use Rattle.std.specs.List.{find}
use Rattle.std.specs.Option.{option_map}
use Rattle.std.proofs.lemmas.Iterator.Search.{find_from_yields_List}
use Rattle.model.specs.Keys.{keys}
use Rattle.model.specs.Maps.{hits}
use Rattle.rows.specs.Links.{listed}
use Rattle.rows.specs.HalfEdges.{side}
use Rattle.rows.specs.Walks.{walk_of}
use Rattle.rows.proofs.Walks.{keyed_in, seen, steps_yield, walked_listed}
use Rattle.rows.proofs.Firsts.{found_map, first_back}
use Rattle.rows.proofs.walk.search.Goals as goal

pub returns : goal.returns
returns g c d =
    let K = keys g.N.Compare.value g.N.Compare.order in
    let a = c.args.asked in
    let mem = c.args.cells.now in
    let key = keyed_in d mem in
    let test : ℕ × _ → Bool = λ p. hits K a.kind (K.value a.node) a.direction (p.1, side p.0) in
    let all = steps_yield d mem (walk_of c.args.row) (record { cells = c.args.cells; walk = c.of-walk.result }) refl c.of-walk.ensures in
    let first : option_map seen c.find.result ≡ find test (map key (listed mem c.args.row)) =
    find_from_yields_List test _ _ c.find.result c.find.ensures.ran all (λ x b q k. search (rules, tests))
    ∙ ap (λ xs. find test (map key xs)) (walked_listed mem c.args.row c.requires.linked) in
    let number : c.map.result ≡ option_map (λ p. p.0) (option_map seen c.find.result) = search (rules, tests) in
    number ∙ ap (option_map (λ p. p.0)) (first ∙ found_map key test (listed mem c.args.row)) ∙ first_back _ _
