use Rattle.std.proofs.Common.{rules, ◌≡◌, ℕ, Bool, map, refl, sym, ap, ◌∙◌}
use borrow.Author.Tests.{tests}
use Rattle.std.specs.List.{filter}
use Rattle.std.specs.Option.{option_map}
use Rattle.model.specs.Keys.{keys}
use Rattle.model.specs.Questions.{shown}
use Rattle.rows.specs.HalfEdges.{side}
use Rattle.rows.specs.declared.walk.Steps.{Steps}
use Rattle.rows.specs.Walks.{walked, upcoming, still_met, first_of}
use Rattle.rows.proofs.Walks.{keyed, keyed_in, seen, still_walked, finds_on}
use Rattle.rows.proofs.Firsts.{kept_map, first_of_pairs}
use Rattle.rows.proofs.walk.advance.Goals as goal

pub returns : goal.returns
returns g c e =
    let K = keys g.N.Compare.value g.N.Compare.order in
    let a = c.args.asked in
    let v = K.value a.node in
    let mem = c.args.cells.now in
    let w = c.args.walk.now in
    let s : Steps _ = record { cells = c.args.cells; walk = w } in
    let u = c.find-shown.new.self in
    let key = keyed_in e mem in
    let test : ℕ × _ → Bool = λ p. shown K a.kind a.direction v (p.1, side p.0) in
    let left = finds_on _ test _ (λ x b q k. search (rules, tests)) c.find-shown.result u s c.find-shown.ensures.ran in
    let cells = refl in
    let there : filter test (map keyed (still_met s)) ≡ map key (upcoming K e mem a.kind a.direction v w) =
    ap (filter test) (still_walked e mem w s cells refl) ∙ kept_map key test (walked mem w.at w.left) in
    let on : filter test (map keyed (still_met u)) ≡ map key (upcoming K e mem a.kind a.direction v u.walk) =
    ap (filter test) (still_walked e mem u.walk u (ap (λ b. b.now) left.0 ∙ cells) refl) ∙ kept_map key test (walked mem u.walk.at u.walk.left) in
    let number : c.map.result ≡ option_map (λ p. p.0) (option_map seen c.find-shown.result) = search (rules, tests) in
    (λ i. (number i, upcoming K e mem a.kind a.direction v u.walk))
    ∙ first_of_pairs _ _ _ _ ((λ i. (option_map seen c.find-shown.result, sym on i)) ∙ left.1 ∙ ap first_of there)
