use Rattle.std.proofs.Common.{◌≡◌, Some, None, sym, ap, ◌∙◌}
use Rattle.std.specs.Option.{option_map}
use Rattle.lists.specs.Positions.{position}
use Rattle.lists.proofs.Positions.{found_within}
use Rattle.model.specs.Keys.{keys, eq}
use Rattle.model.proofs.Positions.{found_at, found_none}
use Rattle.adjacency.proofs.Entries.{some_of}
use Rattle.adjacency.proofs.Seating.{ok_found}
use Rattle.adjacency.proofs.reads.head_of.Goals as goal

pub returns-in_err-i : goal.returns-in_err-i
returns-in_err-i g c =
    let K = keys g.N.Compare.value g.N.Compare.order in
    let v = K.value c.args.n.now in
    let es = c.args.nodes.now.entries in
    let at : position (λ e. eq K (K.value e.0) v) es ≡ None = ok_found _ _ c.find.ensures c.in_err-i.ensures.value in
    c.from_residual.ensures ∙ sym (ap (option_map (λ e. e.1)) (found_none (λ e. eq K (K.value e.0) v) es at))

pub value_at-requires : goal.value_at-requires
value_at-requires g c =
    let K = keys g.N.Compare.value g.N.Compare.order in
    let v = K.value c.args.n.now in
    let es = c.args.nodes.now.entries in
    let at : position (λ e. eq K (K.value e.0) v) es ≡ Some c.in_ok-i.i = ok_found _ _ c.find.ensures c.in_ok-i.ensures.value in
    record { place = found_within (λ e. eq K (K.value e.0) v) es c.in_ok-i.i at }

pub returns : goal.returns
returns g c =
    let K = keys g.N.Compare.value g.N.Compare.order in
    let v = K.value c.args.n.now in
    let es = c.args.nodes.now.entries in
    let at : position (λ e. eq K (K.value e.0) v) es ≡ Some c.in_ok-i.i = ok_found _ _ c.find.ensures c.in_ok-i.ensures.value in
    let d = some_of es c.in_ok-i.i (found_within (λ e. eq K (K.value e.0) v) es c.in_ok-i.i at) in
    ap Some (c.value_at.ensures d) ∙ sym (ap (option_map (λ e. e.1)) (found_at (λ e. eq K (K.value e.0) v) es c.in_ok-i.i d at))
