use Rattle.std.proofs.Common.{◌≡◌, ◌<◌, length, Some, None, Ok, sym, ap, ◌∙◌}
use Rattle.lists.specs.Positions.{position}
use Rattle.lists.proofs.Positions.{found_within}
use Rattle.model.specs.Keys.{keys}
use Rattle.model.specs.Maps.{canon, is_link}
use Rattle.model.specs.Calls.{add_found}
use Rattle.model.proofs.Positions.{found_at, found_none, amended_at}
use Rattle.adjacency.proofs.Entries.{some_of, value_put, value_old}
use Rattle.adjacency.proofs.Seating.{found_vacant, found_ok}
use Rattle.graphmap.specs.Parts.{Parts, Sound, state_of}
use Rattle.graphmap.proofs.Keying.{link_sought, key_search}
use Rattle.graphmap.proofs.Kept.{sound_reweighted}
use Rattle.graphmap.proofs.adding.add_link.Given as given
use Rattle.graphmap.proofs.adding.add_link.Goals as goal

-- the link is at p
module _ (g : given.Over) (c : goal.After-set_value g) where
  at : position (is_link (keys g.N.Compare.value g.N.Compare.order) (canon (keys g.N.Compare.value g.N.Compare.order) c.args.kind (g.N.Compare.value c.args.a) (g.N.Compare.value c.args.b))) c.args.links.now.entries ≡ Some c.in-Ok.p
  at =
      sym (link_sought (keys g.N.Compare.value g.N.Compare.order) c.args.kind c.args.a c.args.b c.args.links.now.entries _ c.edge_key.ensures)
      ∙ found_ok _ _ c.in-Ok.p (sym c.find.ensures ∙ c.in-Ok.is)

  place : c.in-Ok.p < length c.args.links.now.entries
  place = found_within _ c.args.links.now.entries c.in-Ok.p at

-- the links fit the rows with another weight
kept : (g : given.Over) (c : goal.After-set_value g) → Sound g.N.Compare.value g.N.Compare.order (record { kind = c.args.kind; rows = c.args.adjacency.now; links = c.set_value.new.self })
kept g c =
    let ls = c.args.links.now.entries in
    let p = c.in-Ok.p in
    let l = place g c in
    let d₀ = some_of ls p l in
    sound_reweighted c.requires.sound p c.args.w d₀ c.set_value.new.self l (value_put ls _ p c.args.w _ c.set_value.ensures.done l d₀)

pub returns-in-Ok : goal.returns-in-Ok
returns-in-Ok g c =
    let K = keys g.N.Compare.value g.N.Compare.order in
    let m : Parts g.row.N.Denot g.row.E.Denot = record { kind = c.args.kind; rows = c.args.adjacency.now; links = c.args.links.now } in
    let ls = m.links.entries in
    let p = c.in-Ok.p in
    let κ = canon K m.kind (K.value c.args.a) (K.value c.args.b) in
    let l = place g c in
    let d₀ = some_of ls p l in
    let old = value_old ls _ p c.args.w _ c.set_value.ensures.done l d₀ in
    let links = value_put ls _ p c.args.w _ c.set_value.ensures.done l d₀ ∙ sym (amended_at (is_link K κ) (λ x. (x.0, c.args.w)) ls p d₀ (at g c)) in
    record {
      sound = kept g c;
      done = (λ i. (Ok (old i), state_of (record { kind = m.kind; rows = m.rows; links = record { entries = links i; room = c.set_value.ensures.room i } })))
          ∙ sym (ap (λ f. add_found K f c.args.a c.args.b c.args.w (state_of m)) (found_at (is_link K κ) ls p d₀ (at g c)));
    }

pub add_new-requires : goal.add_new-requires
add_new-requires g c =
    let K = keys g.N.Compare.value g.N.Compare.order in
    let m : Parts g.row.N.Denot g.row.E.Denot = record { kind = c.args.kind; rows = c.args.adjacency.now; links = c.args.links.now } in
    record {
      sound = c.requires.sound;
      absent = sym (key_search K.value K.order g.N.NodeTrait.hashed m c.args.a c.args.b c.edge_key.result c.edge_key.ensures)
          ∙ sym c.find.ensures
          ∙ c.in-Err.is;
    }

pub returns-in-Err : goal.returns-in-Err
returns-in-Err g c =
    let K = keys g.N.Compare.value g.N.Compare.order in
    let m : Parts g.row.N.Denot g.row.E.Denot = record { kind = c.args.kind; rows = c.args.adjacency.now; links = c.args.links.now } in
    let ls = m.links.entries in
    let κ = canon K m.kind (K.value c.args.a) (K.value c.args.b) in
    let off : position (is_link K κ) ls ≡ None =
    sym (link_sought K m.kind c.args.a c.args.b ls _ c.edge_key.ensures) ∙ found_vacant _ _ _ (sym c.find.ensures ∙ c.in-Err.is) in
    record {
      sound = c.add_new.ensures.sound;
      done = c.add_new.ensures.done ∙ sym (ap (λ f. add_found K f c.args.a c.args.b c.args.w (state_of m)) (found_none (is_link K κ) ls off));
    }
