use Rattle.std.proofs.Common.{◌≡◌, ◌+◌, ◌/◌, ◌<◌, min, [], ◌∷◌, ◌++◌, length, None, Ok, sym, ap, ◌∙◌, subst, arith}
use Rattle.std.proofs.lemmas.Bool.{cond-true, cond-false, lt-leb, le-ltb, lt-ltb}
use Rattle.model.specs.Keys.{keys}
use Rattle.model.specs.Maps.{edge_key, wanted}
use Rattle.halfedges.specs.Cells.{noded, wrote, Whole}
use Rattle.halfedges.proofs.Rows.{length_noded}
use Rattle.halfedges.proofs.Stands.{length_wrote}
use Rattle.adjacency.specs.Stages.{rows_of, keys_of}
use Rattle.adjacency.proofs.Entries.{rowed_length}
use Rattle.graphmap.specs.Parts.{Parts, Sound}
use Rattle.graphmap.proofs.Keying.{key_search, search_absent}
use Rattle.graphmap.proofs.Kept.{sound_more}
use Rattle.graphmap.proofs.TableCalls.{added}
use Rattle.graphmap.proofs.Wants.{lacking_wanted}
use Rattle.graphmap.proofs.adding.add_new.Given as given
use Rattle.graphmap.proofs.adding.add_new.Goals as goal

pub returns-then-room-len : goal.returns-then-room-len
returns-then-room-len g c =
    let K = keys g.N.Compare.value g.N.Compare.order in
    let m : Parts g.row.N.Denot g.row.E.Denot = record { kind = c.args.kind; rows = c.args.adjacency.now; links = c.args.links.now } in
    let a = c.args.a in
    let b = c.args.b in
    let ns = noded (keys_of m.rows) (rows_of m.rows) in
    let free = lt-leb (min m.links.room (length (keys_of m.rows) / 2)) (length m.links.entries) (omega (arith, c.len-p.ensures, c.capacity.ensures.room, c.link_room.ensures)) in
    let more = c.lacking-more.ensures
    ∙ lacking_wanted K a b _ _ m.rows c.find-first.ensures.found c.find-second.ensures.found c.same.ensures in
    let full = lt-ltb m.rows.nodes.room (length ns + wanted K a b ns) (omega (arith, c.len.ensures.count, c.room.ensures, length_noded (keys_of m.rows) (rows_of m.rows), rowed_length m.rows.cells m.rows.nodes.entries)) in
    record { sound = c.requires.sound; done = sym (cond-false _ _ _ free ∙ cond-true _ _ _ full) }

pub append-requires : goal.append-requires
append-requires g c =
    let K = keys g.N.Compare.value g.N.Compare.order in
    let m : Parts g.row.N.Denot g.row.E.Denot = record { kind = c.args.kind; rows = c.args.adjacency.now; links = c.args.links.now } in
    record {
      absent = key_search K.value K.order g.N.NodeTrait.hashed m c.args.a c.args.b c.edge_key.result c.edge_key.ensures
          ∙ c.requires.absent;
    }

-- there is room for the link, and it is put at the end
module _ (g : given.Over) (c : goal.After-append g) where
  room : length c.args.links.now.entries < min c.args.links.now.room (length (keys_of c.args.adjacency.now) / 2)
  room = omega (arith, c.len-p.ensures, c.capacity.ensures.room, c.link_room.ensures)

  more_links : c.append.new.self.entries ≡ c.args.links.now.entries ++ (edge_key (keys g.N.Compare.value g.N.Compare.order) c.args.kind c.args.a c.args.b, c.args.w) ∷ []
  more_links =
      added c.args.links.now.entries c.args.links.now.room _ c.append.ensures.done (omega (arith, room))
      ∙ ap (λ q. c.args.links.now.entries ++ (q, c.args.w) ∷ []) c.edge_key.ensures

-- the links fit the rows then
kept : (g : given.Over) (c : goal.After-append g) → Sound g.N.Compare.value g.N.Compare.order (record { kind = c.args.kind; rows = c.join.new.self; links = c.append.new.self })
kept g c =
    let K = keys g.N.Compare.value g.N.Compare.order in
    let m : Parts g.row.N.Denot g.row.E.Denot = record { kind = c.args.kind; rows = c.args.adjacency.now; links = c.args.links.now } in
    let p = c.len-p.ensures in
    let off = search_absent K.value K.order g.met.N.Compare.ordered g.N.NodeTrait.hashed m c.args.a c.args.b c.args.v c.requires.absent in
    sound_more c.requires.sound c.args.a c.args.b c.args.w c.join.new.self c.append.new.self (omega (arith, room g c)) off (more_links g c)
    (c.join.ensures.keys ∙ ap (λ z. wrote (keys_of m.rows) z c.args.a c.args.b) p)
    (λ d. subst (λ z. Whole K d (keys_of c.join.new.self) (z + 1) (rows_of c.join.new.self)) p (c.join.ensures.whole d))

pub returns : goal.returns
returns g c =
    let K = keys g.N.Compare.value g.N.Compare.order in
    let m : Parts g.row.N.Denot g.row.E.Denot = record { kind = c.args.kind; rows = c.args.adjacency.now; links = c.args.links.now } in
    let a = c.args.a in
    let b = c.args.b in
    let w = c.args.w in
    let ks = keys_of m.rows in
    let ns = noded ks (rows_of m.rows) in
    let j = c.join.ensures in
    let free = lt-leb (min m.links.room (length ks / 2)) (length m.links.entries) (room g c) in
    let more = c.lacking-more.ensures
    ∙ lacking_wanted K a b _ _ m.rows c.find-first.ensures.found c.find-second.ensures.found c.same.ensures in
    let has = le-ltb m.rows.nodes.room (length ns + wanted K a b ns) (omega (arith, c.len.ensures.count, c.room.ensures, c.find-first.ensures.stage.fits, length_noded ks (rows_of m.rows), rowed_length m.rows.cells m.rows.nodes.entries)) in
    let same : length (keys_of c.join.new.self) ≡ length ks = ap length j.keys ∙ length_wrote a ks c.len-p.result a b in
    record {
      sound = kept g c;
      done = (λ i. (Ok None, record { kind = m.kind; node_room = j.room i; link_room = min (c.append.ensures.room i) (same i / 2); nodes = j.joined i; links = more_links g c i }))
          ∙ sym (cond-false _ _ _ free ∙ cond-false _ _ _ has);
    }
