use Rattle.std.proofs.Common.{◌≡◌, ◌<◌, [], ◌∷◌, ◌++◌, length, Some, Err, sym, ap, ◌∙◌, arith}
use Rattle.std.proofs.lemmas.List.{length_push}
use Rattle.std.proofs.lemmas.Bool.{cond-true, lt-ltb}
use Rattle.lists.specs.Positions.{position}
use Rattle.table.specs.Tables.{sought}
use Rattle.table.proofs.Apart.{apart_push}
use Rattle.table.proofs.Seeks.{sought_vacant}
use Rattle.model.specs.Keys.{keys, eq}
use Rattle.rows.specs.Links.{bare}
use Rattle.adjacency.specs.Seats.{vacant, seat_by, seated_in}
use Rattle.adjacency.proofs.Seating.{found_vacant, seated_place, seated_stage}
use Rattle.adjacency.proofs.adjacency.NodesWithRows.seat.Given as given
use Rattle.adjacency.proofs.adjacency.NodesWithRows.seat.Goals as goal

-- an absent node is put at the end
module _ (g : given.Over) (c : goal.After-append g) where
  absent : sought g.N.Compare.order g.N.Compare.value g.N.NodeTrait.hashed c.self.inside.nodes.room c.self.inside.nodes.entries c.args.n ≡ Err c.in-Err.w
  absent =
      ap (λ z. sought g.N.Compare.order g.N.Compare.value g.N.NodeTrait.hashed z.nodes.room z.nodes.entries c.args.n) c.self.view_is ∙ sym c.requires.found ∙ c.in-Err.is

  free : length c.self.inside.nodes.entries < c.self.inside.nodes.room
  free =
      omega (arith, c.requires.room, ap vacant c.in-Err.is, ap (λ z. length z.nodes.entries) c.self.view_is, ap (λ z. z.nodes.room) c.self.view_is)

  added : c.append.new.self.entries ≡ c.self.inside.nodes.entries ++ (c.args.n, bare) ∷ []
  added =
      ap (λ z. z.1) (c.append.ensures.done ∙ cond-true _ _ _ (lt-ltb (length c.self.inside.nodes.entries) c.self.inside.nodes.room free))
      ∙ ap (λ h. c.self.inside.nodes.entries ++ (c.args.n, h) ∷ []) c.empty.ensures

  seated : c.append.new.self.entries ≡ seated_in (keys g.N.Compare.value g.N.Compare.order) c.args.n c.self.inside.nodes.entries
  seated = added ∙ sym (ap (λ o. seat_by o c.args.n c.self.inside.nodes.entries) (found_vacant _ _ _ absent))

pub invariant_of-self : goal.invariant_of-self
invariant_of-self g c =
    let es = c.self.inside.nodes.entries in
    let n = c.args.n in
    let away = sought_vacant g.N.Compare.order g.met.N.Compare.ordered g.N.Compare.value g.N.NodeTrait.hashed c.self.inside.nodes.room es n c.in-Err.w (absent g c) in
    seated_stage n c.append.new.self c.self.invariant (seated g c)
    (rw (added g c) (apart_push g.N.Compare.value es n bare c.self.invariant.apart away.0))
    (omega (arith, free g c, ap length (added g c), length_push es (n, bare), c.append.ensures.room))

pub returns-in-Err : goal.returns-in-Err
returns-in-Err g c =
    let is = c.self.view_is in
    let K = keys g.N.Compare.value g.N.Compare.order in
    let n = c.args.n in
    record {
      there = ap (position (λ e. eq K (K.value e.0) (K.value n))) (seated g c)
          ∙ seated_place K n c.self.inside.nodes.entries g.met.N.Compare.ordered (found_vacant _ _ _ (absent g c))
          ∙ sym (ap Some c.len-i.ensures);
      seated = seated g c ∙ ap (λ z. seated_in K n z.nodes.entries) is;
      room = c.append.ensures.room ∙ ap (λ z. z.nodes.room) is;
      cells = ap (λ z. z.cells) is;
    }
