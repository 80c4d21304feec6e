use Rattle.std.proofs.Common.{ap, ◌∙◌}
use Rattle.lists.proofs.Positions.{found_within}
use Rattle.model.specs.Keys.{keys, eq}
use Rattle.adjacency.proofs.Seating.{ok_found}
use Rattle.graphmap.specs.Parts.{state_of}
use Rattle.graphmap.proofs.Removals.{first_absent, second_absent, entry_absent, entry_held, twin_there, not_taken, gap_off, gap_below, last_within, sound_then, link_removed}
use Rattle.graphmap.proofs.removing.remove_link.Goals as goal

-- where an end is absent, or no row has the entry, there is no link
pub returns-in_err-i : goal.returns-in_err-i
returns-in_err-i g c =
    let K = keys g.N.Compare.value g.N.Compare.order in
    let none = first_absent c.requires.sound c.find.ensures.stage g.met.N.Compare.ordered c.args.a c.args.b (ok_found _ _ c.find.ensures.found c.in_err-i.ensures.value) in
    record { sound = c.requires.sound; done = ap (λ z. (z, state_of (record { kind = c.args.kind; rows = c.args.adjacency.now; links = c.args.links.now }))) c.from_residual.ensures ∙ none }

pub returns-in_err-j : goal.returns-in_err-j
returns-in_err-j g c =
    let K = keys g.N.Compare.value g.N.Compare.order in
    let i = ok_found _ _ c.find.ensures.found c.in_ok-i.ensures.value in
    let none = second_absent c.requires.sound c.find.ensures.stage g.met.N.Compare.ordered c.args.a c.args.b i (ok_found _ _ c.find-2.ensures.found c.in_err-j.ensures.value) in
    record { sound = c.requires.sound; done = ap (λ z. (z, state_of (record { kind = c.args.kind; rows = c.args.adjacency.now; links = c.args.links.now }))) c.from_residual-in_err-j.ensures ∙ none }

pub entry_of-requires : goal.entry_of-requires
entry_of-requires g c =
    let K = keys g.N.Compare.value g.N.Compare.order in
    record {
      from = found_within (λ e. eq K (K.value e.0) (K.value c.args.a)) _ c.in_ok-i.i (ok_found _ _ c.find.ensures.found c.in_ok-i.ensures.value);
      to = found_within (λ e. eq K (K.value e.0) (K.value c.args.b)) _ c.in_ok-j.j (ok_found _ _ c.find-2.ensures.found c.in_ok-j.ensures.value);
    }

pub returns-in_err-c : goal.returns-in_err-c
returns-in_err-c g c =
    let K = keys g.N.Compare.value g.N.Compare.order in
    let i = ok_found _ _ c.find.ensures.found c.in_ok-i.ensures.value in
    let j = ok_found _ _ c.find-2.ensures.found c.in_ok-j.ensures.value in
    let none = entry_absent c.requires.sound c.find.ensures.stage g.met.N.Compare.ordered c.args.a c.args.b i j (c.in_err-c.ensures c.args.a) in
    record { sound = c.requires.sound; done = ap (λ z. (z, state_of (record { kind = c.args.kind; rows = c.args.adjacency.now; links = c.args.links.now }))) c.from_residual-in_err-c.ensures ∙ none }

pub sever-requires : goal.sever-requires
sever-requires g c =
    let K = keys g.N.Compare.value g.N.Compare.order in
    let i = ok_found _ _ c.find.ensures.found c.in_ok-i.ensures.value in
    let j = ok_found _ _ c.find-2.ensures.found c.in_ok-j.ensures.value in
    record {
      from = found_within (λ e. eq K (K.value e.0) (K.value c.args.a)) _ c.in_ok-i.i i;
      to = found_within (λ e. eq K (K.value e.0) (K.value c.args.b)) _ c.in_ok-j.j j;
      held = entry_held c.requires.sound c.find.ensures.stage g.met.N.Compare.ordered c.args.a c.args.b i j c.in_ok-c.ensures;
      other = twin_there c.requires.sound c.find.ensures.stage g.met.N.Compare.ordered c.args.a c.args.b i j c.in_ok-c.ensures;
    }

-- the link is in its place
pub returns-in_err-taken : goal.returns-in_err-taken
returns-in_err-taken g c =
    let i = ok_found _ _ c.find.ensures.found c.in_ok-i.ensures.value in
    let j = ok_found _ _ c.find-2.ensures.found c.in_ok-j.ensures.value in
    absurd (not_taken c.requires.sound c.find.ensures.stage g.met.N.Compare.ordered c.args.a c.args.b i j c.in_ok-c.ensures c.in_err-taken.ensures.done)

pub settle-requires : goal.settle-requires
settle-requires g c =
    let i = ok_found _ _ c.find.ensures.found c.in_ok-i.ensures.value in
    let j = ok_found _ _ c.find-2.ensures.found c.in_ok-j.ensures.value in
    let v = c.sever.ensures in
    record {
      off = gap_off c.requires.sound c.find.ensures.stage g.met.N.Compare.ordered c.args.a c.args.b i j c.in_ok-c.ensures v.keys v.one v.two c.in_ok-taken.ensures.done;
      order = gap_below c.requires.sound c.find.ensures.stage g.met.N.Compare.ordered c.args.a c.args.b i j c.in_ok-c.ensures v.keys v.one v.two c.in_ok-taken.ensures.done;
      within = last_within c.requires.sound c.find.ensures.stage g.met.N.Compare.ordered c.args.a c.args.b i j c.in_ok-c.ensures v.keys v.one v.two c.in_ok-taken.ensures.done;
    }

pub returns : goal.returns
returns g c =
    let i = ok_found _ _ c.find.ensures.found c.in_ok-i.ensures.value in
    let j = ok_found _ _ c.find-2.ensures.found c.in_ok-j.ensures.value in
    let v = c.sever.ensures in
    let u = c.settle.ensures in
    record {
      sound = sound_then c.requires.sound c.find.ensures.stage g.met.N.Compare.ordered c.args.a c.args.b i j c.in_ok-c.ensures v.keys v.one v.two c.in_ok-taken.ensures.done
          c.settle.new.self u.keys c.swap_remove.new.self.room u.whole;
      done = link_removed c.requires.sound c.find.ensures.stage g.met.N.Compare.ordered c.args.a c.args.b i j c.in_ok-c.ensures v.keys v.one v.two c.in_ok-taken.ensures.done
          c.settle.new.self u.keys u.told (u.room ∙ v.room) c.swap_remove.ensures.room;
    }
