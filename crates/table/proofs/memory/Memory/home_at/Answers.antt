use Rattle.std.proofs.Common.{◌≡◌, ◌<◌, length, sym, refl, ap, ◌∙◌, arith}
use Rattle.std.proofs.lemmas.List.{length-map}
use Rattle.table.specs.Slots.{pairs}
use Rattle.table.specs.Index.{home, capacity_of}
use Rattle.table.proofs.Capacity.{within_memory, within_links}
use Rattle.table.proofs.Homes.{home_at, home_below}
use Rattle.table.proofs.memory.Memory.home_at.Goals as goal

pub key_of-requires : goal.key_of-requires
key_of-requires g c = omega (arith, c.requires, within_memory c.args.self.now)

pub home_of-requires : goal.home_of-requires
home_of-requires g c = omega (arith, c.capacity.ensures, within_links c.args.self.now)

pub returns : goal.returns
returns g c =
    let s = c.args.self.now in
    let e : c.home_of.result ≡ home (capacity_of s) c.hash.result =
    c.home_of.ensures ∙ ap (λ z. home z c.hash.result) c.capacity.ensures in
    let lt : c.args.i < length s = omega (arith, c.requires, within_memory s) in
    record {
      home =
          home_at g.K.NodeTrait.hashed (capacity_of s) (pairs s) c.args.i c.key_of.result (simp length-map lt) c.key_of.ensures
          ∙ (ap (λ z. home (capacity_of s) z) (c.hash.ensures c.key_of.result refl) ∙ sym e);
      below = omega (arith, e, home_below (capacity_of s) c.hash.result (omega arith));
    }
