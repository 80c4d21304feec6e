use Rattle.std.proofs.Common.{◌≡◌, sym, refl, ap, ◌∙◌, arith}
use Rattle.table.specs.declared.table.Vacancy.{Vacancy}
use Rattle.table.specs.Index.{capacity_of}
use Rattle.table.specs.Tables.{vacancy}
use Rattle.table.proofs.Capacity.{within_links}
use Rattle.table.proofs.Homes.{home_below}
use Rattle.table.proofs.Seeks.{located_sought}
use Rattle.table.proofs.table.Table.find.Goals as goal

pub vacancy_of-w-requires : goal.vacancy_of-w-requires
vacancy_of-w-requires g c = omega (arith, c.capacity.ensures, within_links c.self.inside.memory)

pub seek-requires : goal.seek-requires
seek-requires g c =
    let cap = capacity_of c.self.inside.memory in
    let w : c.vacancy_of-w.result ≡ vacancy cap c.hash.result =
    c.vacancy_of-w.ensures ∙ ap (λ z. vacancy z c.hash.result) c.capacity.ensures in
    record {
      indexed = c.self.invariant.index;
      bucket =
          omega (arith, ap (λ (z : Vacancy). z.home) w, home_below cap c.hash.result (omega (arith, c.self.invariant.index.fits)));
      hashed = λ j e. ap (vacancy cap) (c.hash.ensures j e) ∙ sym w;
    }

pub returns : goal.returns
returns g c =
    let cap = capacity_of c.self.inside.memory in
    let w : c.vacancy_of-w.result ≡ vacancy cap (g.K.NodeTrait.hashed c.args.k.now) =
    c.vacancy_of-w.ensures
    ∙ (ap (λ z. vacancy z c.hash.result) c.capacity.ensures ∙ ap (vacancy cap) (sym (c.hash.ensures c.args.k.now refl))) in
    rw (← c.self.view_is)
    (c.ok_or.ensures.value
    ∙ located_sought g.K.Compare.order g.met.K.Compare.ordered g.K.Compare.value g.K.NodeTrait.hashed cap _ c.args.k.now c.seek.result _ c.self.invariant.apart
    c.seek.ensures w)
