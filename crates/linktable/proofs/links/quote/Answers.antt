use Rattle.std.proofs.Common.{sym, ap, ◌∙◌}
use Rattle.std.proofs.lemmas.Option.{slice_get-get_or}
use Rattle.lists.proofs.Positions.{found_within}
use Rattle.table.proofs.Seeks.{found_place}
use Rattle.commands.specs.declared.answers.Answer.TheVariants as answer
use Rattle.linktable.specs.Links.{Link, quoted, told_price}
use Rattle.linktable.proofs.links.quote.Goals as goal

pub value_at-requires : goal.value_at-requires
value_at-requires c = record {
  place = found_within _ c.args.links.now.entries c.in-Ok.place (found_place _ _ _ (sym c.in-Ok.is ∙ c.find.ensures));
}

pub returns-in-Ok : goal.returns-in-Ok
returns-in-Ok c =
    let t = c.args.links.now in
    let place = c.in-Ok.place in
    let found = found_place _ _ _ (sym c.in-Ok.is ∙ c.find.ensures) in
    let none : Link = ((record { 0 = 0 }, record { 0 = 0 }), record { 0 = 0 }) in
    ap (λ z. answer.Quoted z place) (c.value_at.ensures none)
    ∙ (sym (ap (told_price place) (slice_get-get_or t.entries place none (found_within _ t.entries place found)))
    ∙ ap (quoted t.entries) (sym found))
