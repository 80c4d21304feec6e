use Rattle.std.proofs.Common.{sym, ap, ◌∙◌, arith}
use Rattle.std.proofs.lemmas.List.{take-map}
use Rattle.table.specs.Slots.{pairs}
use Rattle.table.proofs.Entries.{length_entries}
use Rattle.table.proofs.Capacity.{within_links}
use Rattle.table.proofs.table.Table.as_slice.Goals as goal

pub returns : goal.returns
returns g c = rw (← c.self.view_is) (record {
  entries = ap pairs c.first.ensures ∙ sym (take-map _ c.self.inside.len c.self.inside.memory);
  fits = omega (arith, length_entries c.self.invariant.index, c.self.invariant.index.fits);
  most = within_links c.self.inside.memory;
  apart = c.self.invariant.apart;
})
