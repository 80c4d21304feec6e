use Rattle.std.proofs.Common.{sym}
use Rattle.table.proofs.Entries.{length_entries}
use Rattle.table.proofs.table.Table.len.Goals as goal

pub returns : goal.returns
returns g c = rw (← c.self.view_is) (sym (length_entries c.self.invariant.index))
