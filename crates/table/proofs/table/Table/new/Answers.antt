use Rattle.std.proofs.Common.{refl}
use Rattle.table.proofs.Entries.{sound_empty}
use Rattle.table.proofs.table.Table.new.Goals as goal

pub invariant_of-result : goal.invariant_of-result
invariant_of-result g c = sound_empty c.emptied.ensures.empty

pub returns : goal.returns
returns g c = record { entries = refl; room = c.emptied.ensures.room }
