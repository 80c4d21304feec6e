use Rattle.std.proofs.Common.{refl}
use Rattle.table.proofs.Entries.{sound_empty}
use Rattle.table.proofs.table.Table.clear.Goals as goal

pub invariant_of-self : goal.invariant_of-self
invariant_of-self g c = sound_empty c.release.ensures.empty

pub returns : goal.returns
returns g c = rw (← c.self.view_is) (record { entries = refl; room = c.release.ensures.room })
