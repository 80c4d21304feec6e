use Rattle.rows.proofs.memory.Rows.search.Goals as goal

pub returns : goal.returns
returns g c = rw (← c.self.view_is) c.search.ensures
