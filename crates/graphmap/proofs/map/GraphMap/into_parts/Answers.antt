use Rattle.graphmap.proofs.map.GraphMap.into_parts.Goals as goal

pub returns-clause-sound : goal.returns-clause-sound
returns-clause-sound g c =
    let e = c.into_parts-nodes.ensures in
    rw (e.nodes, e.cells) (record { stage = e.stage; sound = c.self.invariant })
