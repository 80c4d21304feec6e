-- The directions of links, and the two kinds of graph.
use Rattle.std.specs.Prelude.{ℕ, Bool, true, false}
use Rattle.keys.specs.declared.kinds.Direction.{Direction}
use Rattle.keys.specs.declared.kinds.Direction.TheVariants.{Outgoing, Incoming}
use Rattle.keys.specs.declared.kinds.Kind.{Kind}
use Rattle.keys.specs.declared.kinds.Kind.TheVariants.{Directed, Undirected}

-- the other direction
abbrev pub opposite_of : Direction → Direction
opposite_of Outgoing = Incoming
opposite_of Incoming = Outgoing

-- the number of each direction
abbrev pub index_of : Direction → ℕ
index_of Outgoing = 0
index_of Incoming = 1

-- whether links have a direction
abbrev pub directed : Kind → Bool
directed Directed = true
directed Undirected = false
