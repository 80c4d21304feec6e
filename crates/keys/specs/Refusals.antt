-- The numbers by which refusals are reported.
use Rattle.std.specs.Prelude.{ℕ}
use Rattle.keys.specs.declared.refusals.Refusal.{Refusal}
use Rattle.keys.specs.declared.refusals.Refusal.TheVariants.{LinksFull, NodesFull, NodeAbsent, LinkAbsent, PastCount, GraphNodesFull, GraphLinksFull, GraphMemoryShort, EndPastNodes, UnknownRecord, RecordCut, NoRoom, InputTooLong}

-- the number of each refusal
abbrev pub number_of : Refusal → ℕ
number_of LinksFull = 1
number_of NodesFull = 2
number_of NodeAbsent = 3
number_of LinkAbsent = 4
number_of PastCount = 5
number_of GraphNodesFull = 6
number_of GraphLinksFull = 7
number_of GraphMemoryShort = 8
number_of EndPastNodes = 9
number_of UnknownRecord = 10
number_of RecordCut = 11
number_of NoRoom = 12
number_of InputTooLong = 13
