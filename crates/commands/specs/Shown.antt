-- The very bytes that are written of an answer, of a link and of a complaint. Assumes nothing.
use Rattle.std.specs.Prelude.{ℕ, List, ◌++◌, Some, None, codes, decimal, Option}
use Rattle.keys.specs.Refusals.{number_of}
use Rattle.commands.specs.declared.answers.Answer.{Answer}
use Rattle.commands.specs.declared.answers.Answer.TheVariants as answer
use Rattle.commands.specs.declared.answers.Line.{Line}
use Rattle.commands.specs.declared.faults.Complaint.{Complaint}
use Rattle.commands.specs.declared.faults.Fault.{Fault}
use Rattle.commands.specs.declared.faults.Fault.TheVariants as fault

-- what became of the gap that a removal left
abbrev pub gap_text : ℕ → Option ℕ → List ℕ
gap_text gap (Some last) = codes ", place " ++ (decimal last ++ (codes " moved to place " ++ decimal gap))
gap_text gap None = codes ", no gap"

abbrev pub answer_text : Answer → List ℕ
answer_text (answer.New place) = codes "new at place " ++ decimal place
answer_text (answer.Replaced price) = codes "replaced " ++ decimal price.0
answer_text (answer.Refused refusal) = codes "refused " ++ decimal (number_of refusal)
answer_text (answer.Quoted price place) = decimal price.0 ++ (codes " at place " ++ decimal place)
answer_text answer.Nothing = codes "nothing there"
answer_text (answer.Removed price gap moved) = codes "removed " ++ (decimal price.0 ++ gap_text gap moved)
answer_text (answer.Listed count) = codes "links: " ++ decimal count
answer_text (answer.Cleared count) = codes "cleared " ++ decimal count

-- place 0: 7 9 500
abbrev pub line_text : Line → List ℕ
line_text l =
    codes "place " ++ (decimal l.place ++ (codes ": " ++ (decimal l.from.0 ++ (codes " " ++ (decimal l.to.0 ++ (codes " " ++ decimal l.price.0))))))

abbrev pub fault_text : Fault → List ℕ
fault_text fault.UnknownWord = codes "unknown word"
fault_text fault.MissingWord = codes "missing word"
fault_text fault.SurplusWord = codes "surplus word"
fault_text fault.NotANumber = codes "not a number"
fault_text fault.NumberOver32Bits = codes "number over 32 bits"

-- line 12: unknown word
abbrev pub complaint_text : Complaint → List ℕ
complaint_text c = codes "line " ++ (decimal c.line ++ (codes ": " ++ fault_text c.fault))
