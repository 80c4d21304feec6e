-- In each arm the value is its variant, and what was written is that variant's text.
use Rattle.commands.proofs.answers.AnswerDisplay.fmt.Goals as goal

pub returns-in-Quoted-clause-writes : goal.returns-in-Quoted-clause-writes
returns-in-Quoted-clause-writes g c = rw c.in-Quoted.is c.write-in-Quoted.ensures.writes

pub returns-in-Some-clause-writes : goal.returns-in-Some-clause-writes
returns-in-Some-clause-writes g c = rw (c.in-Removed.is, c.in-Some.is) c.write-in-Some.ensures.writes
