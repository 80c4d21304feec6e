-- In each arm the word was read, and the table says of it what was done.
use Rattle.std.proofs.Common.{◌≡◌, rules, arith, codes, Ok, Err, ◌∙◌}
use Rattle.commands.specs.Commands.{asked, and_then, rest_of}
use Rattle.commands.proofs.Arms.{asked_of}
use Rattle.commands.proofs.parsing.Arguments.command.Goals as goal
use Rattle.commands.proofs.parsing.Arguments.command.Goals.{After-end, in-add+in_ok-from-in-add+in_ok-price-in-add, in-list, in-price+in_ok-from-in-price, in-clear, in-remove+in_ok-from-in-remove}

pub returns-in_err-from-in-remove : goal.returns-in_err-from-in-remove
returns-in_err-from-in-remove c = asked_of c.args.word.now _ (codes "remove") (omega arith) (search rules) (search rules)

-- what was read is asked, if the line ends
read : (c : After-end) → and_then c.end.result (λ _. Ok c.if-word-lt4.command) ≡ asked c.args.word.now (rest_of c.args.self)
read c = elim c.if-word-lt4.branch [
  | in-add+in_ok-from-in-add+in_ok-price-in-add w ↦ asked_of c.args.word.now _ (codes "add") (omega arith) (search rules) (search rules)
  | in-list w ↦ asked_of c.args.word.now _ (codes "list") (omega arith) (search rules) (search rules)
  | in-price+in_ok-from-in-price w ↦ asked_of c.args.word.now _ (codes "price") (omega arith) (search rules) (search rules)
  | in-clear w ↦ asked_of c.args.word.now _ (codes "clear") (omega arith) (search rules) (search rules)
  | in-remove+in_ok-from-in-remove w ↦ asked_of c.args.word.now _ (codes "remove") (omega arith) (search rules) (search rules)
]

pub returns-in_err-end : goal.returns-in_err-end
returns-in_err-end c =
    let failed : c.from_residual-in_err-end.result ≡ Err c.in_err-end.field-0.0 = search rules in
    failed ∙ (rw c.in_err-end.was at (read (goal.at.returns-in_err-end c).After-end))

pub returns : goal.returns
returns c = rw c.in_ok-end.was at (read (goal.at.returns c).After-end)
