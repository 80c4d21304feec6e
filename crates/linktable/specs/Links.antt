-- What each command answers, and the links then. A link is a pair of accounts with a price.
use Rattle.std.specs.Prelude.{ℕ, cond, List, [], length, Some, None, Option, ◌==◌}
use Rattle.std.specs.List.{slice_get}
use Rattle.keys.specs.Nodes.{by_number, by_both}
use Rattle.keys.specs.Order.{alike}
use Rattle.keys.specs.declared.nodes.Account.{Account}
use Rattle.keys.specs.declared.weights.Price.{Price}
use Rattle.keys.specs.declared.refusals.Refusal.TheVariants.{LinksFull}
use Rattle.lists.specs.Positions.{position}
use Rattle.table.specs.declared.table.Taken.{Taken}
use Rattle.table.specs.Tables.{appended, replaced, taken}
use Rattle.commands.specs.declared.command.Command.{Command}
use Rattle.commands.specs.declared.command.Command.TheVariants as command
use Rattle.commands.specs.declared.answers.Answer.{Answer}
use Rattle.commands.specs.declared.answers.Line.{Line}
use Rattle.commands.specs.declared.answers.Answer.TheVariants as answer

abbrev pub Link : Type 0
Link = (Account × Account) × Price

-- a key is told by the numbers of its two accounts
abbrev pub key_value : Account × Account → ℕ × ℕ
key_value k = (k.0.0, k.1.0)

-- the place of the link from a to b
abbrev pub place_of : List Link → Account → Account → Option ℕ
place_of links a b = position (λ l. alike (by_both by_number by_number) (key_value l.0) (key_value (a, b))) links

-- add: another price at the link's place, or the link at the end
abbrev pub told_new : Option ℕ × List Link → Answer × List Link
told_new (None, links) = (answer.Refused LinksFull, links)
told_new (Some place, links) = (answer.New place, links)

abbrev pub told_old : Option Price × List Link → Answer × List Link
told_old (None, links) = (answer.Nothing, links)
told_old (Some price, links) = (answer.Replaced price, links)

abbrev pub added : ℕ → List Link → Account → Account → Price → Option ℕ → Answer × List Link
added room links a b price None = told_new (appended room links ((a, b), price))
added room links a b price (Some place) = told_old (replaced links place price)

-- price: what stands at the link's place
abbrev pub told_price : ℕ → Option Link → Answer
told_price place None = answer.Nothing
told_price place (Some l) = answer.Quoted l.1 place

abbrev pub quoted : List Link → Option ℕ → Answer
quoted links None = answer.Nothing
quoted links (Some place) = told_price place (slice_get links place)

-- remove: the link leaves by swap removal; which place filled the gap, unless the link was the last
abbrev pub filler : ℕ → ℕ → Option ℕ
filler last gap = cond (last == gap) None (Some last)

abbrev pub taken_by : List Link → Option ℕ → Option (Taken (Account × Account) Price) × List Link
taken_by links None = (None, links)
taken_by links (Some place) = taken links place

abbrev pub told_taken : Option (Taken (Account × Account) Price) × List Link → Answer × List Link
told_taken (None, links) = (answer.Nothing, links)
told_taken (Some t, links) = (answer.Removed t.entry.1 t.gap (filler t.last t.gap), links)

abbrev pub removed : List Link → Option ℕ → Answer × List Link
removed links None = (answer.Nothing, links)
removed links (Some place) = told_taken (taken links place)

-- what a command answers, and the links after it
abbrev pub performed : ℕ → List Link → Command → Answer × List Link
performed room links (command.Add a b price) = added room links a b price (place_of links a b)
performed room links (command.Quote a b) = (quoted links (place_of links a b), links)
performed room links (command.Remove a b) = removed links (place_of links a b)
performed room links command.List = (answer.Listed (length links), links)
performed room links command.Clear = (answer.Cleared (length links), [])

-- a line of the list
abbrev pub listed : ℕ → Option Link → Option Line
listed place None = None
listed place (Some l) = Some (record { place = place; from = l.0.0; to = l.0.1; price = l.1 })
