-- What a line asks for: its first word says what, and the words after it are numbers. Assumes nothing.
use Rattle.std.specs.Prelude.{ℕ, Bool, false, cond, List, [], ◌∷◌, Some, None, Ok, Err, codes, Option, Result, ◌==◌}
use Prim.Native.String.{String}
use Rattle.std.specs.Str.{bytes_eq}
use Rattle.keys.specs.declared.nodes.Account.{Account}
use Rattle.keys.specs.declared.weights.Price.{Price}
use Rattle.text.specs.declared.numbers.NumberFault.{NumberFault}
use Rattle.text.specs.declared.numbers.NumberFault.TheVariants as number
use Rattle.text.specs.Words.{split, left}
use Rattle.text.specs.Numbers.{number_of}
use Rattle.commands.specs.declared.parsing.Arguments.{Arguments}
use Rattle.commands.specs.declared.command.Command.{Command}
use Rattle.commands.specs.declared.command.Command.TheVariants as command
use Rattle.commands.specs.declared.faults.Fault.{Fault}
use Rattle.commands.specs.declared.faults.Fault.TheVariants.{UnknownWord, MissingWord, SurplusWord, NotANumber, NumberOver32Bits}

-- what is left of the line
abbrev pub rest_of : Arguments → List ℕ
rest_of arguments = left arguments.words

-- one step and then the next, unless the first finds a fault
abbrev pub and_then : {X Y : Type 0} → Result X Fault → (X → Result Y Fault) → Result Y Fault
and_then (Ok x) next = next x
and_then (Err f) next = Err f

-- a step's answer, with what it leaves of the line
abbrev pub leaving : {X : Type 0} → Result X Fault → List ℕ → Result (X × List ℕ) Fault
leaving (Ok x) rest = Ok (x, rest)
leaving (Err f) rest = Err f

abbrev pub fault_of : NumberFault → Fault
fault_of number.NotANumber = NotANumber
fault_of number.OverLimit = NumberOver32Bits

abbrev pub checked : Result ℕ NumberFault → Result ℕ Fault
checked (Ok n) = Ok n
checked (Err e) = Err (fault_of e)

abbrev pub wanted : Option (List ℕ × List ℕ) → Result (List ℕ × List ℕ) Fault
wanted None = Err MissingWord
wanted (Some p) = Ok p

abbrev pub unwanted : Option (List ℕ × List ℕ) → Result (Unit {0}) Fault
unwanted None = Ok tt
unwanted (Some p) = Err SurplusWord

-- the next word as a number, and what follows it
abbrev pub next_number : List ℕ → Result (ℕ × List ℕ) Fault
next_number rest = and_then (wanted (split rest)) (λ p. and_then (checked (number_of p.0)) (λ n. Ok (n, p.1)))

abbrev pub next_key : List ℕ → Result (Account × List ℕ) Fault
next_key rest = and_then (next_number rest) (λ p. Ok (record { 0 = p.0 }, p.1))

abbrev pub next_price : List ℕ → Result (Price × List ℕ) Fault
next_price rest = and_then (next_number rest) (λ p. Ok (record { 0 = p.0 }, p.1))

-- two keys: where a link leaves and where it comes to
abbrev pub next_link : List ℕ → Result ((Account × Account) × List ℕ) Fault
next_link rest = and_then (next_key rest) (λ p. and_then (next_key p.1) (λ q. Ok ((p.0, q.0), q.1)))

-- no word is left
abbrev pub at_end : List ℕ → Result (Unit {0}) Fault
at_end rest = unwanted (split rest)

-- add FROM TO PRICE
abbrev pub asks_add : List ℕ → Result Command Fault
asks_add rest =
    and_then (next_link rest) (λ p. and_then (next_price p.1) (λ q. and_then (at_end q.1) (λ _. Ok (command.Add p.0.0 p.0.1 q.0))))

-- price FROM TO
abbrev pub asks_quote : List ℕ → Result Command Fault
asks_quote rest = and_then (next_link rest) (λ p. and_then (at_end p.1) (λ _. Ok (command.Quote p.0.0 p.0.1)))

-- remove FROM TO
abbrev pub asks_remove : List ℕ → Result Command Fault
asks_remove rest = and_then (next_link rest) (λ p. and_then (at_end p.1) (λ _. Ok (command.Remove p.0.0 p.0.1)))

-- a word that takes nothing
abbrev pub asks_alone : Command → List ℕ → Result Command Fault
asks_alone c rest = and_then (at_end rest) (λ _. Ok c)

abbrev is : List ℕ → String → Bool
is word name = bytes_eq word (codes name)

-- the table: the first word, and what follows it
abbrev pub asked : List ℕ → List ℕ → Result Command Fault
asked word rest =
    cond (is word "add") (asks_add rest)
    (cond (is word "price") (asks_quote rest)
    (cond (is word "remove") (asks_remove rest)
    (cond (is word "list") (asks_alone command.List rest)
    (cond (is word "clear") (asks_alone command.Clear rest)
    (Err UnknownWord)))))

-- a remark begins with '#'
abbrev pub remark : List ℕ → Bool
remark [] = false
remark (b ∷ bs) = b == 35

-- a line without a word asks for nothing
abbrev pub worded : Option (List ℕ × List ℕ) → Result (Option Command) Fault
worded None = Ok None
worded (Some p) = and_then (asked p.0 p.1) (λ c. Ok (Some c))

abbrev pub parsed : List ℕ → Result (Option Command) Fault
parsed line = cond (remark line) (Ok None) (worded (split line))
