-- The room that a word asks for: its number, and at most 65,535.
use Rattle.std.specs.Prelude.{ℕ, min, List, Ok, Err, Result}
use Rattle.text.specs.declared.numbers.NumberFault.{NumberFault}
use Rattle.text.specs.Numbers.{number_of}

abbrev pub at_most : Result ℕ NumberFault → Result ℕ NumberFault
at_most (Ok n) = Ok (min n 65535)
at_most (Err fault) = Err fault

abbrev pub room_of : List ℕ → Result ℕ NumberFault
room_of word = at_most (number_of word)
