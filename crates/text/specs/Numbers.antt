-- The number that a word of decimal digits writes. Assumes nothing.
use Rattle.std.specs.Prelude.{ℕ, ◌+◌, ◌-◌, ◌*◌, ◌^◌, Bool, true, false, cond, ◌&&◌, List, [], ◌∷◌, Ok, Err, Result, nat_le, nat_lt}
use Rattle.text.specs.declared.numbers.NumberFault.{NumberFault}
use Rattle.text.specs.declared.numbers.NumberFault.TheVariants.{NotANumber, OverLimit}

-- a byte from '0' to '9'
abbrev pub digit : ℕ → Bool
digit b = nat_le 48 b && nat_le b 57

-- what one digit counts
abbrev pub digit_of : ℕ → Result ℕ NumberFault
digit_of b = cond (digit b) (Ok (b - 48)) (Err NotANumber)

abbrev pub all_digits : List ℕ → Bool
all_digits [] = true
all_digits (b ∷ bs) = digit b && all_digits bs

-- the digits read on from the number so far
abbrev pub read_on : ℕ → List ℕ → ℕ
read_on n [] = n
read_on n (b ∷ bs) = read_on (n * 10 + (b - 48)) bs

-- the number, where it has at most 32 bits
abbrev pub limited : ℕ → Result ℕ NumberFault
limited n = cond (nat_lt n (2 ^ 32)) (Ok n) (Err OverLimit)

-- at least one byte, and each a digit
abbrev pub is_number : List ℕ → Bool
is_number [] = false
is_number (b ∷ bs) = all_digits (b ∷ bs)

-- the number that a word writes, or why it writes none
unfoldable pub number_of : List ℕ → Result ℕ NumberFault
number_of word = cond (is_number word) (limited (read_on 0 word)) (Err NotANumber)
