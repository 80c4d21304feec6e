-- The hashes of keys, as numbers of 64 bits.
use Rattle.std.specs.Prelude.{ℕ, ◌+◌, ◌*◌, ◌/◌, ◌%◌, ◌^◌, bit_or, bit_xor}

-- the product with 2 ^ 64 over the golden ratio, in 64 bits
abbrev pub spread_of : ℕ → ℕ
spread_of x = (x * 0x9E37_79B9_7F4A_7C15) % 2 ^ 64

-- the upper half joined to the lower by exclusive or, and the whole spread
abbrev pub fold_of : ℕ → ℕ
fold_of x = spread_of (bit_xor x (x / 2 ^ 32))

-- the 64 bits moved up by 29 places, and the upper 29 put below them
abbrev pub turned : ℕ → ℕ
turned x = bit_or ((x * 2 ^ 29) % 2 ^ 64) (x / 2 ^ 35)

-- a row, a section below 2 ^ 8 and a number below 2 ^ 16 as one number
abbrev pub packed_of : ℕ → ℕ → ℕ → ℕ
packed_of row section number = (row * 2 ^ 8 + section) * 2 ^ 16 + number

-- the hash of a seat
abbrev pub seat_hash : ℕ → ℕ → ℕ → ℕ
seat_hash row section number = fold_of (spread_of (packed_of row section number))

-- the hash of a pair, from those of its parts
abbrev pub pair_hash : ℕ → ℕ → ℕ
pair_hash first second = fold_of (bit_xor (turned first) second)
