-- A line without the newline that it may end in. Assumes nothing.
use Rattle.std.specs.Prelude.{ℕ, ◌-◌, Bool, cond, List, length, take, ◌==◌, slice_index}

abbrev pub ends_in_newline : List ℕ → Bool
ends_in_newline line = slice_index line (length line - 1) == 10

abbrev pub chopped : List ℕ → List ℕ
chopped line = cond (ends_in_newline line) (take (length line - 1) line) line
