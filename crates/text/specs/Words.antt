-- The words of a line: the longest runs of bytes that are no blanks. Assumes nothing.
use Rattle.std.specs.Prelude.{◌≡◌, ℕ, Bool, not, ◌||◌, List, [], ◌∷◌, take, drop, Some, None, Option, ◌==◌}
use Rattle.std.specs.Borrow.{Bor}
use Rattle.std.specs.Option.{MatchOption}
use Rattle.std.specs.List.{prefix_len}
use Rattle.text.specs.declared.words.Words.{Words}

-- a space, a tab or a carriage return
abbrev pub blank : ℕ → Bool
blank b = b == 32 || (b == 9 || b == 13)

-- a byte that is part of a word
abbrev pub solid : ℕ → Bool
solid b = not (blank b)

-- the line without the blanks that it begins with
abbrev pub from_word : List ℕ → List ℕ
from_word line = drop (prefix_len blank line) line

-- the longest front without a blank, and what follows it
abbrev pub word_of : List ℕ → List ℕ
word_of line = take (prefix_len solid line) line

abbrev pub after_word : List ℕ → List ℕ
after_word line = drop (prefix_len solid line) line

-- the word that a line begins with, and what follows it
abbrev pub parts : List ℕ → Option (List ℕ × List ℕ)
parts [] = None
parts (b ∷ bs) = Some (word_of (b ∷ bs), after_word (b ∷ bs))

-- the first word of a line, and what follows it
unfoldable pub split : List ℕ → Option (List ℕ × List ℕ)
split line = parts (from_word line)

-- what is left of the line
abbrev pub left : Words → List ℕ
left words = words.rest.now

-- the next word is taken, where there is one
abbrev pub TakesWord : Words → Option (Bor (List ℕ)) → Words → Type 0
TakesWord before word after =
    MatchOption word ((split (left before) ≡ None) × (left after ≡ left before)) (λ w. split (left before) ≡ Some (w.now, left after))
