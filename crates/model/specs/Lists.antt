-- Elements of a list by a test, and sums over a list.
use Rattle.std.specs.Prelude.{ℕ, ◌+◌, Bool, true, false, cond, List, [], ◌∷◌, Some, None, Option}
use Rattle.lists.specs.Positions.{position}
use Rattle.lists.specs.Swap.{swap_removed}

abbrev pub bit : Bool → ℕ
bit true = 1
bit false = 0

-- whether there is a value
abbrev pub some : {X : Type 0} → Option X → Bool
some None = false
some (Some x) = true

module _ {X : Type 0} where
  -- the sum of f over a list
  abbrev pub tally : (X → ℕ) → List X → ℕ
  tally f [] = 0
  tally f (x ∷ xs) = f x + tally f xs

  -- how many elements pass
  abbrev pub many : (X → Bool) → List X → ℕ
  many p xs = tally (λ x. bit (p x)) xs

  -- the first element that passes
  abbrev pub found : (X → Bool) → List X → Option X
  found p [] = None
  found p (x ∷ xs) = cond (p x) (Some x) (found p xs)

  abbrev pub out_at : List X → Option ℕ → List X
  out_at xs None = xs
  out_at xs (Some i) = swap_removed xs i

  -- the first element that passes leaves by swap removal
  abbrev pub without : (X → Bool) → List X → List X
  without p xs = out_at xs (position p xs)

  -- g on the first element that passes
  abbrev pub amended : (X → Bool) → (X → X) → List X → List X
  amended p g [] = []
  amended p g (x ∷ xs) = cond (p x) (g x ∷ xs) (x ∷ amended p g xs)

  -- those that pass, in order
  abbrev pub kept : (X → Bool) → List X → List X
  kept p [] = []
  kept p (x ∷ xs) = cond (p x) (x ∷ kept p xs) (kept p xs)
