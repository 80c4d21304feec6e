-- The position of the first element that passes a test.
use Rattle.std.specs.Prelude.{ℕ, suc, Bool, cond, List, [], ◌∷◌, Some, None, Option}

abbrev pub one_on : Option ℕ → Option ℕ
one_on None = None
one_on (Some i) = Some (suc i)

abbrev pub position : {A : Type 0} → (A → Bool) → List A → Option ℕ
position p [] = None
position p (x ∷ xs) = cond (p x) (Some 0) (one_on (position p xs))
