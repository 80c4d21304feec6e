use Rattle.std.proofs.Common.{rules, ◌≡◌, ℕ, List, length, min, take, ap, ◌∙◌}
use Rattle.std.proofs.lemmas.List.{take_min}
use Rattle.rows.proofs.memory.Rows.new.Goals as goal

-- as many as there are, and at most n
take_used : {X : Type 0} (n k : ℕ) (xs : List X) → k ≡ min n (length xs) → take k xs ≡ take n xs
take_used n k xs e = ap (λ j. take j xs) e ∙ take_min n xs

pub returns : goal.returns
returns g c = take_used 131070 _ c.args.cells.now (search rules)
