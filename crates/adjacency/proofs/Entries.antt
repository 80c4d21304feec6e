-- The entries of the node table beside their rows.
use Rattle.std.proofs.Common.{◌≡◌, ℕ, ◌<◌, List, [], ◌∷◌, length, get_or, set, Some, Option, ap, ◌∙◌, arith}
use Rattle.std.proofs.lemmas.List.{get_or-map, length-map}
use Rattle.std.proofs.lemmas.Option.{slice_get-get_or}
use Rattle.table.specs.Tables.{replaced, replaced_at}
use Rattle.rows.specs.declared.cells.Cell.{Cell}
use Rattle.rows.specs.declared.cells.RowHead.{RowHead}
use Rattle.rows.specs.Links.{listed}
use Rattle.adjacency.specs.Stages.{rowed}

pub rowed_length : {N : Type 0} (mem : List (Cell N)) (es : List (N × RowHead)) → length (rowed mem es) ≡ length es
rowed_length mem es = length-map es _

pub row_read : {N : Type 0} (mem : List (Cell N)) (es : List (N × RowHead)) (j : ℕ) (e : N × RowHead) → j < length es → get_or (rowed mem es) j (e.0, []) ≡ ((get_or es j e).0, listed mem (get_or es j e).1)
row_read mem es j e l = get_or-map (λ x. (x.0, listed mem x.1)) es j e (e.0, []) l

-- some element of a list that has one
pub some_of : {X : Type 0} (xs : List X) (i : ℕ) → i < length xs → X
some_of [] i l = absurd (omega arith)
some_of (x ∷ xs) i l = x

-- what a table says of another value at a place
pub value_put : {A B : Type 0} (es es' : List (A × B)) (i : ℕ) (v : B) (o : Option B) → (o, es') ≡ replaced es i v → i < length es → (d : A × B) → es' ≡ set es i ((get_or es i d).0, v)
value_put es es' i v o e l d = ap (λ z. z.1) e ∙ ap (λ z. (replaced_at es i v z).1) (slice_get-get_or es i d l)

-- and of the old one
pub value_old : {A B : Type 0} (es es' : List (A × B)) (i : ℕ) (v : B) (o : Option B) → (o, es') ≡ replaced es i v → i < length es → (d : A × B) → o ≡ Some (get_or es i d).1
value_old es es' i v o e l d = ap (λ z. z.0) e ∙ ap (λ z. (replaced_at es i v z).0) (slice_get-get_or es i d l)
