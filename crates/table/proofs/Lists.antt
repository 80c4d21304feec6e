-- Writes to a list, seen through one part or by place.
use Rattle.std.proofs.Common.{◌≡◌, ℕ, ◌<◌, List, map, length, get_or, set, sym, ap, ◌∙◌}
use Rattle.std.proofs.lemmas.List.{map-set, set-get_or, get_or-set_same, get_or-set_other}
use Rattle.table.specs.Slots.{at}

-- a write that keeps the part
pub kept : {X Y : Type 0} (f : X → Y) (xs : List X) (i : ℕ) (y d : X) → f y ≡ f (get_or xs i d) → map f (set xs i y) ≡ map f xs
kept f xs i y d e =
    map-set f xs i y ∙ (ap (set (map f xs) i) e ∙ (sym (map-set f xs i (get_or xs i d)) ∙ ap (map f) (set-get_or xs i d)))

pub at_set : (l l' : List ℕ) (g v : ℕ) → l' ≡ set l g v → g < length l → at l' g ≡ v
at_set l l' g v e lt = ap (λ (z : List ℕ). get_or z g 0) e ∙ get_or-set_same l g v 0 lt

pub at_other : (l l' : List ℕ) (g v : ℕ) → l' ≡ set l g v → (i : ℕ) → (i ≡ g → ⊥) → at l' i ≡ at l i
at_other l l' g v e i ne = ap (λ (z : List ℕ). get_or z i 0) e ∙ get_or-set_other l g i v 0 ne

pub at_same : (l l' : List ℕ) → l' ≡ l → (i : ℕ) → at l' i ≡ at l i
at_same l l' e i = ap (λ (z : List ℕ). get_or z i 0) e

pub pair_is : {A B : Type 0} (a : A) (b : B) (p : A × B) → a ≡ p.0 → b ≡ p.1 → (a, b) ≡ p
pair_is a b p e f = ap (λ x. (x, b)) e ∙ ap (λ y. (p.0, y)) f
