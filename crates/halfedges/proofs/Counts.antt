-- How often a cell stands in a list, as the list changes.
use Rattle.std.proofs.Common.{◌≡◌, ℕ, zero, suc, ◌+◌, ◌<◌, ◌≤◌, eqb, List, [], ◌∷◌, ◌++◌, length, get_or, set, sym, refl, ap, subst, ⊎_elim, arith}
use Rattle.std.proofs.lemmas.List.{get_or_default}
use Rattle.std.proofs.lemmas.Bool.{cases_eq, eq-eqb, ne_eqb}
use Rattle.lists.specs.Swap.{swap_removed}
use Rattle.rows.specs.Rings.{none, nth, Apart, Holds}
use Rattle.model.specs.Lists.{bit}
use Rattle.model.proofs.Tallies.{tally_push, tally_set, tally_swap_removed}
use Rattle.halfedges.specs.Cells.{count}

pub bit_same : (c : ℕ) → bit (eqb c c) ≡ 1
bit_same c = rw (eq-eqb c c refl) refl

pub bit_is : (c x : ℕ) → c ≡ x → bit (eqb c x) ≡ 1
bit_is c x e = rw (eq-eqb c x e) refl

pub bit_other : (c x : ℕ) → (c ≡ x → ⊥) → bit (eqb c x) ≡ 0
bit_other c x ne = rw (ne_eqb c x ne) refl

pub count_nth : (xs : List ℕ) (k : ℕ) → k < length xs → 1 ≤ count (nth xs k) xs
count_nth [] k l = absurd (omega arith)
count_nth (x ∷ xs) zero l = let b = bit_same x in omega arith
count_nth (x ∷ xs) (suc k) l = let h = count_nth xs k (omega arith) in omega arith

pub count_at : (xs : List ℕ) (k z : ℕ) → k < length xs → 1 ≤ count (get_or xs k z) xs
count_at xs k z l = subst (λ y. 1 ≤ count y xs) (get_or_default xs k none z l) (count_nth xs k l)

pub count_apart : (c : ℕ) (xs : List ℕ) → count c xs ≡ 0 → Apart c xs
count_apart c xs z k l e = let h = count_nth xs k l in let q = ap (λ x. count x xs) e in omega arith

pub count_holds : (c : ℕ) (xs : List ℕ) → 1 ≤ count c xs → Holds c xs
count_holds c [] l = absurd (omega arith)
count_holds c (x ∷ xs) l =
    ⊎_elim
    (λ e. (0, omega arith, sym e))
    (λ ne. let r = count_holds c xs (let b = bit_other c x ne in omega arith) in (suc r.0, omega (arith, r.1), r.2))
    (cases_eq c x)

pub count_push : (x c : ℕ) (xs : List ℕ) → count x (xs ++ c ∷ []) ≡ count x xs + bit (eqb x c)
count_push x c xs = tally_push (λ z. bit (eqb x z)) xs c

pub count_set : (x c new k : ℕ) (xs : List ℕ) → k < length xs → nth xs k ≡ c → count x (set xs k new) + bit (eqb x c) ≡ count x xs + bit (eqb x new)
count_set x c new k xs l e =
    let t = tally_set (λ z. bit (eqb x z)) xs k new none l in
    let b = ap (λ z. bit (eqb x z)) e in
    omega arith

pub count_swap_removed : (x c k : ℕ) (xs : List ℕ) → k < length xs → nth xs k ≡ c → count x (swap_removed xs k) + bit (eqb x c) ≡ count x xs
count_swap_removed x c k xs l e =
    let t = tally_swap_removed (λ z. bit (eqb x z)) xs k none l in
    let b = ap (λ z. bit (eqb x z)) e in
    omega arith
