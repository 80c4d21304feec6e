-- Sums over a list as its elements change.
use Rattle.std.proofs.Common.{◌≡◌, ℕ, zero, suc, ◌+◌, ◌<◌, ◌≤◌, Bool, true, false, List, [], ◌∷◌, ◌++◌, map, length, get_or, take, set, sym, refl, ap, ◌∙◌, subst, ⊎_elim, arith}
use Rattle.std.proofs.lemmas.List.{get_or-set_same, get_or-set_other, length-set}
use Rattle.std.proofs.lemmas.Bool.{cases_eq, cases_lt}
use Rattle.lists.specs.Swap.{swap_removed}
use Rattle.model.specs.Lists.{bit, tally}

module _ {X : Type 0} where
  pub tally_push : (f : X → ℕ) (xs : List X) (y : X) → tally f (xs ++ y ∷ []) ≡ tally f xs + f y
  tally_push f [] y = omega arith
  tally_push f (x ∷ xs) y = let h = tally_push f xs y in omega arith

  -- a sum after one element is written
  pub tally_set : (f : X → ℕ) (xs : List X) (i : ℕ) (y d : X) → i < length xs → tally f (set xs i y) + f (get_or xs i d) ≡ tally f xs + f y
  tally_set f [] i y d l = absurd (omega arith)
  tally_set f (x ∷ xs) zero y d l = omega arith
  tally_set f (x ∷ xs) (suc i) y d l = let h = tally_set f xs i y d (omega arith) in omega arith

  -- one element counts for no more than the sum, and two for no more either
  pub tally_one : (f : X → ℕ) (xs : List X) (i : ℕ) (d : X) → i < length xs → f (get_or xs i d) ≤ tally f xs
  tally_one f [] i d l = absurd (omega arith)
  tally_one f (x ∷ xs) zero d l = omega arith
  tally_one f (x ∷ xs) (suc i) d l = let h = tally_one f xs i d (omega arith) in omega arith

  pub tally_two : (f : X → ℕ) (xs : List X) (i j : ℕ) (d : X) → i < length xs → j < length xs → (i ≡ j → ⊥) → f (get_or xs i d) + f (get_or xs j d) ≤ tally f xs
  tally_two f [] i j d l m ne = absurd (omega arith)
  tally_two f (x ∷ xs) zero zero d l m ne = absurd (ne refl)
  tally_two f (x ∷ xs) zero (suc j) d l m ne = let h = tally_one f xs j d (omega arith) in omega arith
  tally_two f (x ∷ xs) (suc i) zero d l m ne = let h = tally_one f xs i d (omega arith) in omega arith
  tally_two f (x ∷ xs) (suc i) (suc j) d l m ne = let h = tally_two f xs i j d (omega arith) (omega arith) (λ e. ne (ap suc e)) in omega arith

  -- a sum that counts has a place that does
  pub tally_some : (f : X → ℕ) (xs : List X) → 1 ≤ tally f xs → (i : ℕ) × (i < length xs) × ((d : X) → 1 ≤ f (get_or xs i d))
  tally_some f [] l = absurd (omega arith)
  tally_some f (x ∷ xs) l =
      ⊎_elim
      (λ h. (0, omega arith, λ d. h))
      (λ h. let r = tally_some f xs (omega arith) in (suc r.0, omega (arith, r.1), r.2))
      (cases_lt 0 (f x))

  tally_but_last : (f : X → ℕ) (y : X) (ys : List X) (d : X) → tally f (take (length ys) (y ∷ ys)) + f (get_or (y ∷ ys) (length ys) d) ≡ tally f (y ∷ ys)
  tally_but_last f y [] d = omega arith
  tally_but_last f y (z ∷ zs) d = let h = tally_but_last f z zs d in omega arith

  tally_taken : (f : X → ℕ) (ys : List X) (n : ℕ) (d : X) → length ys ≡ suc n → tally f (take n ys) + f (get_or ys n d) ≡ tally f ys
  tally_taken f [] n d e = absurd (omega arith)
  tally_taken f (y ∷ ys) n d e = subst (λ m. tally f (take m (y ∷ ys)) + f (get_or (y ∷ ys) m d) ≡ tally f (y ∷ ys)) (let q : length ys ≡ n = omega arith in q) (tally_but_last f y ys d)

  -- swap removal takes away what stood at the gap
  pub tally_swap_removed : (f : X → ℕ) (xs : List X) (g : ℕ) (d : X) → g < length xs → tally f (swap_removed xs g) + f (get_or xs g d) ≡ tally f xs
  tally_swap_removed f [] g d l = absurd (omega arith)
  tally_swap_removed f (x ∷ xs) g d l =
      let last : X = get_or (x ∷ xs) (length xs) x in
      let ys : List X = set (x ∷ xs) g last in
      let a = tally_taken f ys (length xs) x (length-set (x ∷ xs) g last) in
      let b = tally_set f (x ∷ xs) g last d l in
      let c : get_or ys (length xs) x ≡ last =
      ⊎_elim
      (λ e. ap (λ z. get_or ys z x) (sym e) ∙ get_or-set_same (x ∷ xs) g last x l)
      (λ ne. get_or-set_other (x ∷ xs) g (length xs) last x (λ e. ne (sym e)))
      (cases_eq g (length xs)) in
      let e = ap f c in
      omega arith

pub tally_map : {X Y : Type 0} (f : X → Y) (g : Y → ℕ) (xs : List X) → tally g (map f xs) ≡ tally (λ x. g (f x)) xs
tally_map f g [] = refl
tally_map f g (x ∷ xs) = let h = tally_map f g xs in omega arith

-- a sum over another list of the same numbers
pub tally_on : {X : Type 0} (f g : X → ℕ) (xs : List X) → ((i : ℕ) (d : X) → i < length xs → f (get_or xs i d) ≡ g (get_or xs i d)) → tally f xs ≡ tally g xs
tally_on f g [] h = refl
tally_on f g (x ∷ xs) h = let a = h 0 x (omega arith) in let r = tally_on f g xs (λ i d l. h (suc i) d (omega arith)) in omega arith

pub bit_most : (b : Bool) → bit b ≤ 1
bit_most true = omega arith
bit_most false = omega arith
