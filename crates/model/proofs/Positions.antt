-- From the position of the first element that passes to the element, its change and its removal.
use Rattle.std.proofs.Common.{◌≡◌, ℕ, zero, suc, ◌<◌, Bool, true, false, cond, List, [], ◌∷◌, ◌++◌, map, length, get_or, set, Some, None, Option, sym, refl, ap, ◌∙◌, subst, arith}
use Rattle.std.proofs.lemmas.Bool.{cond-true, cond-false}
use Rattle.lists.specs.Positions.{position, one_on}
use Rattle.lists.specs.Swap.{swap_removed}
use Rattle.lists.proofs.Positions.{position_at, none_passes, found_within}
use Rattle.model.specs.Lists.{found, amended, without, out_at}
use Rattle.model.proofs.Tests.{by_bool}

-- of an answer, the element or the edit
module _ {X : Type 0} where
  abbrev at_position : (p : X → Bool) (xs : List X) → Option ℕ → Option X
  at_position p [] o = None
  at_position p (x ∷ xs) None = None
  at_position p (x ∷ xs) (Some i) = Some (get_or (x ∷ xs) i x)

  pub passes_at : (p : X → Bool) (xs : List X) (i : ℕ) (d : X) → position p xs ≡ Some i → p (get_or xs i d) ≡ true
  passes_at p [] i d e = let z : ◌≡◌ {A = ℕ} 0 1 = cc in absurd (omega arith)
  passes_at p (x ∷ xs) i d e =
      let rest = passes_at p xs in
      by_bool (p x)
      (λ t. let c = cond-true (p x) (Some 0) (one_on (position p xs)) t in let z : i ≡ 0 = cc in subst (λ j. p (get_or (x ∷ xs) j d) ≡ true) (sym z) t)
      (λ f. next (position p xs) i (sym (cond-false (p x) (Some 0) (one_on (position p xs)) f) ∙ e) (λ j q. rest j d q))
    where
      next : (o : Option ℕ) (i : ℕ) → one_on o ≡ Some i → ((j : ℕ) → o ≡ Some j → p (get_or xs j d) ≡ true) → p (get_or (x ∷ xs) i d) ≡ true
      next None i e h = let z : ◌≡◌ {A = ℕ} 0 1 = cc in absurd (omega arith)
      next (Some j) i e h = let z : suc j ≡ i = cc in subst (λ k. p (get_or (x ∷ xs) k d) ≡ true) z (h j refl)

  -- those before the position fail
  pub fails_before : (p : X → Bool) (xs : List X) (i j : ℕ) (d : X) → position p xs ≡ Some i → j < i → p (get_or xs j d) ≡ false
  fails_before p [] i j d e l = let z : ◌≡◌ {A = ℕ} 0 1 = cc in absurd (omega arith)
  fails_before p (x ∷ xs) i j d e l =
      let rest = fails_before p xs in
      by_bool (p x)
      (λ t. let c = cond-true (p x) (Some 0) (one_on (position p xs)) t in let z : i ≡ 0 = cc in absurd (omega arith))
      (λ f. next (position p xs) i j (sym (cond-false (p x) (Some 0) (one_on (position p xs)) f) ∙ e) l f (λ k m q h. rest k m d q h))
    where
      next : (o : Option ℕ) (i j : ℕ) → one_on o ≡ Some i → j < i → p x ≡ false → ((k m : ℕ) → o ≡ Some k → m < k → p (get_or xs m d) ≡ false) → p (get_or (x ∷ xs) j d) ≡ false
      next None i j e l f h = let z : ◌≡◌ {A = ℕ} 0 1 = cc in absurd (omega arith)
      next (Some k) i zero e l f h = f
      next (Some k) i (suc m) e l f h = let z : suc k ≡ i = cc in h k m refl (omega arith)

  pub found_at : (p : X → Bool) (xs : List X) (i : ℕ) (d : X) → position p xs ≡ Some i → found p xs ≡ Some (get_or xs i d)
  found_at p xs i d e = first xs i d (found_within p xs i e) (passes_at p xs i d e) (λ j l. fails_before p xs i j d e l)
    where
      first : (xs : List X) (i : ℕ) (d : X) → i < length xs → p (get_or xs i d) ≡ true → ((j : ℕ) → j < i → p (get_or xs j d) ≡ false) → found p xs ≡ Some (get_or xs i d)
      first [] i d l t f = absurd (omega arith)
      first (x ∷ xs) zero d l t f = cond-true (p x) (Some x) (found p xs) t
      first (x ∷ xs) (suc i) d l t f = cond-false (p x) (Some x) (found p xs) (f zero (omega arith)) ∙ first xs i d (omega arith) t (λ j m. f (suc j) (omega arith))

  pub found_none : (p : X → Bool) (xs : List X) → position p xs ≡ None → found p xs ≡ None
  found_none p xs e = none xs (none_passes p xs e)
    where
      none : (xs : List X) → ((j : ℕ) (d : X) → j < length xs → p (get_or xs j d) ≡ false) → found p xs ≡ None
      none [] h = refl
      none (x ∷ xs) h = cond-false (p x) (Some x) (found p xs) (h zero x (omega arith)) ∙ none xs (λ j d l. h (suc j) d (omega arith))

  pub amended_at : (p : X → Bool) (g : X → X) (xs : List X) (i : ℕ) (d : X) → position p xs ≡ Some i → amended p g xs ≡ set xs i (g (get_or xs i d))
  amended_at p g xs i d e = first xs i d (found_within p xs i e) (passes_at p xs i d e) (λ j l. fails_before p xs i j d e l)
    where
      first : (xs : List X) (i : ℕ) (d : X) → i < length xs → p (get_or xs i d) ≡ true → ((j : ℕ) → j < i → p (get_or xs j d) ≡ false) → amended p g xs ≡ set xs i (g (get_or xs i d))
      first [] i d l t f = absurd (omega arith)
      first (x ∷ xs) zero d l t f = cond-true (p x) (g x ∷ xs) (x ∷ amended p g xs) t
      first (x ∷ xs) (suc i) d l t f =
          cond-false (p x) (g x ∷ xs) (x ∷ amended p g xs) (f zero (omega arith)) ∙ ap (λ ys. x ∷ ys) (first xs i d (omega arith) t (λ j m. f (suc j) (omega arith)))

  pub amended_none : (p : X → Bool) (g : X → X) (xs : List X) → position p xs ≡ None → amended p g xs ≡ xs
  amended_none p g xs e = none xs (none_passes p xs e)
    where
      none : (xs : List X) → ((j : ℕ) (d : X) → j < length xs → p (get_or xs j d) ≡ false) → amended p g xs ≡ xs
      none [] h = refl
      none (x ∷ xs) h = cond-false (p x) (g x ∷ xs) (x ∷ amended p g xs) (h zero x (omega arith)) ∙ ap (λ ys. x ∷ ys) (none xs (λ j d l. h (suc j) d (omega arith)))

  pub without_at : (p : X → Bool) (xs : List X) (i : ℕ) → position p xs ≡ Some i → without p xs ≡ swap_removed xs i
  without_at p xs i e = ap (out_at xs) e

  pub without_none : (p : X → Bool) (xs : List X) → position p xs ≡ None → without p xs ≡ xs
  without_none p xs e = ap (out_at xs) e

  -- an element that passes, alone
  pub position_sole : (p : X → Bool) (xs : List X) (i : ℕ) → i < length xs → ((d : X) → p (get_or xs i d) ≡ true) → ((j : ℕ) (d : X) → j < length xs → (j ≡ i → ⊥) → p (get_or xs j d) ≡ false) → position p xs ≡ Some i
  position_sole p [] i l t f = absurd (omega arith)
  position_sole p (x ∷ xs) i l t f = position_at p (x ∷ xs) i x l (t x) (λ j m. f j x (omega arith) (λ e. omega arith))

  -- tests that agree find the same
  pub position_same : (p q : X → Bool) → ((x : X) → p x ≡ q x) → (xs : List X) → position p xs ≡ position q xs
  position_same p q h xs = ap (λ r. position r xs) (λ i x. h x i)

  pub position_push : (p : X → Bool) (xs : List X) (y : X) → p y ≡ false → position p (xs ++ y ∷ []) ≡ position p xs
  position_push p [] y f = cond-false (p y) (Some 0) None f
  position_push p (x ∷ xs) y f = ap (λ o. cond (p x) (Some 0) (one_on o)) (position_push p xs y f)

pub position_map : {X Y : Type 0} (p : Y → Bool) (f : X → Y) (xs : List X) → position p (map f xs) ≡ position (λ x. p (f x)) xs
position_map p f [] = refl
position_map p f (x ∷ xs) = ap (λ o. cond (p (f x)) (Some 0) (one_on o)) (position_map p f xs)
