-- When a test is first passed at i, and when nowhere.
use Rattle.std.proofs.Common.{◌≡◌, ℕ, zero, suc, ◌<◌, Bool, true, false, List, [], ◌∷◌, length, get_or, Some, None, Option, sym, refl, ap, ◌∙◌, inl, inr, arith}
use Rattle.std.proofs.lemmas.Bool.{cases_Bool, cond-true, cond-false}
use Rattle.lists.specs.Positions.{position, one_on}

pub position_at : {A : Type 0} (p : A → Bool) (xs : List A) (i : ℕ) (d : A) → i < length xs → p (get_or xs i d) ≡ true
    → ((j : ℕ) → j < i → p (get_or xs j d) ≡ false) → position p xs ≡ Some i
position_at p [] i d lt e fails = let z : ⊥ = omega arith in absurd z
position_at p (x ∷ xs) zero d lt e fails = cond-true (p x) _ _ e
position_at p (x ∷ xs) (suc i) d lt e fails =
    cond-false (p x) _ _ (fails zero (omega arith))
    ∙ ap one_on (position_at p xs i d (omega arith) e (λ j l. fails (suc j) (omega arith)))

pub position_none : {A : Type 0} (p : A → Bool) (xs : List A) → ((j : ℕ) (d : A) → j < length xs → p (get_or xs j d) ≡ false)
    → position p xs ≡ None
position_none p [] fails = refl
position_none p (x ∷ xs) fails =
    cond-false (p x) _ _ (fails zero x (omega arith))
    ∙ ap one_on (position_none p xs (λ j d l. fails (suc j) d (omega arith)))

one_on_none : (o : Option ℕ) → one_on o ≡ None → o ≡ None
one_on_none None e = refl
one_on_none (Some i) e = let z : ◌≡◌ {A = ℕ} 0 1 = cc in let w : ⊥ = omega arith in absurd w

none_parts : {A : Type 0} (p : A → Bool) (x : A) (xs : List A) → position p (x ∷ xs) ≡ None → (p x ≡ false) × (position p xs ≡ None)
none_parts p x xs e =
    elim (cases_Bool (p x)) [
      | inl t ↦
          let c = cond-true (p x) (Some 0) (one_on (position p xs)) t in
          let z : ◌≡◌ {A = ℕ} 0 1 = cc in let w : ⊥ = omega arith in absurd w
      | inr f ↦ (f, one_on_none (position p xs) (sym (cond-false (p x) (Some 0) _ f) ∙ e))
    ]

-- the answer tells of each element
pub none_passes : {A : Type 0} (p : A → Bool) (xs : List A) → position p xs ≡ None
    → (j : ℕ) (d : A) → j < length xs → p (get_or xs j d) ≡ false
none_passes p [] e j d lt = let z : ⊥ = omega arith in absurd z
none_passes p (x ∷ xs) e zero d lt = (none_parts p x xs e).0
none_passes p (x ∷ xs) e (suc j) d lt = none_passes p xs (none_parts p x xs e).1 j d (omega arith)

one_on_some : (o : Option ℕ) (i : ℕ) → one_on o ≡ Some i → (j : ℕ) × (o ≡ Some j) × (i ≡ suc j)
one_on_some None i e = let z : ◌≡◌ {A = ℕ} 0 1 = cc in let w : ⊥ = omega arith in absurd w
one_on_some (Some j) i e = (j, refl, cc)

pub found_within : {A : Type 0} (p : A → Bool) (xs : List A) (i : ℕ) → position p xs ≡ Some i → i < length xs
found_within p [] i e = let z : ◌≡◌ {A = ℕ} 0 1 = cc in let w : ⊥ = omega arith in absurd w
found_within p (x ∷ xs) i e =
    elim (cases_Bool (p x)) [
      | inl t ↦ let c = cond-true (p x) (Some 0) (one_on (position p xs)) t in let z : i ≡ 0 = cc in omega arith
      | inr f ↦
          let m = one_on_some (position p xs) i (sym (cond-false (p x) (Some 0) _ f) ∙ e) in
          omega (arith, found_within p xs m.0 m.1, m.2)
    ]
