-- Lists by a test, through a map and by a place.
use Rattle.std.proofs.Common.{◌≡◌, ℕ, zero, suc, ◌<◌, ◌≤◌, Bool, true, false, cond, List, [], ◌∷◌, map, length, get_or, Some, None, Option, sym, refl, ap, ◌∙◌, subst, ⊎_elim, arith}
use Rattle.std.specs.List.{slice_get}
use Rattle.std.specs.Option.{option_map, option_flatten}
use Rattle.std.proofs.lemmas.Bool.{cases_eq, cond-true, cond-false}
use Rattle.std.proofs.lemmas.Option.{slice_get-map}
use Rattle.model.specs.Lists.{found, kept}
use Rattle.model.proofs.Tests.{by_bool}
use Rattle.halfedges.specs.Cells.{count}
use Rattle.halfedges.proofs.Counts.{bit_is, bit_other}

module _ {X Y : Type 0} (f : X → Y) where
  cond_mapped : (b : Bool) (x : X) (o : Option X) → cond b (Some (f x)) (option_map f o) ≡ option_map f (cond b (Some x) o)
  cond_mapped true x o = refl
  cond_mapped false x o = refl

  cond_map : (b : Bool) (x : X) (xs : List X) → cond b (f x ∷ map f xs) (map f xs) ≡ map f (cond b (x ∷ xs) xs)
  cond_map true x xs = refl
  cond_map false x xs = refl

  pub found_map : (p : Y → Bool) (xs : List X) → found p (map f xs) ≡ option_map f (found (λ x. p (f x)) xs)
  found_map p [] = refl
  found_map p (x ∷ xs) = ap (cond (p (f x)) (Some (f x))) (found_map p xs) ∙ cond_mapped (p (f x)) x (found (λ y. p (f y)) xs)

  pub kept_map : (p : Y → Bool) (xs : List X) → kept p (map f xs) ≡ map f (kept (λ x. p (f x)) xs)
  kept_map p [] = refl
  kept_map p (x ∷ xs) = ap (λ ys. cond (p (f x)) (f x ∷ ys) ys) (kept_map p xs) ∙ cond_map (p (f x)) x (kept (λ y. p (f y)) xs)

module _ {X Y Z : Type 0} (f : Y → Z) (g : X → Y) where
  pub mapped_mapped : (o : Option X) → option_map f (option_map g o) ≡ option_map (λ x. f (g x)) o
  mapped_mapped None = refl
  mapped_mapped (Some x) = refl

module _ {X : Type 0} where
  -- an element that was found has a place, and passes
  pub found_there : (p : X → Bool) (xs : List X) (x : X) → found p xs ≡ Some x → (i : ℕ) × (i < length xs) × ((d : X) → get_or xs i d ≡ x) × (p x ≡ true)
  found_there p [] x e = let z : ◌≡◌ {A = ℕ} 0 1 = cc in absurd (omega arith)
  found_there p (y ∷ ys) x e =
      let rest = found_there p ys x in
      by_bool (p y)
      (λ t.
      let s : Some y ≡ Some x = sym (cond-true (p y) (Some y) (found p ys) t) ∙ e in
      let q : y ≡ x = cc in
      (0, omega arith, λ d. q, subst (λ z. p z ≡ true) q t))
      (λ f. let r = rest (sym (cond-false (p y) (Some y) (found p ys) f) ∙ e) in (suc r.0, omega (arith, r.1), r.2, r.3))

  -- where all pass, all are kept
  pub kept_all : (p : X → Bool) (xs : List X) → ((x : X) → p x ≡ true) → kept p xs ≡ xs
  kept_all p [] h = refl
  kept_all p (x ∷ xs) h = cond-true (p x) (x ∷ kept p xs) (kept p xs) (h x) ∙ ap (λ ys. x ∷ ys) (kept_all p xs h)

-- an element by its place, through a map
pub nth_through : {X Y : Type 0} (f : X → Y) (xs : List X) (ys : List Y) (k : ℕ) (r : Option X) → map f xs ≡ ys → r ≡ slice_get xs k → option_map f r ≡ slice_get ys k
nth_through f xs ys k r e q = ap (option_map f) q ∙ sym (slice_get-map f xs k) ∙ ap (λ zs. slice_get zs k) e

flattened_mapped : {X : Type 0} (o : Option X) → option_flatten (option_map Some o) ≡ o
flattened_mapped None = refl
flattened_mapped (Some x) = refl

-- the same where f gives each element an answer
pub nth_answered : {X Y : Type 0} (f : X → Option Y) (xs : List X) (ys : List Y) (k : ℕ) (r : Option X) → map f xs ≡ map Some ys → r ≡ slice_get xs k → option_flatten (option_map f r) ≡ slice_get ys k
nth_answered f xs ys k r e q = ap option_flatten (nth_through f xs (map Some ys) k r e q ∙ slice_get-map Some ys k) ∙ flattened_mapped (slice_get ys k)

-- the element at a place is one of the list
pub count_place : (xs : List ℕ) (k c : ℕ) → Some c ≡ slice_get xs k → 1 ≤ count c xs
count_place [] k c e = let z : ◌≡◌ {A = ℕ} 0 1 = cc in absurd (omega arith)
count_place (x ∷ xs) zero c e = let q : c ≡ x = cc in let b = bit_is c x q in omega arith
count_place (x ∷ xs) (suc k) c e = let h = count_place xs k c e in omega arith

-- an element that is kept was there, and passes
pub count_kept : (p : ℕ → Bool) (xs : List ℕ) (c : ℕ) → 1 ≤ count c (kept p xs) → (1 ≤ count c xs) × (p c ≡ true)
count_kept p [] c h = absurd (omega arith)
count_kept p (x ∷ xs) c h =
    let rest = count_kept p xs c in
    by_bool (p x)
    (λ t.
    let k = ap (count c) (cond-true (p x) (x ∷ kept p xs) (kept p xs) t) in
    ⊎_elim
    (λ q. let b = bit_is c x q in (omega arith, subst (λ z. p z ≡ true) (sym q) t))
    (λ ne. let b = bit_other c x ne in let r = rest (omega arith) in (omega (arith, r.0), r.1))
    (cases_eq c x))
    (λ f. let k = ap (count c) (cond-false (p x) (x ∷ kept p xs) (kept p xs) f) in let r = rest (omega arith) in (omega (arith, r.0), r.1))
