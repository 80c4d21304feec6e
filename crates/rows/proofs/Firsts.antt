-- What the first that passes is, and those that pass, of a list whose elements f gives.
use Rattle.std.proofs.Common.{◌≡◌, Bool, true, false, cond, List, [], ◌∷◌, map, Some, None, Option, sym, refl, ap, ◌∙◌}
use Rattle.std.specs.List.{filter, find}
use Rattle.std.specs.Option.{option_map}
use Rattle.model.specs.Lists.{found, kept}
use Rattle.rows.specs.Walks.{first_of}

module _ {A B : Type 0} (f : A → B) (test : B → Bool) where
  pub found_map : (xs : List A) → find test (map f xs) ≡ option_map f (found (λ x. test (f x)) xs)
  found_map [] = refl
  found_map (x ∷ xs) =
      elim (test (f x)) as (λ b. cond b (Some (f x)) (find test (map f xs)) ≡ option_map f (cond b (Some x) (found (λ y. test (f y)) xs))) [
        | true ↦ refl
        | false ↦ found_map xs
      ]

  pub kept_map : (xs : List A) → filter test (map f xs) ≡ map f (kept (λ x. test (f x)) xs)
  kept_map [] = refl
  kept_map (x ∷ xs) =
      elim (test (f x)) as (λ b. cond b (f x ∷ filter test (map f xs)) (filter test (map f xs)) ≡ map f (cond b (x ∷ kept (λ y. test (f y)) xs) (kept (λ y. test (f y)) xs))) [
        | true ↦ ap (λ ys. f x ∷ ys) (kept_map xs)
        | false ↦ kept_map xs
      ]

-- the first of a pair, where the pair was made of it
pub first_back : {X Y : Type 0} (h : X → Y) (o : Option X) → option_map (λ (p : X × Y). p.0) (option_map (λ x. (x, h x)) o) ≡ o
first_back h None = refl
first_back h (Some x) = refl

module _ {X Y : Type 0} (h : X → Y) where
  -- what was paired, taken apart again
  unpaired : (xs : List X) → map (λ (p : X × Y). p.0) (map (λ x. (x, h x)) xs) ≡ xs
  unpaired [] = refl
  unpaired (x ∷ xs) = ap (λ ys. x ∷ ys) (unpaired xs)

  first_apart : (zs : List X)
      → ◌≡◌ {A = Option X × List X}
      (option_map (λ (p : X × Y). p.0) (first_of (map (λ x. (x, h x)) zs)).0, map (λ (p : X × Y). p.0) (first_of (map (λ x. (x, h x)) zs)).1)
      (first_of zs)
  first_apart [] = refl
  first_apart (z ∷ zs) = λ i. (Some z, unpaired zs i)

  pub first_of_pairs : (o : Option (X × Y)) (ys zs : List X)
      → ◌≡◌ {A = Option (X × Y) × List (X × Y)} (o, map (λ x. (x, h x)) ys) (first_of (map (λ x. (x, h x)) zs))
      → ◌≡◌ {A = Option X × List X} (option_map (λ p. p.0) o, ys) (first_of zs)
  first_of_pairs o ys zs e =
      (λ i. (option_map (λ (p : X × Y). p.0) o, sym (unpaired ys) i))
      ∙ ap (λ (q : Option (X × Y) × List (X × Y)). (option_map (λ (p : X × Y). p.0) q.0, map (λ (p : X × Y). p.0) q.1)) e
      ∙ first_apart zs
