-- A walk along the links: the cells that it meets, and that a walk of a row meets the cells of the row.
use Rattle.std.proofs.Common.{◌≡◌, ℕ, zero, suc, ◌<◌, Bool, true, false, List, [], ◌∷◌, map, length, get_or, Some, None, Option, sym, refl, ap, ◌∙◌, subst, inl, inr, arith}
use Rattle.std.proofs.lemmas.Bool.{lt-ltb, le-ltb, cond-true, cond-false}
use Rattle.std.proofs.lemmas.List.{get_or-map}
use Rattle.std.proofs.lemmas.Iterator.{YieldsList}
use Rattle.std.proofs.lemmas.Iterator.Consumers.{YieldsList-from_shown}
use denote.Ref.{Bor}
use denote.Param.Members.{Mut}
use Rattle.std.specs.List.{filter, FoldsTo}
use Rattle.std.specs.Option.{option_map, IfSome}
use Rattle.std.specs.Fn.{CalledAt}
use Rattle.std.specs.Iterator.{Yields, FindsItem}
use Rattle.std.proofs.lemmas.Option.{slice_get_cases}
use Rattle.rows.specs.declared.cells.Cell.{Cell}
use Rattle.rows.specs.declared.cells.RowHead.{RowHead}
use Rattle.rows.specs.declared.walk.Walk.{Walk}
use Rattle.rows.specs.declared.walk.Steps.{Steps}
use Rattle.rows.specs.Rings.{nth}
use Rattle.rows.specs.Links.{nexts, cell_keys, walk, Linked, listed}
use Rattle.rows.specs.Walks.{walk_of, walked, showing, upcoming, met, met_at, still_met, StepsOn, first_of}
use Rattle.keys.specs.declared.kinds.Direction.{Direction}
use Rattle.keys.specs.declared.kinds.Kind.{Kind}
use Rattle.model.specs.Keys.{Keys}
use Rattle.model.specs.Lists.{kept}
use Rattle.rows.proofs.Lists.{listed_length}

-- a cell by its number and its key
abbrev pub keyed : {K : Type 0} → ℕ × Cell K → ℕ × K
keyed p = (p.0, p.1.key)

-- the same of the cell x of a memory
abbrev pub keyed_in : {K : Type 0} → K → List (Cell K) → ℕ → ℕ × K
keyed_in e mem x = (x, get_or (cell_keys mem) x e)

module _ {K : Type 0} (mem : List (Cell K)) where
  -- n cells from x on
  abbrev pub onward : ℕ → ℕ → List ℕ
  onward x n = walk (λ y. get_or (nexts mem) y 0) x n

  -- links that stay in the memory are walked to the end
  walked_inside : (x n : ℕ) → ((k : ℕ) → k < n → nth (onward x n) k < length mem) → walked mem x n ≡ onward x n
  walked_inside x zero all = refl
  walked_inside x (suc n) all =
      cond-true _ _ _ (lt-ltb x (length mem) (all 0 (omega arith)))
      ∙ ap (λ xs. x ∷ xs) (walked_inside (get_or (nexts mem) x 0) n (λ k l. all (suc k) (omega arith)))

  -- a walk of a row lists the row
  pub walked_listed : (h : RowHead) → Linked mem h → walked mem h.first h.len ≡ listed mem h
  walked_listed h linked =
      walked_inside h.first h.len (λ k l. linked.ring.within k (omega (arith, listed_length mem h)))

  -- the cells that are met are those of the walk, each with its key
  pub met_keyed : (e : K) (x n : ℕ) → map keyed (met mem x n) ≡ map (keyed_in e mem) (walked mem x n)
  met_keyed e x zero = refl
  met_keyed e x (suc n) =
      elim (slice_get_cases mem x).1 [
        | inl w ↦
            let r = w.0 in
            let next : r.next ≡ get_or (nexts mem) x 0 =
            ap (λ c. c.next) (sym w.3) ∙ sym (get_or-map (λ c. c.next) mem x r 0 w.1) in
            let key : r.key ≡ get_or (cell_keys mem) x e =
            ap (λ c. c.key) (sym w.3) ∙ sym (get_or-map (λ c. c.key) mem x r e w.1) in
            ap (λ o. map keyed (met_at x o (λ c. met mem c.next n))) w.2
            ∙ (λ i. (x, key i) ∷ met_keyed e (next i) n i)
            ∙ sym (ap (map (keyed_in e mem)) (cond-true _ _ _ (lt-ltb x (length mem) w.1)))
        | inr w ↦
            ap (λ o. map keyed (met_at x o (λ c. met mem c.next n))) w.1
            ∙ sym (ap (map (keyed_in e mem)) (cond-false _ _ _ (le-ltb x (length mem) w.0)))
      ]

-- at the start of a row all that is shown is to come
pub upcoming_listed : {N V : Type 0} (K : Keys N V) (e : N) (mem : List (Cell N)) (kind : Kind) (d : Direction) (v : V) (h : RowHead) → Linked mem h
    → upcoming K e mem kind d v (walk_of h) ≡ kept (showing K e mem kind d v) (listed mem h)
upcoming_listed K e mem kind d v h linked = ap (kept (showing K e mem kind d v)) (walked_listed mem h linked)

-- what is seen of a cell that is met
abbrev pub seen : {K : Type 0} → ℕ × Bor (Cell K) → ℕ × K
seen p = (p.0, p.1.now.key)

-- what the steps of the walk w over the memory mem have still to meet
module _ {K : Type 0} (e : K) (mem : List (Cell K)) (w : Walk) (s : Steps K) (cells : s.cells.now ≡ mem) (walk : s.walk ≡ w) where
  pub still_walked : map keyed (still_met s) ≡ map (keyed_in e mem) (walked mem w.at w.left)
  still_walked = (λ i. map keyed (met (cells i) (walk i).at (walk i).left)) ∙ met_keyed mem e w.at w.left

  pub steps_yield : YieldsList StepsOn seen s (map (keyed_in e mem) (walked mem w.at w.left))
  steps_yield =
      subst (YieldsList StepsOn seen s) still_walked
      (YieldsList-from_shown StepsOn seen (λ u. map keyed (still_met u)) (λ u t o. ap (λ l. length (map keyed l)) o.1.0)
      (λ u x t o. ap (map keyed) o.1) s)

-- a search finds the first that passes, and leaves the rest
module _ {K F : Type 0} (g : Mut F (Bor (ℕ × Bor (Cell K)) × Unit {0}) Bool) (test : ℕ × K → Bool) (f : F)
    (calls : (x : ℕ × Bor (Cell K)) (b : Bool) (q : F) → CalledAt g f x b q → (q ≡ f) × (b ≡ test (seen x)))
    (r : Option (ℕ × Bor (Cell K))) (u : Steps K) where
  abbrev pub Left : Steps K → Type 0
  Left s = (u.cells ≡ s.cells) × (◌≡◌ {A = Option (ℕ × K) × List (ℕ × K)} (option_map seen r, filter test (map keyed (still_met u))) (first_of (filter test (map keyed (still_met s)))))

  end : (o : Option (ℕ × Bor (Cell K))) (s : Steps K) → StepsOn s o u → IfSome o (λ x. (h : F) × CalledAt g f x true h)
      → ◌≡◌ {A = Option (ℕ × K) × List (ℕ × K)} (option_map seen o, filter test (map keyed (still_met u))) (first_of (filter test (map keyed (still_met s))))
  end None s o hit =
      (λ i. (None, filter test (map keyed (o.1.1 i)))) ∙ sym (ap (λ l. first_of (filter test (map keyed l))) o.1.0)
  end (Some x) s o hit =
      sym (ap (λ l. first_of (filter test (map keyed l))) o.1
      ∙ ap first_of (cond-true _ _ _ (sym (calls x true hit.0 hit.1).1)))

  go : (xs : List (ℕ × Bor (Cell K))) (p q : F) (s t : Steps K) → p ≡ f → Yields StepsOn s xs t → StepsOn t r u
      → FoldsTo (λ a x b. CalledAt g a x false b) p xs q → IfSome r (λ x. (h : F) × CalledAt g q x true h) → Left s
  go [] p q s t is road o folds hit =
      subst Left (sym road) (o.0, end r t o (subst (λ a. IfSome r (λ x. (h : F) × CalledAt g a x true h)) (sym folds ∙ is) hit))
  go (x ∷ xs) p q s t is road o folds hit =
      let call : CalledAt g f x false folds.0 = subst (λ a. CalledAt g a x false folds.0) is folds.1 in
      let next = go xs folds.0 q road.0 t (calls x false folds.0 call).0 road.2 o folds.2 hit in (
        next.0 ∙ road.1.0,
        next.1
            ∙ sym (ap (λ l. first_of (filter test (map keyed l))) road.1.1
            ∙ ap first_of (cond-false _ _ _ (sym (calls x false folds.0 call).1))),
      )

  pub finds_on : (s : Steps K) → FindsItem StepsOn g s f r u → Left s
  finds_on s found = go found.0 f found.1 s found.2.0 refl found.2.1 found.2.2 found.3 found.4
