-- The list of a row is what its links give, and each cell's links are its neighbours in the list.
use Rattle.std.proofs.Common.{◌≡◌, ℕ, zero, suc, ◌-◌, ◌<◌, ◌≤◌, List, [], ◌∷◌, map, length, get_or, sym, refl, ap, ◌∙◌, subst, arith}
use lib.ListN.{length-map}
use Rattle.std.proofs.lemmas.Bool.{ne_eqb, cond-false}
use Rattle.std.proofs.lemmas.List.{get_or-map}
use Rattle.rows.specs.declared.cells.Cell.{Cell}
use Rattle.rows.specs.declared.cells.RowHead.{RowHead}
use Rattle.rows.specs.Rings.{none, nth, before, Gap, Holds}
use Rattle.rows.specs.Links.{bare, nexts, prevs, next_of, prev_of, Row, walk, listed, Linked}
use Rattle.rows.proofs.Rings.{last_is}

-- a memory has as many cells as another with the same keys, or the same links
pub same_long : {K X : Type 0} (f : Cell K → X) (mem mem' : List (Cell K)) → map f mem' ≡ map f mem → length mem ≡ length mem'
same_long f mem mem' e = sym (length-map mem f) ∙ ap length (sym e) ∙ length-map mem' f

walk_length : (N : ℕ → ℕ) (f n : ℕ) → length (walk N f n) ≡ n
walk_length N f zero = refl
walk_length N f (suc n) = ap suc (walk_length N (N f) n)

walk_is : (N : ℕ → ℕ) (f : ℕ) (xs : List ℕ) → f ≡ nth xs 0
    → ((k : ℕ) → k < length xs → N (nth xs k) ≡ nth xs (suc k)) → walk N f (length xs) ≡ xs
walk_is N f [] e h = refl
walk_is N f (x ∷ xs) e h =
    λ i. e i ∷ walk_is N (N f) xs (ap N e ∙ h 0 (omega arith)) (λ k l. h (suc k) (omega arith)) i

pub listed_length : {K : Type 0} (mem : List (Cell K)) (h : RowHead) → length (listed mem h) ≡ h.len
listed_length mem h = walk_length (λ x. get_or (nexts mem) x 0) h.first h.len

-- a row that has cells begins with its first
pub listed_first : {K : Type 0} (mem : List (Cell K)) (h : RowHead) → 0 < h.len
    → listed mem h ≡ h.first ∷ walk (λ x. get_or (nexts mem) x 0) (get_or (nexts mem) h.first 0) (h.len - 1)
listed_first mem h some =
    let e : h.len ≡ suc (h.len - 1) = omega arith in
    ap (walk (λ x. get_or (nexts mem) x 0) h.first) e

pub bare_linked : {K : Type 0} (mem : List (Cell K)) → Linked mem bare
bare_linked mem = record { long = refl; ring = record { within = λ k l. absurd (omega arith); gaps = gap } }
  where
    gap : (k : ℕ) → k ≤ 0 → Gap (next_of mem bare) (prev_of mem bare) [] k
    gap zero l = record { onward = refl; back = refl }
    gap (suc k) l = absurd (omega arith)

pub bare_listed : {K : Type 0} (mem : List (Cell K)) → listed mem bare ≡ []
bare_listed mem = refl

module _ {K : Type 0} {mem : List (Cell K)} {h : RowHead} {xs : List ℕ} (row : Row mem h xs) where
  -- the cell x, which stands at i, is in the memory
  pub at_within : (i : ℕ) {x : ℕ} → i < length xs → nth xs i ≡ x → x < length mem
  at_within i li e = omega (arith, row.ring.within i li)

  pub held_within : {x : ℕ} → Holds x xs → x < length mem
  held_within held = at_within held.0 held.1 held.2

  -- the row whose last is given as l
  pub last_as : {l : ℕ} → h.last ≡ l → Row mem (record { first = h.first; last = l; len = h.len }) xs
  last_as e = subst (λ l. Row mem (record { first = h.first; last = l; len = h.len }) xs) e row

  -- the two ends of a row that has cells
  module _ (some : 0 < h.len) where
    pub first_nth : h.first ≡ nth xs 0
    first_nth = (row.ring.gaps 0 (omega arith)).onward

    pub first_within : h.first < length mem
    first_within = at_within 0 (omega (arith, row.long)) (sym first_nth)

    pub last_nth : h.last ≡ nth xs (h.len - 1)
    last_nth =
        let e : length xs ≡ suc (h.len - 1) = omega (arith, row.long) in
        last_is row.ring ∙ ap (before xs) e

    pub last_within : h.last < length mem
    last_within = at_within (h.len - 1) (omega (arith, row.long)) (sym last_nth)

  module _ (small : length mem ≤ none) where
    pub next_is : (k : ℕ) → k < length xs → get_or (nexts mem) (nth xs k) 0 ≡ nth xs (suc k)
    next_is k l =
        let w = row.ring.within k l in
        sym (cond-false _ _ _ (ne_eqb (nth xs k) none (λ e. omega arith))) ∙ (row.ring.gaps (suc k) l).onward

    pub prev_is : (k : ℕ) → k < length xs → get_or (prevs mem) (nth xs k) 0 ≡ before xs k
    prev_is k l =
        let w = row.ring.within k l in
        sym (cond-false _ _ _ (ne_eqb (nth xs k) none (λ e. omega arith))) ∙ (row.ring.gaps k (omega arith)).back

    -- the cells of the row are those that the links list
    pub listed_is : listed mem h ≡ xs
    listed_is =
        ap (walk (λ x. get_or (nexts mem) x 0) h.first) row.long
        ∙ walk_is (λ x. get_or (nexts mem) x 0) h.first xs (row.ring.gaps 0 (omega arith)).onward next_is

    pub row_linked : Linked mem h
    row_linked = subst (Row mem h) (sym listed_is) row

    -- the neighbours of the cell x, which stands at i, in the cell that was read as r
    module _ (i : ℕ) {x : ℕ} (li : i < length xs) (e : nth xs i ≡ x) {r : Cell K} (is : r ≡ get_or mem x r) where
      pub at_prev : r.prev ≡ before xs i
      at_prev =
          ap (λ c. c.prev) is ∙ sym (get_or-map (λ c. c.prev) mem x r 0 (at_within i li e))
          ∙ ap (λ y. get_or (prevs mem) y 0) (sym e) ∙ prev_is i li

      pub at_next : r.next ≡ nth xs (suc i)
      at_next =
          ap (λ c. c.next) is ∙ sym (get_or-map (λ c. c.next) mem x r 0 (at_within i li e))
          ∙ ap (λ y. get_or (nexts mem) y 0) (sym e) ∙ next_is i li

    -- the neighbour of either end
    module _ (some : 0 < h.len) {r : Cell K} where
      pub first_next : r ≡ get_or mem h.first r → r.next ≡ nth xs 1
      first_next is = at_next 0 (omega (arith, row.long)) (sym (first_nth some)) is

      pub last_prev : r ≡ get_or mem h.last r → r.prev ≡ before xs (h.len - 1)
      last_prev is = at_prev (h.len - 1) (omega (arith, row.long)) (sym (last_nth some)) is
