-- The first link of a node's row goes, while the node itself is on its way out of the list.
use Rattle.std.proofs.Common.{◌≡◌, ℕ, ◌+◌, ◌-◌, ◌<◌, ◌⊎◌, List, length, get_or, set, Some, None, sym, refl, ap, ◌∙◌, inl, inr, ⊎_elim, arith}
use Rattle.std.proofs.lemmas.List.{get_or-set_same, get_or-set_other, length-set, same_lists}
use Rattle.std.proofs.lemmas.Bool.{cases_eq}
use Rattle.keys.specs.Order.{Laws}
use Rattle.keys.specs.declared.kinds.Direction.{Direction}
use Rattle.lists.specs.Positions.{position}
use Rattle.lists.specs.Swap.{swap_removed}
use Rattle.lists.proofs.Positions.{found_within, position_none}
use Rattle.lists.proofs.Swap.{length_swap_removed, swap_removed_at, swap_removed_other}
use Rattle.model.specs.Keys.{Keys}
use Rattle.model.specs.Maps.{Node, at_row, is_node}
use Rattle.model.proofs.Tests.{other_eq}
use Rattle.model.proofs.Positions.{passes_at, position_sole, amended_at}

-- what stands in the gap does not matter
pub swap_removed_set : {X : Type 0} (xs : List X) (i : ℕ) (y : X) → i < length xs → swap_removed (set xs i y) i ≡ swap_removed xs i
swap_removed_set xs i y l =
    let n = length-set xs i y in
    same_lists _ _ (length_swap_removed (set xs i y) i ∙ ap (λ z. z - 1) n ∙ sym (length_swap_removed xs i))
    (λ k d lk.
    let m = length_swap_removed (set xs i y) i in
    let kl : k + 1 < length xs = omega arith in
    ⊎_elim
    (λ e.
    let il : i + 1 < length xs = omega arith in
    ap (λ z. get_or (swap_removed (set xs i y) i) z d) e
    ∙ swap_removed_at (set xs i y) i d (omega arith)
    ∙ ap (λ z. get_or (set xs i y) (z - 1) d) n
    ∙ get_or-set_other xs i (length xs - 1) y d (λ q. omega arith)
    ∙ sym (ap (λ z. get_or (swap_removed xs i) z d) e ∙ swap_removed_at xs i d il))
    (λ ne. swap_removed_other (set xs i y) i k d (omega arith) ne ∙ get_or-set_other xs i k y d ne ∙ sym (swap_removed_other xs i k d kl ne))
    (cases_eq k i))

-- where an element other than the one at i is afterwards
module _ {X : Type 0} (xs : List X) (i j : ℕ) (li : i < length xs) (lj : j < length xs) (ne : j ≡ i → ⊥) where
  abbrev moved_to : (j + 1 ≡ length xs) ⊎ (j + 1 ≡ length xs → ⊥) → ℕ
  moved_to (inl e) = i
  moved_to (inr e) = j

  swap_set : (w : (j + 1 ≡ length xs) ⊎ (j + 1 ≡ length xs → ⊥)) (y : X) → swap_removed (set xs j y) i ≡ set (swap_removed xs i) (moved_to w) y
  swap_set (inl last) y =
      let n = length-set xs j y in
      let m = length_swap_removed xs i in
      same_lists _ _ (length_swap_removed (set xs j y) i ∙ ap (λ z. z - 1) n ∙ sym (length-set (swap_removed xs i) i y ∙ m))
      (λ k d lk.
      let kl : k + 1 < length xs = omega (arith, length_swap_removed (set xs j y) i) in
      ⊎_elim
      (λ e.
      ap (λ z. get_or (swap_removed (set xs j y) i) z d) e
      ∙ swap_removed_at (set xs j y) i d (omega arith)
      ∙ ap (λ z. get_or (set xs j y) z d) (let q : length (set xs j y) - 1 ≡ j = omega arith in q)
      ∙ get_or-set_same xs j y d lj
      ∙ sym (ap (λ z. get_or (set (swap_removed xs i) i y) z d) e ∙ get_or-set_same (swap_removed xs i) i y d (omega arith)))
      (λ ki.
      swap_removed_other (set xs j y) i k d (omega arith) ki
      ∙ get_or-set_other xs j k y d (λ q. omega arith)
      ∙ sym (get_or-set_other (swap_removed xs i) i k y d ki ∙ swap_removed_other xs i k d kl ki))
      (cases_eq k i))
  swap_set (inr inner) y =
      let n = length-set xs j y in
      let m = length_swap_removed xs i in
      same_lists _ _ (length_swap_removed (set xs j y) i ∙ ap (λ z. z - 1) n ∙ sym (length-set (swap_removed xs i) j y ∙ m))
      (λ k d lk.
      let kl : k + 1 < length xs = omega (arith, length_swap_removed (set xs j y) i) in
      let jl : j + 1 < length xs = below inner in
      ⊎_elim
      (λ e.
      let il : i + 1 < length xs = omega arith in
      ap (λ z. get_or (swap_removed (set xs j y) i) z d) e
      ∙ swap_removed_at (set xs j y) i d (omega arith)
      ∙ ap (λ z. get_or (set xs j y) (z - 1) d) n
      ∙ get_or-set_other xs j (length xs - 1) y d (λ q. omega arith)
      ∙ sym (ap (λ z. get_or (set (swap_removed xs i) j y) z d) e ∙ get_or-set_other (swap_removed xs i) j i y d (λ q. ne (sym q)) ∙ swap_removed_at xs i d il))
      (λ ki.
      swap_removed_other (set xs j y) i k d (omega arith) ki
      ∙ ⊎_elim
      (λ q.
      ap (λ z. get_or (set xs j y) z d) q ∙ get_or-set_same xs j y d lj
      ∙ sym (ap (λ z. get_or (set (swap_removed xs i) j y) z d) q ∙ get_or-set_same (swap_removed xs i) j y d (omega arith)))
      (λ kj. get_or-set_other xs j k y d kj ∙ sym (get_or-set_other (swap_removed xs i) j k y d kj ∙ swap_removed_other xs i k d kl ki))
      (cases_eq k j))
      (cases_eq k i))
    where
      below : (j + 1 ≡ length xs → ⊥) → j + 1 < length xs
      below h = ⊎_elim (λ e. absurd (h e)) (λ n. omega arith) (cases_eq (j + 1) (length xs))

  swap_read : (w : (j + 1 ≡ length xs) ⊎ (j + 1 ≡ length xs → ⊥)) (d : X) → (moved_to w < length (swap_removed xs i)) × (get_or (swap_removed xs i) (moved_to w) d ≡ get_or xs j d)
  swap_read (inl last) d =
      let m = length_swap_removed xs i in
      (omega arith, swap_removed_at xs i d (omega arith) ∙ ap (λ z. get_or xs z d) (let q : length xs - 1 ≡ j = omega arith in q))
  swap_read (inr inner) d =
      let m = length_swap_removed xs i in
      let jl : j + 1 < length xs = ⊎_elim (λ e. absurd (inner e)) (λ n. omega arith) (cases_eq (j + 1) (length xs)) in
      (omega arith, swap_removed_other xs i j d jl ne)

-- the element of a list after a swap removal, in the list before it: the last in the gap, and else the same place's
came_from : {X : Type 0} (xs : List X) (i k : ℕ) (d : X) → i < length xs → k < length (swap_removed xs i) → (q : ℕ) × (q < length xs) × (q ≡ i → ⊥) × (get_or (swap_removed xs i) k d ≡ get_or xs q d) × (((k ≡ i) × (q + 1 ≡ length xs)) ⊎ (k ≡ q))
came_from xs i k d li lk =
    let m = length_swap_removed xs i in
    ⊎_elim
    (λ e. (length xs - 1, omega arith, (λ z. omega arith), ap (λ z. get_or (swap_removed xs i) z d) e ∙ swap_removed_at xs i d (omega arith), inl (e, omega arith)))
    (λ ne. (k, omega arith, ne, swap_removed_other xs i k d (omega arith) ne, inr refl))
    (cases_eq k i)

-- nodes whose values are apart
module _ {N V : Type 0} (K : Keys N V) (laws : Laws K.order) (xs : List (N × List (N × Direction)))
    (seat_of : (v : V) (i : ℕ) (d : Node N) → i < length xs → K.value (get_or xs i d).0 ≡ v → position (is_node K v) xs ≡ Some i) where
  -- the one that has left is not found
  pub gone : (v : V) (i : ℕ) → i < length xs → position (is_node K v) xs ≡ Some i → position (is_node K v) (swap_removed xs i) ≡ None
  gone v i li at =
      position_none (is_node K v) (swap_removed xs i) (λ k d lk.
      let f = came_from xs i k d li lk in
      other_eq K laws _ _ (λ q.
      let s = seat_of v f.0 d f.1 (sym (ap (λ n. K.value n.0) f.3) ∙ q) in
      let z : Some f.0 ≡ Some i = sym s ∙ at in
      f.2 (cc)))

  -- and another is changed alike before and after
  pub changed_alike : (m : V) (i j : ℕ) (d : Node N) (g : List (N × Direction) → List (N × Direction)) → i < length xs → (j ≡ i → ⊥) → position (is_node K m) xs ≡ Some j
      → swap_removed (at_row K m g xs) i ≡ at_row K m g (swap_removed xs i)
  changed_alike m i j d g li ne at =
      let lj = found_within (is_node K m) xs j at in
      let w = cases_eq (j + 1) (length xs) in
      let h : Node N → Node N = λ n. (n.0, g n.1) in
      let r = swap_read xs i j li lj ne w d in
      let there : position (is_node K m) (swap_removed xs i) ≡ Some (moved_to xs i j li lj ne w) =
      position_sole (is_node K m) (swap_removed xs i) (moved_to xs i j li lj ne w) r.0
      (λ e. ap (is_node K m) (swap_read xs i j li lj ne w e).1 ∙ passes_at (is_node K m) xs j e at)
      (λ k e lk nk.
      let f = came_from xs i k e li lk in
      other_eq K laws _ _ (λ q.
      let s = seat_of m f.0 e f.1 (sym (ap (λ n. K.value n.0) f.3) ∙ q) in
      let z : Some f.0 ≡ Some j = sym s ∙ at in
      nk (from_j k f.0 li lj ne w (cc) lk f.4))) in
      ap (λ z. swap_removed z i) (amended_at (is_node K m) h xs j d at)
      ∙ swap_set xs i j li lj ne w (h (get_or xs j d))
      ∙ sym (amended_at (is_node K m) h (swap_removed xs i) (moved_to xs i j li lj ne w) d there ∙ ap (λ n. set (swap_removed xs i) (moved_to xs i j li lj ne w) (h n)) r.1)
    where
      from_j : (k q : ℕ) (li : i < length xs) (lj : j < length xs) (ne : j ≡ i → ⊥) (w : (j + 1 ≡ length xs) ⊎ (j + 1 ≡ length xs → ⊥)) → q ≡ j → k < length (swap_removed xs i)
          → ((k ≡ i) × (q + 1 ≡ length xs)) ⊎ (k ≡ q) → k ≡ moved_to xs i j li lj ne w
      from_j k q li lj ne (inl last) e lk (inl gap) = gap.0
      from_j k q li lj ne (inr inner) e lk (inl gap) = absurd (inner (omega arith))
      from_j k q li lj ne (inl last) e lk (inr same) = let m = length_swap_removed xs i in absurd (omega arith)
      from_j k q li lj ne (inr inner) e lk (inr same) = omega arith
