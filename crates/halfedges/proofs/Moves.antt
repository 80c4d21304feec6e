-- The last link takes the place of one that has gone: its cells are written anew, and stand where the old ones stood.
use Rattle.std.proofs.Common.{◌≡◌, ℕ, ◌+◌, ◌-◌, ◌*◌, ◌/◌, ◌<◌, ◌≤◌, true, false, not, eqb, List, length, get_or, set, sym, ap, ◌∙◌, ⊎_elim, arith}
use Rattle.std.proofs.lemmas.Bool.{cases_eq}
use Rattle.std.proofs.lemmas.List.{set-get_or}
use Rattle.keys.specs.declared.kinds.Kind.{Kind}
use Rattle.lists.specs.Swap.{swap_removed}
use Rattle.lists.proofs.Swap.{length_swap_removed, swap_removed_at, swap_removed_other}
use Rattle.rows.specs.HalfEdges.{twin}
use Rattle.model.specs.Keys.{Keys, eq}
use Rattle.model.specs.Lists.{bit}
use Rattle.model.specs.Maps.{canon}
use Rattle.model.proofs.Ends.{values}
use Rattle.halfedges.specs.Cells.{standing, moved, named, stands, Whole, Off, Keyed}
use Rattle.halfedges.proofs.Counts.{bit_is, bit_other}
use Rattle.halfedges.proofs.Stands.{stands_out, stands_even, stands_odd, stands_keys, stands_fewer, key_other, key_first, key_second, named_second, owner_second}

-- a link that is moved to its own place
pub moved_itself : {N : Type 0} (ks : List N) (d : N) (l : ℕ) → moved ks d l l ≡ ks
moved_itself ks d l =
    ap (λ z. set z (2 * l + 1) (get_or ks (2 * l + 1) d)) (set-get_or ks (2 * l) d) ∙ set-get_or ks (2 * l + 1) d

module _ {N V : Type 0} (K : Keys N V) (d : N) (ks : List N) (g l : ℕ) (ns : List (N × List ℕ)) (off : Off K d ks g (l + 1) ns) where
  -- where the last link has gone, nothing is moved
  pub whole_last : g ≡ l → Whole K d ks l ns
  whole_last e x =
      ⊎_elim
      (λ h. off.out x h ∙ sym (stands_out K d ks l x (omega arith)))
      (λ ne. off.others x ne ∙ stands_fewer K d ks l x (λ h. ne (h ∙ sym e)))
      (cases_eq (x / 2) g)

  -- else its cells take the places of the others
  module _ (lt : g < l) (fits : 2 * l + 1 < length ks) where
    abbrev first : N
    first = get_or ks (2 * l) d

    abbrev second : N
    second = get_or ks (2 * l + 1) d

    abbrev after : List N
    after = moved ks d g l

    away : (x : ℕ) → (x / 2 ≡ g → ⊥) → (x / 2 ≡ l → ⊥) → standing x ns ≡ stands K d after l x
    away x ng nl =
        off.others x ng ∙ stands_fewer K d ks l x nl
        ∙ sym (stands_keys K d ks after l x (key_other d ks g second first x ng) (key_other d ks g second first (twin x) (λ h. ng (omega arith))))

    gap_first : (x : ℕ) → x ≡ 2 * g → stands K d after l x ≡ 1
    gap_first x e = stands_even K d after l x (omega arith) (omega arith)

    gap_second : (x : ℕ) → x ≡ 2 * g + 1 → stands K d after l x ≡ bit (not (eq K (K.value second) (K.value first)))
    gap_second x e =
        ap (stands K d after l) e
        ∙ stands_odd K d after l (2 * g + 1) (omega arith) (omega arith)
        ∙ (λ i. bit (not (eq K (named_second K d ks g second first (omega arith) i) (owner_second K d ks g second first (omega arith) i))))

    last_first : (x : ℕ) → x ≡ 2 * l → standing x ns ≡ 1
    last_first x e = off.others x (λ h. omega arith) ∙ stands_even K d ks (l + 1) x (omega arith) (omega arith)

    last_second : (x : ℕ) → x ≡ 2 * l + 1 → standing x ns ≡ bit (not (eq K (K.value second) (K.value first)))
    last_second x e =
        let t : twin (2 * l + 1) ≡ 2 * l = omega arith in
        off.others x (λ h. omega arith) ∙ ap (stands K d ks (l + 1)) e
        ∙ stands_odd K d ks (l + 1) (2 * l + 1) (omega arith) (omega arith)
        ∙ ap (λ y. bit (not (eq K (K.value second) (named K d ks y)))) t

    -- by the four cells that count
    by_cell : {P : Type 0} → (x : ℕ) → (x ≡ 2 * g → P) → (x ≡ 2 * g + 1 → P) → (x ≡ 2 * l → P) → (x ≡ 2 * l + 1 → P)
        → ((x / 2 ≡ g → ⊥) → (x / 2 ≡ l → ⊥) → P) → P
    by_cell x a b c e f =
        ⊎_elim
        (λ h. ⊎_elim a (λ ne. b (omega arith)) (cases_eq x (2 * g)))
        (λ ng. ⊎_elim (λ h. ⊎_elim c (λ ne. e (omega arith)) (cases_eq x (2 * l))) (λ nl. f ng nl) (cases_eq (x / 2) l))
        (cases_eq (x / 2) g)

    module _ (s₁ : ℕ → ℕ) (one : (x : ℕ) → s₁ x + bit (eqb x (2 * l)) ≡ standing x ns + bit (eqb x (2 * g))) where
      -- a self-link has one cell in a row
      pub whole_self : eq K (K.value second) (K.value first) ≡ true → (x : ℕ) → s₁ x ≡ stands K d after l x
      whole_self self x =
          let b : bit (not (eq K (K.value second) (K.value first))) ≡ 0 = ap (λ t. bit (not t)) self in
          let o = one x in
          by_cell x
          (λ e. let z = off.out x (omega arith) in let p = bit_is x (2 * g) e in let q = bit_other x (2 * l) (λ h. omega arith) in let r = gap_first x e in omega arith)
          (λ e. let z = off.out x (omega arith) in let p = bit_other x (2 * g) (λ h. omega arith) in let q = bit_other x (2 * l) (λ h. omega arith) in let r = gap_second x e in omega arith)
          (λ e. let z = last_first x e in let p = bit_other x (2 * g) (λ h. omega arith) in let q = bit_is x (2 * l) e in let r = stands_out K d after l x (omega arith) in omega arith)
          (λ e. let z = last_second x e in let p = bit_other x (2 * g) (λ h. omega arith) in let q = bit_other x (2 * l) (λ h. omega arith) in let r = stands_out K d after l x (omega arith) in omega arith)
          (λ ng nl. let z = away x ng nl in let p = bit_other x (2 * g) (λ h. ng (omega arith)) in let q = bit_other x (2 * l) (λ h. nl (omega arith)) in omega arith)

      pub whole_both : eq K (K.value second) (K.value first) ≡ false → (s₂ : ℕ → ℕ) → ((x : ℕ) → s₂ x + bit (eqb x (2 * l + 1)) ≡ s₁ x + bit (eqb x (2 * g + 1))) → (x : ℕ) → s₂ x ≡ stands K d after l x
      whole_both other s₂ two x =
          let b : bit (not (eq K (K.value second) (K.value first))) ≡ 1 = ap (λ t. bit (not t)) other in
          let o = one x in
          let w = two x in
          by_cell x
          (λ e. let z = off.out x (omega arith) in let p = bit_is x (2 * g) e in let q = bit_other x (2 * l) (λ h. omega arith) in let u = bit_other x (2 * g + 1) (λ h. omega arith) in let v = bit_other x (2 * l + 1) (λ h. omega arith) in let r = gap_first x e in omega arith)
          (λ e. let z = off.out x (omega arith) in let p = bit_other x (2 * g) (λ h. omega arith) in let q = bit_other x (2 * l) (λ h. omega arith) in let u = bit_is x (2 * g + 1) e in let v = bit_other x (2 * l + 1) (λ h. omega arith) in let r = gap_second x e in omega arith)
          (λ e. let z = last_first x e in let p = bit_other x (2 * g) (λ h. omega arith) in let q = bit_is x (2 * l) e in let u = bit_other x (2 * g + 1) (λ h. omega arith) in let v = bit_other x (2 * l + 1) (λ h. omega arith) in let r = stands_out K d after l x (omega arith) in omega arith)
          (λ e. let z = last_second x e in let p = bit_other x (2 * g) (λ h. omega arith) in let q = bit_other x (2 * l) (λ h. omega arith) in let u = bit_other x (2 * g + 1) (λ h. omega arith) in let v = bit_is x (2 * l + 1) e in let r = stands_out K d after l x (omega arith) in omega arith)
          (λ ng nl. let z = away x ng nl in let p = bit_other x (2 * g) (λ h. ng (omega arith)) in let q = bit_other x (2 * l) (λ h. nl (omega arith)) in let u = bit_other x (2 * g + 1) (λ h. ng (omega arith)) in let v = bit_other x (2 * l + 1) (λ h. nl (omega arith)) in omega arith)

-- the links' keys after the swap removal
pub keyed_moved : {N V E : Type 0} (K : Keys N V) (d : N) (k : Kind) (ks : List N) (g l : ℕ) (ls : List ((N × N) × E)) → l + 1 ≡ length ls → g ≤ l → 2 * l + 1 < length ks
    → Keyed K d k ks ls → Keyed K d k (moved ks d g l) (swap_removed ls g)
keyed_moved {N} {V} {E} K d k ks g l ls n le fits h p e lp =
    let m = length_swap_removed ls g in
    ⊎_elim
    (λ q.
    let at : get_or (swap_removed ls g) p e ≡ get_or ls l e =
    ap (λ z. get_or (swap_removed ls g) z e) q ∙ swap_removed_at ls g e (omega arith) ∙ ap (λ z. get_or ls z e) (let z : length ls - 1 ≡ l = omega arith in z) in
    let one : named K d (moved ks d g l) (2 * p + 1) ≡ named K d ks (2 * l + 1) = ap (λ z. named K d (moved ks d g l) (2 * z + 1)) q ∙ ap K.value (key_second d ks g (get_or ks (2 * l + 1) d) (get_or ks (2 * l) d) (omega arith)) in
    let two : named K d (moved ks d g l) (2 * p) ≡ named K d ks (2 * l) = ap (λ z. named K d (moved ks d g l) (2 * z)) q ∙ ap K.value (key_first d ks g (get_or ks (2 * l + 1) d) (get_or ks (2 * l) d) (omega arith)) in
    ap (λ z. values K z.0) at ∙ h l e (omega arith) ∙ sym (λ i. canon K k (one i) (two i)))
    (λ ne.
    let one : named K d (moved ks d g l) (2 * p + 1) ≡ named K d ks (2 * p + 1) = ap K.value (key_other d ks g (get_or ks (2 * l + 1) d) (get_or ks (2 * l) d) (2 * p + 1) (λ z. ne (omega arith))) in
    let two : named K d (moved ks d g l) (2 * p) ≡ named K d ks (2 * p) = ap K.value (key_other d ks g (get_or ks (2 * l + 1) d) (get_or ks (2 * l) d) (2 * p) (λ z. ne (omega arith))) in
    ap (λ z. values K z.0) (swap_removed_other ls g p e (omega arith) ne) ∙ h p e (omega arith) ∙ sym (λ i. canon K k (one i) (two i)))
    (cases_eq p g)
