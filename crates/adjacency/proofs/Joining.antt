-- The cells of a new link p from a to b, whose keys were written: how often each stands then, and what the rows are told.
use Rattle.std.proofs.Common.{◌≡◌, ℕ, ◌+◌, ◌*◌, ◌/◌, ◌<◌, true, false, cond, eqb, List, length, get_or, sym, refl, ap, ◌∙◌, arith}
use Rattle.keys.specs.declared.kinds.Direction.{Direction}
use Rattle.keys.specs.declared.kinds.Direction.TheVariants.{Outgoing, Incoming}
use Rattle.model.specs.Keys.{Keys, eq}
use Rattle.model.specs.Lists.{bit}
use Rattle.model.specs.Maps.{Node, entered, joined}
use Rattle.rows.specs.HalfEdges.{side}
use Rattle.halfedges.specs.Cells.{standing, stands, wrote, Whole}
use Rattle.halfedges.proofs.Stands.{side_even, side_odd, stands_out, stands_more, key_first, key_second}

-- the cells of the next link stand nowhere
pub next_off : {N V : Type 0} (K : Keys N V) (d : N) (ks : List N) (p : ℕ) (ns : List (N × List ℕ)) → Whole K d ks p ns → (x : ℕ) → x / 2 ≡ p → standing x ns ≡ 0
next_off K d ks p ns whole x e = whole x ∙ stands_out K d ks p x (omega arith)

module _ {N V : Type 0} (K : Keys N V) (ks : List N) (p : ℕ) (a b : N) (fits : 2 * p + 1 < length ks) {ks' : List N} (keys : ks' ≡ wrote ks p a b) where
  first_told : (d : N) → ◌≡◌ {A = N × Direction} (get_or ks' (2 * p) d, side (2 * p)) (b, Outgoing)
  first_told d i = ((ap (λ z. get_or z (2 * p) d) keys ∙ key_first d ks p a b fits) i, side_even (2 * p) (omega arith) i)

  second_told : {ks₂ : List N} → ks₂ ≡ ks' → (d : N) → ◌≡◌ {A = N × Direction} (get_or ks₂ (2 * p + 1) d, side (2 * p + 1)) (a, Incoming)
  second_told still d i = ((ap (λ z. get_or z (2 * p + 1) d) (still ∙ keys) ∙ key_second d ks p a b fits) i, side_odd (2 * p + 1) (omega arith) i)

  -- where the ends are the same, the first cell alone is put into a row
  module _ (self : eq K (K.value a) (K.value b) ≡ true) where
    pub whole_one : (d : N) (ns : List (N × List ℕ)) → Whole K d ks p ns → (s : ℕ → ℕ) → ((x : ℕ) → s x ≡ standing x ns + bit (eqb x (2 * p))) → (x : ℕ) → s x ≡ stands K d ks' (p + 1) x
    whole_one d ns whole s one x =
        let o = one x in
        let w = whole x in
        let m = stands_more K d ks p a b fits x in
        let u : cond (eq K (K.value a) (K.value b)) 0 (bit (eqb x (2 * p + 1))) ≡ 0 = rw self refl in
        let k = ap (λ z. stands K d z (p + 1) x) keys in
        omega arith

    pub joined_one : (m m' : List (Node N)) → m' ≡ entered K a (get_or ks' (2 * p) a, side (2 * p)) m → m' ≡ joined K a b m
    joined_one m m' one = one ∙ ap (λ e. entered K a e m) (first_told a) ∙ sym (ap (λ u. cond u (entered K a (b, Outgoing) m) (entered K b (a, Incoming) (entered K a (b, Outgoing) m))) self)

  -- else both are
  module _ (other : eq K (K.value a) (K.value b) ≡ false) where
    pub whole_two : (d : N) (ns : List (N × List ℕ)) → Whole K d ks p ns → (s t : ℕ → ℕ) → ((x : ℕ) → s x ≡ standing x ns + bit (eqb x (2 * p)))
        → ((x : ℕ) → t x ≡ s x + bit (eqb x (2 * p + 1))) → (x : ℕ) → t x ≡ stands K d ks' (p + 1) x
    whole_two d ns whole s t one two x =
        let o = one x in
        let q = two x in
        let w = whole x in
        let m = stands_more K d ks p a b fits x in
        let u : cond (eq K (K.value a) (K.value b)) 0 (bit (eqb x (2 * p + 1))) ≡ bit (eqb x (2 * p + 1)) = rw other refl in
        let k = ap (λ z. stands K d z (p + 1) x) keys in
        omega arith

    pub joined_two : {ks₂ : List N} → ks₂ ≡ ks' → (m m₁ m' : List (Node N)) → m₁ ≡ entered K a (get_or ks' (2 * p) a, side (2 * p)) m → m' ≡ entered K b (get_or ks₂ (2 * p + 1) a, side (2 * p + 1)) m₁
        → m' ≡ joined K a b m
    joined_two still m m₁ m' one two =
        two
        ∙ (λ i. entered K b (second_told still a i) ((one ∙ ap (λ e. entered K a e m) (first_told a)) i))
        ∙ sym (ap (λ u. cond u (entered K a (b, Outgoing) m) (entered K b (a, Incoming) (entered K a (b, Outgoing) m))) other)
