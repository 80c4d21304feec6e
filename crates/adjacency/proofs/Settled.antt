-- The cells of the last link l take the places of those of the link g, which stand nowhere.
use Rattle.std.proofs.Common.{◌≡◌, ℕ, ◌+◌, ◌*◌, ◌<◌, ◌≤◌, true, false, not, eqb, List, length, get_or, sym, ap, ◌∙◌, arith}
use Rattle.model.specs.Keys.{Keys, eq}
use Rattle.model.specs.Lists.{bit}
use Rattle.rows.specs.HalfEdges.{twin}
use Rattle.halfedges.specs.Cells.{standing, named, stands, wrote, moved, Off}
use Rattle.halfedges.proofs.Counts.{bit_other}
use Rattle.halfedges.proofs.Stands.{stands_even, stands_odd}
use Rattle.halfedges.proofs.Moves.{whole_self, whole_both}
use Rattle.adjacency.specs.Stages.{NodeRows, rows_of, keys_of}

-- how often each cell stands when c' has taken the place of c: the others as often as before
module _ {N : Type 0} {ns₀ ns : List (N × List ℕ)} (ns' : List (N × List ℕ)) (c c' : ℕ) (same : ns ≡ ns₀) (moves : (x : ℕ) → standing x ns' + bit (eqb x c) ≡ standing x ns + bit (eqb x c')) where
  pub shifted : (x : ℕ) → standing x ns' + bit (eqb x c) ≡ standing x ns₀ + bit (eqb x c')
  shifted x = moves x ∙ ap (λ z. standing x z + bit (eqb x c')) same

  pub shifted_other : (x : ℕ) → (x ≡ c → ⊥) → (x ≡ c' → ⊥) → standing x ns' ≡ standing x ns₀
  shifted_other x ne ne' =
      let s = shifted x in
      let u = bit_other x c ne in
      let v = bit_other x c' ne' in
      omega arith

-- the link g is off, and l is the last: a is the key of its second cell, and b that of its first
pub record Last {N V : Type 0} (K : Keys N V) (ks : List N) (g l : ℕ) (ns : List (N × List ℕ)) (a b : N) : Type 0 where
  pub off : (d : N) → Off K d ks g (l + 1) ns
  pub lt : g < l
  pub fits : 2 * l + 1 < length ks
  pub first : (d : N) → b ≡ get_or ks (2 * l) d
  pub second : (d : N) → a ≡ get_or ks (2 * l + 1) d

-- the keys were read in what was opened as r
pub last : {N V : Type 0} {K : Keys N V} {g l : ℕ} {r now : NodeRows N} {a b : N} → r ≡ now → ((d : N) → Off K d (keys_of now) g (l + 1) (rows_of now)) → 2 * l + 1 < length (keys_of now)
    → g ≤ l → (g ≡ l → ⊥) → ((d : N) → b ≡ get_or (keys_of r) (2 * l) d) → ((d : N) → a ≡ get_or (keys_of r) (2 * l + 1) d) → Last K (keys_of now) g l (rows_of now) a b
last {l = l} is off fits le ne first second = record {
  off = off;
  lt = omega arith;
  fits = fits;
  first = λ d. first d ∙ ap (λ z. get_or (keys_of z) (2 * l) d) is;
  second = λ d. second d ∙ ap (λ z. get_or (keys_of z) (2 * l + 1) d) is;
}

module _ {N V : Type 0} {K : Keys N V} {ks : List N} {g l : ℕ} {ns : List (N × List ℕ)} {a b : N} (m : Last K ks g l ns a b) where
  -- its first cell stands, and its second one unless it is a self-link
  pub last_first : standing (2 * l) ns ≡ 1
  last_first = (m.off a).others (2 * l) (λ h. omega (arith, m.lt)) ∙ stands_even K a ks (l + 1) (2 * l) (omega arith) (omega arith)

  ends : (d : N) → eq K (named K d ks (2 * l + 1)) (named K d ks (2 * l)) ≡ eq K (K.value a) (K.value b)
  ends d i = eq K (K.value (sym (m.second d) i)) (K.value (sym (m.first d) i))

  pub last_second : eq K (K.value a) (K.value b) ≡ false → standing (2 * l + 1) ns ≡ 1
  last_second f =
      let t : twin (2 * l + 1) ≡ 2 * l = omega arith in
      (m.off a).others (2 * l + 1) (λ h. omega (arith, m.lt))
      ∙ stands_odd K a ks (l + 1) (2 * l + 1) (omega arith) (omega arith)
      ∙ ap (λ y. bit (not (eq K (named K a ks (2 * l + 1)) (named K a ks y)))) t
      ∙ ap (λ u. bit (not u)) (ends a ∙ f)

  module _ {ks' : List N} (keys : ks' ≡ wrote ks g a b) (s : ℕ → ℕ) (one : (x : ℕ) → s x + bit (eqb x (2 * l)) ≡ standing x ns + bit (eqb x (2 * g))) where
    keys_moved : (d : N) → moved ks d g l ≡ ks'
    keys_moved d = sym (keys ∙ (λ i. wrote ks g (m.second d i) (m.first d i)))

    pub settled_one : eq K (K.value a) (K.value b) ≡ true → (d : N) (x : ℕ) → s x ≡ stands K d ks' l x
    settled_one self d x = whole_self K d ks g l ns (m.off d) m.lt m.fits s one (ends d ∙ self) x ∙ ap (λ z. stands K d z l x) (keys_moved d)

    pub settled_two : eq K (K.value a) (K.value b) ≡ false → (t : ℕ → ℕ) → ((x : ℕ) → t x + bit (eqb x (2 * l + 1)) ≡ s x + bit (eqb x (2 * g + 1))) → (d : N) (x : ℕ) → t x ≡ stands K d ks' l x
    settled_two other t two d x = whole_both K d ks g l ns (m.off d) m.lt m.fits s one (ends d ∙ other) t two x ∙ ap (λ z. stands K d z l x) (keys_moved d)
