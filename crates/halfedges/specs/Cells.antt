-- Half-edges over lists alone: the link at place p owns the cells 2p and 2p + 1. `ns` is each node with the cells of
-- its row, `ks` the keys of the cells, `ls` the links.
use Rattle.std.specs.Prelude.{◌≡◌, ℕ, ◌+◌, ◌*◌, ◌/◌, ◌%◌, ◌<◌, ◌≤◌, not, ◌&&◌, List, [], map, length, get_or, Some, None, Option, ◌==◌, ◌≢◌, nat_eq, nat_lt, slice_index_or, slice_set}
use Rattle.keys.specs.declared.kinds.Direction.{Direction}
use Rattle.keys.specs.declared.kinds.Kind.{Kind}
use Rattle.rows.specs.HalfEdges.{twin, told}
use Rattle.model.specs.Keys.{Keys, eq}
use Rattle.model.specs.Lists.{bit, tally, many}
use Rattle.model.specs.Maps.{canon}

-- how often c stands among xs, and in all rows
abbrev pub count : ℕ → List ℕ → ℕ
count c xs = many (nat_eq c) xs

abbrev pub standing : {N : Type 0} → ℕ → List (N × List ℕ) → ℕ
standing c ns = tally (λ n. count c n.1) ns

-- each node with the entries of its row
abbrev pub noded : {N : Type 0} → List N → List (N × List ℕ) → List (N × List (N × Direction))
noded ks ns = map (λ n. (n.0, told ks n.1)) ns

-- the cells of the row at i, and another row there
abbrev pub row_at : {N : Type 0} → List (N × List ℕ) → ℕ → N → List ℕ
row_at ns i d = (get_or ns i (d, [])).1

abbrev pub put_row : {N : Type 0} → List (N × List ℕ) → ℕ → N → List ℕ → List (N × List ℕ)
put_row ns i d xs = slice_set ns i ((get_or ns i (d, [])).0, xs)

-- the twin of a cell that was found
abbrev pub twinned : Option ℕ → Option ℕ
twinned None = None
twinned (Some c) = Some (twin c)

-- the keys of the cells of link p: the first cell names b, the second a
abbrev pub wrote : {N : Type 0} → List N → ℕ → N → N → List N
wrote ks p a b = slice_set (slice_set ks (2 * p) b) (2 * p + 1) a

-- the same with the keys of link l
abbrev pub moved : {N : Type 0} → List N → N → ℕ → ℕ → List N
moved ks d g l = wrote ks g (slice_index_or ks (2 * l + 1) d) (slice_index_or ks (2 * l) d)

module _ {N V : Type 0} (K : Keys N V) (d : N) where
  -- the value of a cell's key
  abbrev pub named : List N → ℕ → V
  named ks c = K.value (slice_index_or ks c d)

  -- how often the cell c stands where there are n links: once, but not past them, and not as the second cell of a self-link
  abbrev pub stands : List N → ℕ → ℕ → ℕ
  stands ks n c = bit (nat_lt c (2 * n) && not (c % 2 == 1 && eq K (named ks c) (named ks (twin c))))

  -- a cell stands only in the row of the node that its twin names
  abbrev pub Owned : List N → List (N × List ℕ) → Type 0
  Owned ks ns = (i c : ℕ) → i < length ns → 1 ≤ count c (row_at ns i d) → named ks (twin c) ≡ K.value (get_or ns i (d, [])).0

  -- the cells of n links stand as they should
  abbrev pub Whole : List N → ℕ → List (N × List ℕ) → Type 0
  Whole ks n ns = (c : ℕ) → standing c ns ≡ stands ks n c

  -- the same, but that those of the link g stand nowhere
  pub record Off (ks : List N) (g n : ℕ) (ns : List (N × List ℕ)) : Type 0 where
    pub out : (c : ℕ) → c / 2 ≡ g → standing c ns ≡ 0
    pub others : (c : ℕ) → (c / 2 ≢ g) → standing c ns ≡ stands ks n c

  -- no cell stands more often than it should
  abbrev pub Most : List N → ℕ → List (N × List ℕ) → Type 0
  Most ks n ns = (c : ℕ) → standing c ns ≤ stands ks n c

  -- a link's key is that of the ends which its two cells name
  abbrev pub Keyed : {E : Type 0} → Kind → List N → List ((N × N) × E) → Type 0
  Keyed {E} k ks ls =
      (p : ℕ) (e : (N × N) × E) → p < length ls
      → (K.value (get_or ls p e).0.0, K.value (get_or ls p e).0.1) ≡ canon K k (named ks (2 * p + 1)) (named ks (2 * p))
