-- Where the entry of a link is sought, and the rows without it.
use Rattle.std.specs.Prelude.{◌≡◌, ℕ, ◌<◌, ◌⊎◌, List, length, Option, ◌≢◌, slice_index_or}
use Rattle.keys.specs.declared.kinds.Direction.TheVariants.{Outgoing, Incoming}
use Rattle.keys.specs.declared.kinds.Kind.{Kind}
use Rattle.lists.specs.Swap.{swap_removed}
use Rattle.model.specs.Keys.{Keys}
use Rattle.model.specs.Lists.{found}
use Rattle.model.specs.Maps.{hits}
use Rattle.rows.specs.Rings.{nth}
use Rattle.rows.specs.HalfEdges.{side, twin}
use Rattle.halfedges.specs.Cells.{row_at, put_row, twinned}

-- r is the first cell of the row at i that names b outward, or the twin of the first one of another row, that at j,
-- that names a inward
abbrev pub Looked : {N V : Type 0} → Keys N V → N → Kind → List N → List (N × List ℕ) → ℕ → ℕ → V → V → Option ℕ → Type 0
Looked K d k ks ns i j a b r =
    (r ≡ found (λ x. hits K k b Outgoing (slice_index_or ks x d, side x)) (row_at ns i d))
    ⊎ ((i ≢ j) × (r ≡ twinned (found (λ x. hits K k a Incoming (slice_index_or ks x d, side x)) (row_at ns j d))))

-- the k-th cell has left the row at i, and the twin of c the row at j, each by swap removal
abbrev pub PartedTwice : {N : Type 0} → N → List (N × List ℕ) → List (N × List ℕ) → ℕ → ℕ → ℕ → ℕ → Type 0
PartedTwice {N} d ns ns' i j c k =
    (l : ℕ) → l < length (row_at (put_row ns i d (swap_removed (row_at ns i d) k)) j d) → nth (row_at (put_row ns i d (swap_removed (row_at ns i d) k)) j d) l ≡ twin c
    → ns' ≡ put_row (put_row ns i d (swap_removed (row_at ns i d) k)) j d (swap_removed (row_at (put_row ns i d (swap_removed (row_at ns i d) k)) j d) l)
