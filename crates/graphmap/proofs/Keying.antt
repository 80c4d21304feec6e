-- The link table beside the list of links.
use Rattle.std.proofs.Common.{◌≡◌, ℕ, ◌+◌, ◌*◌, ◌<◌, List, [], ◌∷◌, ◌++◌, length, get_or, set, Err, Ordering, sym, ap, ◌∙◌, subst, ⊎_elim, arith}
use Rattle.std.proofs.lemmas.List.{get_or-set_same, get_or-set_other, length-set, get_or_default, get_or_append_left, get_or_push, length_push}
use Rattle.std.proofs.lemmas.Bool.{cases_eq, cases_lt}
use Rattle.keys.specs.Hashes.{pair_hash}
use Rattle.keys.specs.Laws.{pair_laws}
use Rattle.keys.specs.Order.{Laws, alike}
use Rattle.keys.specs.Nodes.{by_both}
use Rattle.keys.specs.declared.kinds.Kind.{Kind}
use Rattle.lists.specs.Positions.{position}
use Rattle.table.proofs.Seeks.{sought_vacant}
use Rattle.table.specs.Searches.{Absent}
use Rattle.table.specs.Tables.{sought}
use Rattle.table.specs.declared.table.Vacancy.{Vacancy}
use Rattle.model.specs.Keys.{Keys, keys}
use Rattle.model.specs.Maps.{edge_key, canon, is_link}
use Rattle.model.proofs.Positions.{position_same}
use Rattle.model.proofs.Ends.{values, key_values, pair_test}
use Rattle.halfedges.specs.Cells.{named, wrote, Keyed}
use Rattle.halfedges.proofs.Stands.{key_other, key_first, key_second}
use Rattle.graphmap.specs.Parts.{Parts, link_search}

-- the table's search for the key q of a link is the list's search for the link
pub link_sought : {N V E : Type 0} (K : Keys N V) (k : Kind) (a b : N) (ls : List ((N × N) × E)) (q : N × N) → q ≡ edge_key K k a b
    → position (λ l. alike (by_both K.order K.order) (values K l.0) (values K q)) ls ≡ position (is_link K (canon K k (K.value a) (K.value b))) ls
link_sought K k a b ls q e =
    position_same _ _ (pair_test K q) ls ∙ ap (λ x. position (is_link K (values K x)) ls) e ∙ ap (λ κ. position (is_link K κ) ls) (key_values K k a b)

module _ {N V E : Type 0} (value : N → V) (order : V → V → Ordering) where
  pub key_search : (hashed : N → ℕ) (m : Parts N E) (a b : N) (q : N × N) → q ≡ edge_key (keys value order) m.kind a b
      → sought (by_both order order) (values (keys value order)) (λ (y : N × N). pair_hash (hashed y.0) (hashed y.1)) m.links.room m.links.entries q ≡ link_search value order hashed m a b
  key_search hashed m a b q e = ap (sought (by_both order order) (values (keys value order)) (λ (y : N × N). pair_hash (hashed y.0) (hashed y.1)) m.links.room m.links.entries) e

  pub search_absent : Laws order → (hashed : N → ℕ) (m : Parts N E) (a b : N) (v : Vacancy) → link_search value order hashed m a b ≡ Err v
      → Absent (values (keys value order)) m.links.entries (edge_key (keys value order) m.kind a b)
  search_absent laws hashed m a b v e =
      (sought_vacant (by_both order order) (pair_laws order order laws laws) (values (keys value order)) (λ (y : N × N). pair_hash (hashed y.0) (hashed y.1)) m.links.room m.links.entries
      (edge_key (keys value order) m.kind a b) v e).0

-- another weight leaves the keys
module _ {N V E : Type 0} (K : Keys N V) (d : N) (k : Kind) (ks : List N) (ls ls' : List ((N × N) × E)) (i : ℕ) (w : E) (e₀ : (N × N) × E) (q : ls' ≡ set ls i ((get_or ls i e₀).0, w)) (li : i < length ls) where
  pub reweighted_length : length ls' ≡ length ls
  reweighted_length = ap length q ∙ length-set ls i ((get_or ls i e₀).0, w)

  pub keyed_reweighted : Keyed K d k ks ls → Keyed K d k ks ls'
  keyed_reweighted h p e l =
      let same : (get_or ls' p e).0 ≡ (get_or ls p e).0 =
      ⊎_elim
      (λ f. ap (λ xs. (get_or xs p e).0) q ∙ ap (λ z. (get_or (set ls i ((get_or ls i e₀).0, w)) z e).0) f ∙ ap (λ z. z.0) (get_or-set_same ls i ((get_or ls i e₀).0, w) e li)
      ∙ ap (λ z. z.0) (get_or_default ls i e₀ e li) ∙ ap (λ z. (get_or ls z e).0) (sym f))
      (λ ne. ap (λ xs. (get_or xs p e).0) q ∙ ap (λ z. z.0) (get_or-set_other ls i p ((get_or ls i e₀).0, w) e ne))
      (cases_eq p i) in
      ap (values K) same ∙ h p e (omega (arith, reweighted_length))

-- a link more, whose two cells are given the keys of its ends
pub keyed_more : {N V E : Type 0} (K : Keys N V) (d : N) (k : Kind) (ks : List N) (ls : List ((N × N) × E)) (a b : N) (w : E) → 2 * length ls + 1 < length ks
    → Keyed K d k ks ls → Keyed K d k (wrote ks (length ls) a b) (ls ++ (edge_key K k a b, w) ∷ [])
keyed_more K d k ks ls a b w fits h q e l =
    let p = length ls in
    let ks' = wrote ks p a b in
    ⊎_elim
    (λ m.
    let one : named K d ks' (2 * q + 1) ≡ named K d ks (2 * q + 1) = ap K.value (key_other d ks p a b (2 * q + 1) (λ z. omega arith)) in
    let two : named K d ks' (2 * q) ≡ named K d ks (2 * q) = ap K.value (key_other d ks p a b (2 * q) (λ z. omega arith)) in
    ap (λ x. values K x.0) (get_or_append_left ls ((edge_key K k a b, w) ∷ []) e q m) ∙ h q e m ∙ sym (λ i. canon K k (one i) (two i)))
    (λ m.
    let z : q ≡ p = omega (arith, length_push ls (edge_key K k a b, w)) in
    let one : named K d ks' (2 * q + 1) ≡ K.value a = ap (λ y. named K d ks' (2 * y + 1)) z ∙ ap K.value (key_second d ks p a b fits) in
    let two : named K d ks' (2 * q) ≡ K.value b = ap (λ y. named K d ks' (2 * y)) z ∙ ap K.value (key_first d ks p a b fits) in
    ap (λ x. values K x.0) (get_or_push ls (edge_key K k a b, w) e q (sym z)) ∙ key_values K k a b ∙ sym (λ i. canon K k (one i) (two i)))
    (cases_lt q p)

pub keyed_as : {N V E : Type 0} (K : Keys N V) (d : N) (k : Kind) (ks ks' : List N) (ls ls' : List ((N × N) × E)) → ks' ≡ ks → ls' ≡ ls → Keyed K d k ks ls → Keyed K d k ks' ls'
keyed_as K d k ks ks' ls ls' e f h = subst (λ x. Keyed K d k x ls') (sym e) (subst (Keyed K d k ks) (sym f) h)
