-- A row none of whose cells is written stays as it was.
use Rattle.std.proofs.Common.{◌≡◌, ℕ, zero, suc, ◌<◌, ◌≤◌, cond, eqb, List, [], ◌∷◌, map, length, get_or, sym, refl, ap, ◌∙◌, subst, ⊎_elim, arith}
use Rattle.std.proofs.lemmas.Bool.{cases_lt}
use Rattle.std.proofs.lemmas.List.{get_or-map, get_or_past}
use Rattle.rows.specs.declared.cells.Cell.{Cell}
use Rattle.rows.specs.declared.cells.RowHead.{RowHead}
use Rattle.rows.specs.Rings.{none, nth, before, Ring, Apart}
use Rattle.rows.specs.Links.{nexts, prevs, walk, Row, Kept, Linked, listed, next_of, prev_of}
use Rattle.rows.proofs.Rings.{resized}
use Rattle.rows.proofs.Lists.{same_long, row_linked, listed_is, listed_length}

-- a part of a cell that is as it was
part_same : {A : Type 0} (f : A → ℕ) (mem mem' : List A) (x : ℕ) → length mem ≡ length mem' → x < length mem
    → ((d : A) → get_or mem' x d ≡ get_or mem x d) → get_or (map f mem') x 0 ≡ get_or (map f mem) x 0
part_same f [] mem' x same l was = absurd (omega arith)
part_same f (m ∷ ms) mem' x same l was =
    get_or-map f mem' x m 0 (omega arith) ∙ ap f (was m) ∙ sym (get_or-map f (m ∷ ms) x m 0 l)

module _ {K : Type 0} (mem mem' : List (Cell K)) (h : RowHead) (xs : List ℕ) (row : Row mem h xs)
    (same : length mem ≡ length mem')
    (was : (k : ℕ) → k < length xs → (d : Cell K) → get_or mem' (nth xs k) d ≡ get_or mem (nth xs k) d) where
  next_same : (k : ℕ) → k ≤ length xs → next_of mem' h (before xs k) ≡ next_of mem h (before xs k)
  next_same zero l = refl
  next_same (suc k) l =
      ap (λ y. cond (eqb (nth xs k) none) h.first y)
      (part_same (λ c. c.next) mem mem' (nth xs k) same (row.ring.within k l) (was k l))

  prev_same : (k : ℕ) → prev_of mem' h (nth xs k) ≡ prev_of mem h (nth xs k)
  prev_same k =
      ⊎_elim
      (λ l.
      ap (λ y. cond (eqb (nth xs k) none) h.last y)
      (part_same (λ c. c.prev) mem mem' (nth xs k) same (row.ring.within k l) (was k l)))
      (λ l. let e = get_or_past xs k none l in ap (prev_of mem' h) e ∙ sym (ap (prev_of mem h) e))
      (cases_lt k (length xs))

  pub framed : Row mem' h xs
  framed = record {
    long = row.long;
    ring = resized same (record {
      within = row.ring.within;
      gaps = λ k l.
          let g = row.ring.gaps k l in
          record { onward = next_same k l ∙ g.onward; back = prev_same k ∙ g.back };
    });
  }

-- the same from what an edit of another row ensures, where ys are the cells that it may have written
module _ {K : Type 0} (mem mem' : List (Cell K)) (h : RowHead) (ys : List ℕ) (linked : Linked mem h)
    (small : length mem ≤ none) (kept : Kept mem mem' ys)
    (off : (k : ℕ) → k < length (listed mem h) → Apart (nth (listed mem h) k) ys) where
  long : length mem ≡ length mem'
  long = same_long (λ c. c.key) mem mem' kept.keys

  still : Row mem' h (listed mem h)
  still = framed mem mem' h (listed mem h) linked long (λ k l d. kept.others _ d (linked.ring.within k l) (off k l))

  pub other_linked : Linked mem' h
  other_linked = row_linked still (omega (arith, long))

  pub other_listed : listed mem' h ≡ listed mem h
  other_listed = listed_is still (omega (arith, long))

-- a memory whose links are as they were: keys may have been written
module _ {K : Type 0} (mem mem' : List (Cell K)) (h : RowHead) (nexts_same : nexts mem' ≡ nexts mem)
    (prevs_same : prevs mem' ≡ prevs mem) where
  pub rekeyed_listed : listed mem' h ≡ listed mem h
  rekeyed_listed = ap (λ ns. walk (λ x. get_or ns x 0) h.first h.len) nexts_same

  pub rekeyed_linked : Linked mem h → Linked mem' h
  rekeyed_linked linked = record {
    long = sym (listed_length mem' h);
    ring = resized (same_long (λ c. c.next) mem mem' nexts_same) (moved (sym nexts_same) (sym prevs_same) linked.ring);
  }
    where
      Moved : List ℕ → List ℕ → Type 0
      Moved ns ps =
          Ring (λ x. cond (eqb x none) h.first (get_or ns x 0)) (λ x. cond (eqb x none) h.last (get_or ps x 0)) (length mem)
          (walk (λ x. get_or ns x 0) h.first h.len)

      moved : {ns ms ps qs : List ℕ} → ns ≡ ms → ps ≡ qs → Moved ns ps → Moved ms qs
      moved {ns} {ms} {ps} {qs} e f ring = subst (Moved ms) f (subst (λ xs. Moved xs ps) e ring)
