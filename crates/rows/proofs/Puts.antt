-- Two cells are joined: one link is written, of a cell or of the head of a row, and then its counterpart.
use Rattle.std.proofs.Common.{◌≡◌, ℕ, ◌<◌, cond, eqb, List, map, length, get_or, set, sym, refl, ap, ◌∙◌, subst, arith, get_or-set_other, get_or-set_same}
use lib.ListN.{length-map}
use lib.Seq.{map-set, map-set_same}
use Rattle.std.proofs.lemmas.Bool.{eq-eqb, ne_eqb, cond-true, cond-false}
use Rattle.rows.specs.declared.cells.Cell.{Cell}
use Rattle.rows.specs.declared.cells.RowHead.{RowHead}
use Rattle.rows.specs.Rings.{none}
use Rattle.rows.specs.Links.{nexts, next_of, prev_of, cell_keys, Joined}

-- the link of x, where the head has that of the cell none: `next_of` and `prev_of` are such
abbrev pub link_of : {K : Type 0} → (Cell K → ℕ) → (RowHead → ℕ) → List (Cell K) → RowHead → ℕ → ℕ
link_of f tip mem h x = cond (eqb x none) (tip h) (get_or (map f mem) x 0)

-- F now gives v at a, and nothing else has changed: F is `next_of` and G `prev_of`, or the other way round
pub record LinkSet {K : Type 0} (F G : List (Cell K) → RowHead → ℕ → ℕ) (mem : List (Cell K)) (h : RowHead) (mem' : List (Cell K)) (h' : RowHead) (a v : ℕ) : Type 0 where
  pub here : F mem' h' a ≡ v
  pub there : (x : ℕ) → (x ≡ a → ⊥) → F mem' h' x ≡ F mem h x
  pub across : (x : ℕ) → G mem' h' x ≡ G mem h x
  pub others : (x : ℕ) (d : Cell K) → (x ≡ a → ⊥) → get_or mem' x d ≡ get_or mem x d
  pub keys : cell_keys mem' ≡ cell_keys mem
  pub len : h'.len ≡ h.len

-- both links are written
pub joined : {K : Type 0} {mem m₁ mem' : List (Cell K)} {h h₁ h' : RowHead} {a b : ℕ}
    → LinkSet next_of prev_of mem h m₁ h₁ a b → LinkSet prev_of next_of m₁ h₁ mem' h' b a → Joined mem h mem' h' a b
joined {a = a} s1 s2 = record {
  onward = s2.across a ∙ s1.here;
  back = s2.here;
  nexts = λ x na. s2.across x ∙ s1.there x na;
  prevs = λ x nb. s2.there x nb ∙ s1.across x;
  others = λ x d na nb. s2.others x d nb ∙ s1.others x d na;
  keys = s2.keys ∙ s1.keys;
  len = s2.len ∙ s1.len;
}

module _ {K : Type 0} (f g : Cell K → ℕ) (tip end : RowHead → ℕ) {mem m₁ : List (Cell K)} {h h₁ : RowHead} {a v : ℕ} where
  -- the head is written
  pub tip_put : a ≡ none → m₁ ≡ mem → tip h₁ ≡ v → end h₁ ≡ end h → h₁.len ≡ h.len
      → LinkSet (link_of f tip) (link_of g end) mem h m₁ h₁ a v
  tip_put e now put same len = subst (λ m. LinkSet (link_of f tip) (link_of g end) mem h m h₁ a v) (sym now) (record {
    here = cond-true _ _ _ (eq-eqb a none e) ∙ put;
    there = λ x nx.
        let off = ne_eqb x none (λ k. nx (k ∙ sym e)) in cond-false _ _ _ off ∙ sym (cond-false _ _ _ off);
    across = λ x. ap (λ y. cond (eqb x none) y (get_or (map g mem) x 0)) same;
    others = λ x d nx. refl;
    keys = refl;
    len = len;
  })

  -- the cell a is written
  pub cell_put : (d new : Cell K) → (a ≡ none → ⊥) → a < length mem → m₁ ≡ set mem a new → h₁ ≡ h → f new ≡ v
      → g new ≡ g (get_or mem a d) → new.key ≡ (get_or mem a d).key
      → LinkSet (link_of f tip) (link_of g end) mem h m₁ h₁ a v
  cell_put d new ne l now row put same key =
      subst (λ m. LinkSet (link_of f tip) (link_of g end) mem h m h₁ a v) (sym now)
      (subst (λ k. LinkSet (link_of f tip) (link_of g end) mem h (set mem a new) k a v) (sym row) (record {
        here =
            cond-false _ _ _ (ne_eqb a none ne)
            ∙ ap (λ xs. get_or xs a 0) written
            ∙ get_or-set_same (map f mem) a (f new) 0 (omega (arith, length-map mem f, l))
            ∙ put;
        there = λ x nx.
            ap (λ y. cond (eqb x none) (tip h) y)
            (ap (λ xs. get_or xs x 0) written ∙ get_or-set_other (map f mem) a x (f new) 0 nx);
        across = λ x. ap (λ xs. cond (eqb x none) (end h) (get_or xs x 0)) (map-set_same g mem a new d same);
        others = λ x e nx. get_or-set_other mem a x new e nx;
        keys = map-set_same (λ c. c.key) mem a new d key;
        len = refl;
      }))
    where
      written : map f (set mem a new) ≡ set (map f mem) a (f new)
      written = map-set f mem a new

-- the first that a row had does not matter where another is written
pub first_over : {K : Type 0} {mem mem' : List (Cell K)} {h h' : RowHead} {b : ℕ} (f : ℕ)
    → Joined mem (record { first = f; last = h.last; len = h.len }) mem' h' none b → Joined mem h mem' h' none b
first_over f s = record {
  onward = s.onward;
  back = s.back;
  nexts = λ x nx. let off = ne_eqb x none nx in s.nexts x nx ∙ cond-false _ _ _ off ∙ sym (cond-false _ _ _ off);
  prevs = s.prevs;
  others = s.others;
  keys = s.keys;
  len = s.len;
}

-- nor does what came after a cell, where that is written anew
pub next_over : {K : Type 0} {mem mem' : List (Cell K)} {h h' : RowHead} {a b : ℕ} (d : Cell K) (n : ℕ)
    → Joined (set mem a (record { key = (get_or mem a d).key; prev = (get_or mem a d).prev; next = n })) h mem' h' a b → Joined mem h mem' h' a b
next_over {K} {mem} {mem'} {h} {h'} {a} {b} d n s =
    let new : Cell K = record { key = (get_or mem a d).key; prev = (get_or mem a d).prev; next = n } in
    record {
      onward = s.onward;
      back = s.back;
      nexts = λ x nx.
          s.nexts x nx
          ∙ ap (λ y. cond (eqb x none) h.first y)
          (ap (λ xs. get_or xs x 0) (map-set (λ c. c.next) mem a new) ∙ get_or-set_other (nexts mem) a x n 0 nx);
      prevs = λ x nb. s.prevs x nb ∙ ap (λ xs. cond (eqb x none) h.last (get_or xs x 0)) (map-set_same (λ c. c.prev) mem a new d refl);
      others = λ x e na nb. s.others x e na nb ∙ get_or-set_other mem a x new e na;
      keys = s.keys ∙ map-set_same (λ c. c.key) mem a new d refl;
      len = s.len;
    }

-- two cells are joined, whatever the links were that are written over. The code needs neither: with them a slip in a
-- link that is written twice fails in what is said of the row, and not on the way there.
pub ruleset over = (first_over, next_over)
