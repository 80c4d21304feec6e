-- What the writes of an edit make of the row, and which cells they leave: `mem` and `h` before, `mem'` and `h'` after.
use Rattle.std.proofs.Common.{◌≡◌, ℕ, suc, ◌+◌, ◌-◌, ◌<◌, ◌≤◌, List, [], ◌∷◌, ◌++◌, length, take, set, sym, ap, ◌∙◌, arith}
use Rattle.std.proofs.lemmas.List.{length_push, length-take-le, length-set, get_or-take}
use Rattle.rows.specs.declared.cells.Cell.{Cell}
use Rattle.rows.specs.declared.cells.RowHead.{RowHead}
use Rattle.rows.specs.Rings.{none, nth, before, Apart, Holds}
use Rattle.rows.specs.Links.{Row, Kept, Joined}
use Rattle.rows.proofs.Lists.{same_long}
use Rattle.rows.proofs.Rings.{resized, same_nth, last_is, last_apart, before_apart, nth_apart, apart_here, apart_rest}
use Rattle.rows.proofs.RingEdits.{appended, popped, shifted, replaced}

-- the row with another length
abbrev pub counted : RowHead → ℕ → RowHead
counted h n = record { first = h.first; last = h.last; len = n }

module _ {K : Type 0} {mem m₁ mem' : List (Cell K)} {h h₁ h' : RowHead} {xs : List ℕ} {c : ℕ}
    (row : Row mem h xs) (small : length mem ≤ none)
    (within : c < length mem) (fresh : Apart c xs)
    (s1 : Joined mem h m₁ h₁ h.last c) (s2 : Joined m₁ h₁ mem' h' c none) where
  pub append_row : Row mem' (counted h' (h'.len + 1)) (xs ++ c ∷ [])
  append_row =
      let some : c ≡ none → ⊥ = λ e. omega arith in
      let off : c ≡ h.last → ⊥ = λ e. last_apart row.ring small within fresh (sym e) in
      record {
        long = omega (arith, length_push xs c, row.long, s1.len, s2.len);
        ring = resized (same_long (λ c. c.key) _ _ (s2.keys ∙ s1.keys)) (appended row.ring small within fresh (last_is row.ring) (record {
          to_new = s2.nexts h.last (λ e. off (sym e)) ∙ s1.onward;
          from_new = s2.onward;
          old_next = λ x ne nc. s2.nexts x nc ∙ s1.nexts x ne;
          back_new = s2.prevs c some ∙ s1.back;
          new_last = s2.back;
          old_prev = λ x ne nc. s2.prevs x ne ∙ s1.prevs x nc;
        }));
      }

  pub append_kept : Kept mem mem' (c ∷ xs)
  append_kept = record {
    others = λ x d l a.
        s2.others x d (apart_here xs a) (λ e. omega arith)
        ∙ s1.others x d (λ e. last_apart row.ring small l (apart_rest xs a) (sym e)) (apart_here xs a);
    keys = s2.keys ∙ s1.keys;
  }

module _ {K : Type 0} {mem mem' : List (Cell K)} {h h' : RowHead} {xs : List ℕ} {p : ℕ}
    (row : Row mem h xs) (small : length mem ≤ none)
    (some : 0 < h.len) (is : p ≡ before xs (h.len - 1)) (s : Joined mem h mem' h' p none) where
  pub pop_last_row : Row mem' (counted h' (h'.len - 1)) (take (h.len - 1) xs)
  pop_last_row =
      let m = h.len - 1 in
      record {
        long = omega (arith, length-take-le m xs (omega (arith, row.long)), s.len);
        ring = resized (same_long (λ c. c.key) _ _ s.keys) (popped row.ring small (omega (arith, row.long)) is (record {
          new_end = s.onward;
          old_next = s.nexts;
          new_last = s.back;
          old_prev = s.prevs;
        }));
      }

  pub pop_last_kept : Kept mem mem' xs
  pop_last_kept = record {
    others = λ x d l a.
        s.others x d (λ e. before_apart row.ring small x l a (h.len - 1) (omega (arith, row.long)) (sym (e ∙ is)))
        (λ e. omega arith);
    keys = s.keys;
  }

-- the last is not among the others
pub pop_last_apart : {K : Type 0} {mem : List (Cell K)} {h : RowHead} {xs ys : List ℕ} {t : ℕ} → Row mem h xs
    → length mem ≤ none → 0 < h.len → ys ≡ take (h.len - 1) xs → t ≡ nth xs (h.len - 1) → Apart t ys
pop_last_apart {K} {mem} {h} {xs} {ys} {t} row small some list last k l e =
    let m = h.len - 1 in
    let long : length ys ≡ m = ap length list ∙ length-take-le m xs (omega (arith, row.long)) in
    let here : nth ys k ≡ nth xs k = ap (λ zs. nth zs k) list ∙ get_or-take m xs k none (omega (arith, long)) in
    omega (arith, row.long, long, same_nth row.ring small k m (omega (arith, row.long, long)) (omega (arith, row.long)) (sym here ∙ e ∙ last))

module _ {K : Type 0} {mem mem' : List (Cell K)} {h h' : RowHead} {x : ℕ} {xs : List ℕ} {q : ℕ}
    (row : Row mem h (x ∷ xs)) (small : length mem ≤ none) (is : q ≡ nth xs 0) (s : Joined mem h mem' h' none q) where
  pub pop_first_row : Row mem' (counted h' (h'.len - 1)) xs
  pop_first_row = record {
    long = omega (arith, row.long, s.len);
    ring = resized (same_long (λ c. c.key) _ _ s.keys) (shifted row.ring small is (record {
      new_first = s.onward;
      old_next = s.nexts;
      new_start = s.back;
      old_prev = s.prevs;
    }));
  }

  pub pop_first_kept : Kept mem mem' (x ∷ xs)
  pop_first_kept = record {
    others = λ y d l a.
        s.others y d (λ e. omega arith) (λ e. nth_apart row.ring small y l a 1 (sym (e ∙ is)));
    keys = s.keys;
  }

-- old, between p and q, makes room for new
module _ {K : Type 0} {mem m₁ mem' : List (Cell K)} {h h₁ h' : RowHead} {xs : List ℕ} {old new p q : ℕ}
    (row : Row mem h xs) (small : length mem ≤ none)
    (within : new < length mem) (fresh : Apart new xs)
    (prev : (i : ℕ) → i < length xs → nth xs i ≡ old → p ≡ before xs i)
    (next : (i : ℕ) → i < length xs → nth xs i ≡ old → q ≡ nth xs (suc i))
    (s1 : Joined mem h m₁ h₁ p new) (s2 : Joined m₁ h₁ mem' h' new q) where
  pub replace_row : (i : ℕ) → i < length xs → nth xs i ≡ old → Row mem' h' (set xs i new)
  replace_row i li is =
      let before_new = prev i li is in
      let after_new = next i li is in
      let off_prev = before_apart row.ring small new within fresh i (omega arith) in
      let off_next = nth_apart row.ring small new within fresh (suc i) in
      record {
        long = omega (arith, length-set xs i new, row.long, s1.len, s2.len);
        ring = resized (same_long (λ c. c.key) _ _ (s2.keys ∙ s1.keys)) (replaced i row.ring small within fresh li before_new after_new (record {
          new_next = s2.onward;
          new_prev = s2.prevs new (λ e. off_next (sym (e ∙ after_new))) ∙ s1.back;
          to_new = s2.nexts p (λ e. off_prev (sym before_new ∙ e)) ∙ s1.onward;
          back_new = s2.back;
          old_next = λ x nn np. s2.nexts x nn ∙ s1.nexts x np;
          old_prev = λ x nn nq. s2.prevs x nq ∙ s1.prevs x nn;
        }));
      }

  pub replace_kept : Holds old xs → Kept mem mem' (new ∷ xs)
  replace_kept held =
      let i = held.0 in
      let p_is = prev i held.1 held.2 in
      let q_is = next i held.1 held.2 in
      record {
        others = λ x d l a.
            s2.others x d (apart_here xs a)
            (λ e. nth_apart row.ring small x l (apart_rest xs a) (suc i) (sym (e ∙ q_is)))
            ∙ s1.others x d
            (λ e. before_apart row.ring small x l (apart_rest xs a) i (omega arith) (sym (e ∙ p_is)))
            (apart_here xs a);
        keys = s2.keys ∙ s1.keys;
      }
