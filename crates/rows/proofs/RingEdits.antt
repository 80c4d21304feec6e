-- What an edit of the links makes of a ring: one number at the end, one off either end, one in another's place.
use Rattle.std.proofs.Common.{◌≡◌, ℕ, zero, suc, ◌+◌, ◌<◌, ◌≤◌, ◌⊎◌, List, [], ◌∷◌, ◌++◌, length, take, set, sym, refl, ap, ◌∙◌, inl, inr, ⊎_elim, arith}
use Rattle.std.proofs.lemmas.Bool.{cases_lt, cases_eq, cases_order}
use Rattle.std.proofs.lemmas.List.{get_or_append_left, get_or_push, get_or_past, length_push, get_or-take, get_or-set_same, get_or-set_other, length-take-le, length-set}
use Rattle.rows.specs.Rings.{none, nth, before, Gap, Ring, Apart}
use Rattle.rows.proofs.Rings.{same_place, same_nth, before_apart, nth_apart}

before_push : (xs : List ℕ) (c k : ℕ) → k ≤ length xs → before (xs ++ c ∷ []) k ≡ before xs k
before_push xs c zero l = refl
before_push xs c (suc k) l = get_or_append_left xs (c ∷ []) none k l

-- what it does to the links that c comes after the last
pub record Appended (N P N' P' : ℕ → ℕ) (last c : ℕ) : Type 0 where
  pub to_new : N' last ≡ c
  pub from_new : N' c ≡ none
  pub old_next : (x : ℕ) → (x ≡ last → ⊥) → (x ≡ c → ⊥) → N' x ≡ N x
  pub back_new : P' c ≡ last
  pub new_last : P' none ≡ c
  pub old_prev : (x : ℕ) → (x ≡ none → ⊥) → (x ≡ c → ⊥) → P' x ≡ P x

pub appended : {N P N' P' : ℕ → ℕ} {n : ℕ} {xs : List ℕ} {last c : ℕ}
    → Ring N P n xs → n ≤ none → c < n → Apart c xs → last ≡ before xs (length xs)
    → Appended N P N' P' last c → Ring N' P' n (xs ++ c ∷ [])
appended {N} {P} {N'} {P'} {n} {xs} {last} {c} ring small lc fresh is did =
    record { within = within; gaps = λ k l. gap k (cases_order k (length xs)) (omega (arith, long)) }
  where
    long : length (xs ++ c ∷ []) ≡ length xs + 1
    long = length_push xs c

    within : (k : ℕ) → k < length (xs ++ c ∷ []) → nth (xs ++ c ∷ []) k < n
    within k l =
        ⊎_elim
        (λ lk. rw (get_or_append_left xs (c ∷ []) none k lk) (ring.within k lk))
        (λ past. rw (get_or_push xs c none k (omega (arith, long))) lc)
        (cases_lt k (length xs))

    gap : (k : ℕ) → (k ≡ length xs) ⊎ ((k < length xs) ⊎ (length xs < k)) → k ≤ length xs + 1
        → Gap N' P' (xs ++ c ∷ []) k
    gap k (inl e) l =
        let b : before (xs ++ c ∷ []) k ≡ last = before_push xs c k (omega arith) ∙ ap (before xs) e ∙ sym is in
        let a : nth (xs ++ c ∷ []) k ≡ c = get_or_push xs c none k (sym e) in
        record { onward = ap N' b ∙ did.to_new ∙ sym a; back = ap P' a ∙ did.back_new ∙ sym b }
    gap k (inr (inl lk)) l =
        let b = before_push xs c k (omega arith) in
        let a = get_or_append_left xs (c ∷ []) none k lk in
        let was = ring.gaps k (omega arith) in
        let ne : before xs k ≡ last → ⊥ = λ e.
        omega (arith, same_place ring small k (length xs) (omega arith) (omega arith) (e ∙ is)) in
        record {
          onward = ap N' b ∙ did.old_next _ ne (before_apart ring small c lc fresh k (omega arith)) ∙ was.onward ∙ sym a;
          back = ap P' a ∙ did.old_prev _ (λ e. omega (arith, ring.within k lk)) (fresh k lk) ∙ was.back ∙ sym b;
        }
    gap zero (inr (inr past)) l = absurd (omega arith)
    gap (suc k) (inr (inr past)) l =
        let b : before (xs ++ c ∷ []) (suc k) ≡ c = get_or_push xs c none k (omega arith) in
        let a : nth (xs ++ c ∷ []) (suc k) ≡ none = get_or_past (xs ++ c ∷ []) (suc k) none (omega (arith, long)) in
        record { onward = ap N' b ∙ did.from_new ∙ sym a; back = ap P' a ∙ did.new_last ∙ sym b }

before_take : (m : ℕ) (xs : List ℕ) (k : ℕ) → k ≤ m → before (take m xs) k ≡ before xs k
before_take m xs zero l = refl
before_take m xs (suc k) l = get_or-take m xs k none l

-- what it does to the links that the last is taken off, where p comes before it
pub record Popped (N P N' P' : ℕ → ℕ) (p : ℕ) : Type 0 where
  pub new_end : N' p ≡ none
  pub old_next : (x : ℕ) → (x ≡ p → ⊥) → N' x ≡ N x
  pub new_last : P' none ≡ p
  pub old_prev : (x : ℕ) → (x ≡ none → ⊥) → P' x ≡ P x

pub popped : {N P N' P' : ℕ → ℕ} {n : ℕ} {xs : List ℕ} {p m : ℕ}
    → Ring N P n xs → n ≤ none → m < length xs → p ≡ before xs m → Popped N P N' P' p → Ring N' P' n (take m xs)
popped {N} {P} {N'} {P'} {n} {xs} {p} {m} ring small lm is did =
    record { within = within; gaps = λ k l. gap k (cases_lt k m) (omega (arith, long)) }
  where
    long : length (take m xs) ≡ m
    long = length-take-le m xs (omega arith)

    within : (k : ℕ) → k < length (take m xs) → nth (take m xs) k < n
    within k l = rw (get_or-take m xs k none (omega (arith, long))) (ring.within k (omega (arith, long)))

    gap : (k : ℕ) → (k < m) ⊎ (m ≤ k) → k ≤ m → Gap N' P' (take m xs) k
    gap k (inl lk) l =
        let b = before_take m xs k l in
        let a = get_or-take m xs k none lk in
        let was = ring.gaps k (omega arith) in
        let ne : before xs k ≡ p → ⊥ = λ e.
        omega (arith, same_place ring small k m (omega arith) (omega arith) (e ∙ is)) in
        record {
          onward = ap N' b ∙ did.old_next _ ne ∙ was.onward ∙ sym a;
          back = ap P' a ∙ did.old_prev _ (λ e. omega (arith, ring.within k (omega arith))) ∙ was.back ∙ sym b;
        }
    gap k (inr end) l =
        let e : k ≡ m = omega arith in
        let b : before (take m xs) k ≡ p = before_take m xs k l ∙ ap (before xs) e ∙ sym is in
        let a : nth (take m xs) k ≡ none = get_or_past (take m xs) k none (omega (arith, long)) in
        record { onward = ap N' b ∙ did.new_end ∙ sym a; back = ap P' a ∙ did.new_last ∙ sym b }

-- what it does to the links that the first is taken off, where q comes after it
pub record Shifted (N P N' P' : ℕ → ℕ) (q : ℕ) : Type 0 where
  pub new_first : N' none ≡ q
  pub old_next : (x : ℕ) → (x ≡ none → ⊥) → N' x ≡ N x
  pub new_start : P' q ≡ none
  pub old_prev : (x : ℕ) → (x ≡ q → ⊥) → P' x ≡ P x

pub shifted : {N P N' P' : ℕ → ℕ} {n : ℕ} {x : ℕ} {xs : List ℕ} {q : ℕ}
    → Ring N P n (x ∷ xs) → n ≤ none → q ≡ nth xs 0 → Shifted N P N' P' q → Ring N' P' n xs
shifted {N} {P} {N'} {P'} {n} {x} {xs} {q} ring small is did =
    record { within = λ k l. ring.within (suc k) (omega arith); gaps = gap }
  where
    gap : (k : ℕ) → k ≤ length xs → Gap N' P' xs k
    gap zero l = record { onward = did.new_first ∙ is; back = ap P' (sym is) ∙ did.new_start }
    gap (suc k) l =
        let was = ring.gaps (suc (suc k)) (omega arith) in
        let ne : nth xs (suc k) ≡ q → ⊥ = λ e.
        omega (arith, same_nth ring small (suc (suc k)) 1 (omega arith) (omega arith) (e ∙ is)) in
        record {
          onward = did.old_next _ (λ e. omega (arith, ring.within (suc k) (omega arith))) ∙ was.onward;
          back = did.old_prev _ ne ∙ was.back;
        }

before_set_other : (xs : List ℕ) (i c k : ℕ) → (k ≡ suc i → ⊥) → before (set xs i c) k ≡ before xs k
before_set_other xs i c zero ne = refl
before_set_other xs i c (suc k) ne = get_or-set_other xs i k c none (λ e. ne (ap suc e))

-- what it does to the links that `new` takes the place between p and q
pub record Replaced (N P N' P' : ℕ → ℕ) (p q new : ℕ) : Type 0 where
  pub new_next : N' new ≡ q
  pub new_prev : P' new ≡ p
  pub to_new : N' p ≡ new
  pub back_new : P' q ≡ new
  pub old_next : (x : ℕ) → (x ≡ new → ⊥) → (x ≡ p → ⊥) → N' x ≡ N x
  pub old_prev : (x : ℕ) → (x ≡ new → ⊥) → (x ≡ q → ⊥) → P' x ≡ P x

pub replaced : {N P N' P' : ℕ → ℕ} {n : ℕ} {xs : List ℕ} {p q new : ℕ} (i : ℕ)
    → Ring N P n xs → n ≤ none → new < n → Apart new xs → i < length xs → p ≡ before xs i → q ≡ nth xs (suc i)
    → Replaced N P N' P' p q new → Ring N' P' n (set xs i new)
replaced {N} {P} {N'} {P'} {n} {xs} {p} {q} {new} i ring small ln fresh li prev next did =
    record {
      within = within;
      gaps = λ k l. gap k (cases_eq k i) (cases_eq k (suc i)) (omega (arith, length-set xs i new));
    }
  where
    here : nth (set xs i new) i ≡ new
    here = get_or-set_same xs i new none li

    within : (k : ℕ) → k < length (set xs i new) → nth (set xs i new) k < n
    within k l =
        ⊎_elim
        (λ e. omega (arith, ap (nth (set xs i new)) e, here))
        (λ ne. rw (get_or-set_other xs i k new none ne) (ring.within k (omega (arith, length-set xs i new))))
        (cases_eq k i)

    gap : (k : ℕ) → (k ≡ i) ⊎ (k ≡ i → ⊥) → (k ≡ suc i) ⊎ (k ≡ suc i → ⊥) → k ≤ length xs
        → Gap N' P' (set xs i new) k
    gap k (inl e) t l =
        let b : before (set xs i new) k ≡ p = before_set_other xs i new k (λ f. omega arith) ∙ ap (before xs) e ∙ sym prev in
        let a : nth (set xs i new) k ≡ new = ap (nth (set xs i new)) e ∙ here in
        record { onward = ap N' b ∙ did.to_new ∙ sym a; back = ap P' a ∙ did.new_prev ∙ sym b }
    gap k (inr ne) (inl e) l =
        let b : before (set xs i new) k ≡ new = ap (before (set xs i new)) e ∙ here in
        let a : nth (set xs i new) k ≡ q = get_or-set_other xs i k new none ne ∙ ap (nth xs) e ∙ sym next in
        record { onward = ap N' b ∙ did.new_next ∙ sym a; back = ap P' a ∙ did.back_new ∙ sym b }
    gap k (inr ne) (inr nf) l =
        let b = before_set_other xs i new k nf in
        let a = get_or-set_other xs i k new none ne in
        let was = ring.gaps k l in
        let np : before xs k ≡ p → ⊥ = λ e. ne (same_place ring small k i l (omega arith) (e ∙ prev)) in
        let nq : nth xs k ≡ q → ⊥ = λ e. nf (same_nth ring small k (suc i) l li (e ∙ next)) in
        record {
          onward = ap N' b ∙ did.old_next _ (before_apart ring small new ln fresh k l) np ∙ was.onward ∙ sym a;
          back = ap P' a ∙ did.old_prev _ (nth_apart ring small new ln fresh k) nq ∙ was.back ∙ sym b;
        }
