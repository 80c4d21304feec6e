-- In a ring no number comes twice, and what stands beside a place of it is within its bounds.
use Rattle.std.proofs.Common.{◌≡◌, ℕ, zero, suc, ◌<◌, ◌≤◌, List, ◌∷◌, length, sym, refl, ap, ◌∙◌, subst, ⊎_elim, arith}
use Rattle.std.proofs.lemmas.Bool.{cases_lt}
use Rattle.std.proofs.lemmas.List.{get_or_past}
use Rattle.rows.specs.Rings.{none, nth, before, Ring, Apart}

pub resized : {N P : ℕ → ℕ} {n m : ℕ} {xs : List ℕ} → n ≡ m → Ring N P n xs → Ring N P m xs
resized {N} {P} {n} {m} {xs} e ring = subst (λ i. Ring N P i xs) e ring

pub apart_here : {x c : ℕ} (xs : List ℕ) → Apart x (c ∷ xs) → x ≡ c → ⊥
apart_here xs a e = a 0 (omega arith) (sym e)

pub apart_rest : {x c : ℕ} (xs : List ℕ) → Apart x (c ∷ xs) → Apart x xs
apart_rest xs a k l = a (suc k) (omega arith)

pub apart_more : {x c : ℕ} (xs : List ℕ) → Apart x xs → (x ≡ c → ⊥) → Apart x (c ∷ xs)
apart_more xs a ne zero l e = ne (sym e)
apart_more xs a ne (suc k) l e = a k (omega arith) e

module _ {N P : ℕ → ℕ} {n : ℕ} {xs : List ℕ} (ring : Ring N P n xs) where
  -- what stands beside a place is within the bounds, if it is not none
  pub before_within : (k : ℕ) → k ≤ length xs → (before xs k ≡ none → ⊥) → before xs k < n
  before_within zero lk some = absurd (some refl)
  before_within (suc k) lk some = ring.within k lk

  pub nth_within : (k : ℕ) → (nth xs k ≡ none → ⊥) → nth xs k < n
  nth_within k some =
      ⊎_elim (λ lk. ring.within k lk) (λ past. absurd (some (get_or_past xs k none past))) (cases_lt k (length xs))

  -- what comes before none is the last
  pub last_is : P none ≡ before xs (length xs)
  last_is =
      sym (ap P (get_or_past xs (length xs) none (omega arith))) ∙ (ring.gaps (length xs) (omega arith)).back

  pub last_within : (P none ≡ none → ⊥) → P none < n
  last_within some = rw last_is (before_within (length xs) (omega arith) (λ e. some (last_is ∙ e)))

module _ {N P : ℕ → ℕ} {n : ℕ} {xs : List ℕ} (ring : Ring N P n xs) (small : n ≤ none) where
  -- what comes before the j-th and before the k-th is the same only if j is k
  pub same_place : (j k : ℕ) → j ≤ length xs → k ≤ length xs → before xs j ≡ before xs k → j ≡ k
  same_place zero zero lj lk e = refl
  same_place zero (suc k) lj lk e = absurd (omega (arith, ring.within k (omega arith)))
  same_place (suc j) zero lj lk e = absurd (omega (arith, ring.within j (omega arith)))
  same_place (suc j) (suc k) lj lk e =
      ap suc (same_place j k (omega arith) (omega arith)
      (sym (ring.gaps j (omega arith)).back ∙ ap P e ∙ (ring.gaps k (omega arith)).back))

  -- the j-th and the k-th are the same only if j is k
  pub same_nth : (j k : ℕ) → j ≤ length xs → k ≤ length xs → nth xs j ≡ nth xs k → j ≡ k
  same_nth j k lj lk e = same_place j k lj lk (sym (ring.gaps j lj).back ∙ ap P e ∙ (ring.gaps k lk).back)

  -- a number that is none of the list is none of those before a place, and none of those at one
  pub before_apart : (c : ℕ) → c < n → Apart c xs → (k : ℕ) → k ≤ length xs → before xs k ≡ c → ⊥
  before_apart c l a zero lk e = omega arith
  before_apart c l a (suc k) lk e = a k (omega arith) e

  pub nth_apart : (c : ℕ) → c < n → Apart c xs → (k : ℕ) → nth xs k ≡ c → ⊥
  nth_apart c l a k e =
      ⊎_elim (λ lk. a k lk e) (λ past. absurd (omega (arith, get_or_past xs k none past))) (cases_lt k (length xs))

  pub last_apart : {c : ℕ} → c < n → Apart c xs → P none ≡ c → ⊥
  last_apart {c} l a e = before_apart c l a (length xs) (omega arith) (sym (last_is ring) ∙ e)
