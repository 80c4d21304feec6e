-- The marks of buckets, over plain functions: m b has the marks of bucket b, h i and t i the bucket and the mark of place i.
use Rattle.std.proofs.Common.{◌≡◌, ℕ, ◌+◌, ◌/◌, ◌%◌, ◌^◌, ◌<◌, sym, ap, ◌∙◌, inl, inr, one-mul, arith}
use native.Mathlib.Nat.{le-max_left, le-max_right, max-le}
use lib.Bits.{bit_or, or_step}
use Rattle.std.proofs.lemmas.Nat.{or_shr, shl-shr}
use Rattle.std.proofs.lemmas.Bool.{cases_eq}
use Rattle.table.specs.Index.{bit_of}

-- a bit of either is a bit of both joined
or_left : (x y : ℕ) → x % 2 ≡ 1 → bit_or x y % 2 ≡ 1
or_left x y e = omega (arith, or_step x y, le-max_left (x % 2) (y % 2), max-le {a = x % 2} {b = y % 2} {k = 1} (omega arith) (omega arith))

or_right : (x y : ℕ) → y % 2 ≡ 1 → bit_or x y % 2 ≡ 1
or_right x y e = omega (arith, or_step x y, le-max_right (x % 2) (y % 2), max-le {a = x % 2} {b = y % 2} {k = 1} (omega arith) (omega arith))

pub bit_kept : (marks other k : ℕ) → bit_of marks k ≡ 1 → bit_of (bit_or marks other) k ≡ 1
bit_kept marks other k e = ap (λ z. z % 2) (or_shr marks other k) ∙ or_left (marks / 2 ^ k) (other / 2 ^ k) e

pub bit_set : (marks k : ℕ) → bit_of (bit_or marks (2 ^ k)) k ≡ 1
bit_set marks k =
    ap (λ z. z % 2) (or_shr marks (2 ^ k) k) ∙ or_right (marks / 2 ^ k) (2 ^ k / 2 ^ k) (ap (λ z. z / 2 ^ k % 2) (sym (one-mul (2 ^ k))) ∙ ap (λ z. z % 2) (shl-shr 1 k))

-- one more place, whose bit is set at its bucket b
pub marks_pushed : (n b k : ℕ) (h t m h' t' m' : ℕ → ℕ) → ((i : ℕ) → i < n → bit_of (m (h i)) (t i) ≡ 1)
    → h' n ≡ b → t' n ≡ k → ((i : ℕ) → (i ≡ n → ⊥) → h' i ≡ h i) → ((i : ℕ) → (i ≡ n → ⊥) → t' i ≡ t i)
    → m' b ≡ bit_or (m b) (2 ^ k) → ((c : ℕ) → (c ≡ b → ⊥) → m' c ≡ m c)
    → (i : ℕ) → i < n + 1 → bit_of (m' (h' i)) (t' i) ≡ 1
marks_pushed n b k h t m h' t' m' M hn tn ho to mb mo i lt =
    elim (cases_eq i n) [
      | inl q ↦
          ap (λ z. bit_of (m' (h' z)) (t' z)) q
          ∙ (ap (λ z. bit_of (m' z) (t' n)) hn
          ∙ (ap (λ z. bit_of (m' b) z) tn ∙ (ap (λ z. bit_of z k) mb ∙ bit_set (m b) k)))
      | inr ne ↦
          ap (λ z. bit_of (m' z) (t' i)) (ho i ne)
          ∙ (ap (λ z. bit_of (m' (h i)) z) (to i ne)
          ∙ elim (cases_eq (h i) b) [
            | inl q ↦
                ap (λ z. bit_of (m' z) (t i)) q
                ∙ (ap (λ z. bit_of z (t i)) mb
                ∙ bit_kept (m b) (2 ^ k) (t i) (ap (λ z. bit_of (m z) (t i)) (sym q) ∙ M i (omega arith)))
            | inr nb ↦ ap (λ z. bit_of z (t i)) (mo (h i) nb) ∙ M i (omega arith)
          ])
    ]

-- the marks of a bucket that no place is in do not matter
pub marks_tidied : (n b : ℕ) (h t m m' : ℕ → ℕ) → ((i : ℕ) → i < n → bit_of (m (h i)) (t i) ≡ 1)
    → ((i : ℕ) → i < n → h i ≡ b → ⊥) → ((c : ℕ) → (c ≡ b → ⊥) → m' c ≡ m c)
    → (i : ℕ) → i < n → bit_of (m' (h i)) (t i) ≡ 1
marks_tidied n b h t m m' M out mo i lt = ap (λ z. bit_of z (t i)) (mo (h i) (out i lt)) ∙ M i lt
