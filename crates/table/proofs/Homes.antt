-- The bucket and the mark of a place follow from its key.
use Rattle.std.proofs.Common.{◌≡◌, ℕ, ◌*◌, ◌/◌, ◌%◌, ◌^◌, ◌<◌, List, [], ◌∷◌, map, length, get_or, sym, ap, ◌∙◌, mul_comm, mul-lt-mul_of_pos_right, arith}
use Rattle.std.proofs.lemmas.Nat.{div_below, mod_below}
use Rattle.std.proofs.lemmas.List.{get_or-map}
use Rattle.table.specs.Slots.{at}
use Rattle.table.specs.Index.{home, mark, homes, tags}

-- a part of the entry at place i, where k is its key
key_part : {K V : Type 0} (part : K → ℕ) (es : List (K × V)) (i : ℕ) (k : K) → i < length es
    → ((d : K × V) → k ≡ (get_or es i d).0) → at (map (λ e. part e.0) es) i ≡ part k
key_part part [] i k lt is = omega arith
key_part {K} {V} part (e ∷ es) i k lt is = get_or-map (λ (z : K × V). part z.0) (e ∷ es) i e 0 lt ∙ ap part (sym (is e))

pub home_at : {K V : Type 0} (hashed : K → ℕ) (cap : ℕ) (es : List (K × V)) (i : ℕ) (k : K) → i < length es
    → ((d : K × V) → k ≡ (get_or es i d).0) → at (homes hashed cap es) i ≡ home cap (hashed k)
home_at hashed cap es i k lt is = key_part (λ z. home cap (hashed z)) es i k lt is

pub tag_at : {K V : Type 0} (hashed : K → ℕ) (es : List (K × V)) (i : ℕ) (k : K) → i < length es
    → ((d : K × V) → k ≡ (get_or es i d).0) → at (tags hashed es) i ≡ mark (hashed k)
tag_at hashed es i k lt is = key_part (λ z. mark (hashed z)) es i k lt is

times : (a m n : ℕ) → a < n → 0 < m → a * m < m * n
times a m n lt pos = omega (arith, mul-lt-mul_of_pos_right lt pos, mul_comm m n)

-- a bucket is below twice the capacity
pub home_below : (cap hash : ℕ) → 0 < cap → home cap hash < 2 * cap
home_below cap hash pos =
    let half = hash / 2 ^ 32 % 2 ^ 32 in
    div_below (half * (2 * cap)) (2 ^ 32) (2 * cap) (omega arith)
    (times half (2 * cap) (2 ^ 32) (mod_below (hash / 2 ^ 32) (2 ^ 32) (omega arith)) (omega arith))
