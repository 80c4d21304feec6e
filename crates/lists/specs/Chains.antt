-- Chains of places by bucket, each from its largest place down: `h i` is the bucket of place i,
-- `first b` the head of bucket b, `next i` the link of place i.
use Rattle.std.specs.Prelude.{◌≡◌, ℕ, ◌<◌, ◌≤◌, ◌≢◌}
use Rattle.lists.specs.Latest.{latest}

-- the heads of the first `buckets` buckets and the links of the first n places are the latest places
pub record Chains (none buckets n : ℕ) (h first next : ℕ → ℕ) : Type 0 where
  pub heads : (b : ℕ) → b < buckets → first b ≡ latest none h b n
  pub links : (i : ℕ) → i < n → h i < buckets → next i ≡ latest none h (h i) i

-- p is the smallest place past g in bucket b, or n
pub record Above (n : ℕ) (h : ℕ → ℕ) (b g p : ℕ) : Type 0 where
  pub past : g < p
  pub within : p ≤ n
  pub here : p < n → h p ≡ b
  pub between : (i : ℕ) → g < i → i < p → h i ≢ b

-- v is written at the holder p of bucket b: the head where p is n, else the link of p
pub record Put (n b p v : ℕ) (first next first' next' : ℕ → ℕ) : Type 0 where
  pub head : p ≡ n → first' b ≡ v
  pub link : p < n → next' p ≡ v
  pub heads : (c : ℕ) → (p ≡ n → c ≢ b) → first' c ≡ first c
  pub links : (i : ℕ) → (i ≢ p) → next' i ≡ next i

-- the chains of places whose buckets are those of h, but perhaps for place g, which may be in none
pub record ChainsBut (none buckets n g : ℕ) (h first next : ℕ → ℕ) : Type 0 where
  pub bucket : ℕ → ℕ
  pub agrees : (i : ℕ) → (i ≢ g) → bucket i ≡ h i
  pub chains : Chains none buckets n bucket first next
