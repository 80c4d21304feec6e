-- The latest place of a mark, over a plain function of numbers: `h i` is the mark of place i.
use Rattle.std.specs.Prelude.{◌≡◌, ℕ, zero, suc, ◌<◌, cond, ◌==◌, ◌≢◌}

-- the largest place below n with the mark b, or `none`
abbrev pub latest : ℕ → (ℕ → ℕ) → ℕ → ℕ → ℕ
latest none h b zero = none
latest none h b (suc n) = cond (h n == b) n (latest none h b n)

-- v is the largest place below n with the mark b
pub record At (h : ℕ → ℕ) (b n v : ℕ) : Type 0 where
  pub below : v < n
  pub here : h v ≡ b
  pub past : (i : ℕ) → v < i → i < n → h i ≢ b
