-- A loop that counts the longest front whose bytes pass a test. Assumes nothing.
use Rattle.std.proofs.Common.{◌≡◌, ℕ, ◌+◌, ◌<◌, ◌≤◌, Bool, true, false, List, length, get_or, drop, arith}
use Rattle.std.specs.List.{prefix_len}
use Rattle.std.proofs.lemmas.List.Sums.{prefix_len-drop_yes, prefix_len-drop_no, prefix_len-drop_all}

-- the first i bytes pass, so the front is i bytes and the front of what is left
abbrev pub Counts : (ℕ → Bool) → List ℕ → ℕ → Type 0
Counts p xs i = prefix_len p xs ≡ i + prefix_len p (drop i xs)

module _ (p : ℕ → Bool) (xs : List ℕ) (i : ℕ) (counts : Counts p xs i) where
  pub counts_more : i < length xs → p (get_or xs i 0) ≡ true → Counts p xs (i + 1)
  counts_more h passes = omega (arith, prefix_len-drop_yes p xs i 0 h passes)

  pub counts_stops : i < length xs → p (get_or xs i 0) ≡ false → i ≡ prefix_len p xs
  counts_stops h fails = omega (arith, prefix_len-drop_no p xs i 0 h fails)

  pub counts_all : i ≤ length xs → length xs ≤ i → length xs ≡ prefix_len p xs
  counts_all within h = omega (arith, prefix_len-drop_all p xs i h)
