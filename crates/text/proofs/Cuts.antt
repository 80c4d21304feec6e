-- A line that is cut at the ends of its first word. Assumes nothing.
use Rattle.std.proofs.Common.{◌≡◌, ℕ, ◌<◌, ◌≤◌, Bool, true, false, not, ltb, eqb, List, [], ◌∷◌, length, take, drop, Some, None, sym, refl, ap, ◌∙◌, inl, inr, arith}
use Rattle.std.specs.List.{prefix_len, position_or_len, position}
use Rattle.std.specs.Option.{unwrap_or}
use Rattle.std.proofs.lemmas.Bool.{cases_lt, eqb-true, eqb-false, cond-true, cond-false, lt-ltb, le-ltb}
use Rattle.std.proofs.lemmas.List.{drop_all, length-drop}
use Rattle.std.proofs.lemmas.List.Sums.{prefix_len-le-length}
use Rattle.text.specs.Words.{blank, solid, from_word, word_of, after_word, parts, split}

not_twice : (b : Bool) → b ≡ not (not b)
not_twice true = refl
not_twice false = refl

from_first : (line : List ℕ) → from_word line ≡ drop (position_or_len solid line) line
from_first line = ap (λ p. drop (prefix_len p line) line) (λ i b. not_twice (blank b) i)

module _ (p : ℕ → Bool) (xs : List ℕ) where
  position_low : position_or_len p xs < length xs → position p xs ≡ Some (position_or_len p xs)
  position_low low = cond-true (ltb (position_or_len p xs) (length xs)) _ _ (lt-ltb _ _ low)

  position_high : length xs ≤ position_or_len p xs → position p xs ≡ None
  position_high high = cond-false (ltb (position_or_len p xs) (length xs)) _ _ (le-ltb _ _ high)

  -- a search that finds, one that does not, and one that ends at the end
  found : (n : ℕ) → Some n ≡ position p xs → (n ≡ position_or_len p xs) × (n < length xs)
  found n e =
      elim (cases_lt (position_or_len p xs) (length xs)) [
        | inl low ↦ let is = position_low low in let same : n ≡ position_or_len p xs = cc in (same, omega arith)
        | inr high ↦ let is = position_high high in cc
      ]

  unfound : None ≡ position p xs → length xs ≤ position_or_len p xs
  unfound e =
      elim (cases_lt (position_or_len p xs) (length xs)) [
        | inl low ↦ let is = position_low low in cc
        | inr high ↦ high
      ]

  or_end : unwrap_or (position p xs) (length xs) ≡ position_or_len p xs
  or_end =
      elim (cases_lt (position_or_len p xs) (length xs)) [
        | inl low ↦ ap (λ o. unwrap_or o (length xs)) (position_low low)
        | inr high ↦ ap (λ o. unwrap_or o (length xs)) (position_high high) ∙ omega (arith, prefix_len-le-length (λ x. not (p x)) xs)
      ]

parts_some : (xs : List ℕ) → 0 < length xs → parts xs ≡ Some (word_of xs, after_word xs)
parts_some [] h = absurd (omega arith)
parts_some (b ∷ bs) h = refl

pub no_word : (line : List ℕ) → None ≡ position solid line → split line ≡ None
unfolding split
no_word line e = ap parts (from_first line ∙ drop_all _ _ (unfound solid line e))

pub one_word : (line xs : List ℕ) (start end : ℕ) → Some start ≡ position solid line → xs ≡ drop start line → end ≡ unwrap_or (position blank xs) (length xs) → split line ≡ Some (take end xs, drop end xs)
unfolding split
one_word line xs start end e cut h =
    let at = found solid line start e in
    let within : 0 < length xs = omega (arith, length-drop start line, ap length cut) in
    let stops : end ≡ prefix_len solid xs = h ∙ or_end blank xs in
    ap parts (from_first line ∙ ap (λ n. drop n line) (sym at.0) ∙ sym cut) ∙ parts_some xs within ∙ ap (λ n. Some (take n xs, drop n xs)) (sym stops)

-- the same where the front and the rest of the word are given
pub split_none : (line start : List ℕ) → start ≡ from_word line → true ≡ eqb (length start) 0 → None ≡ split line
unfolding split
split_none line [] e h = ap parts e
split_none line (b ∷ bs) e h = let no_byte : ⊥ = omega (arith, eqb-true (length (b ∷ bs)) 0 (sym h)) in absurd no_byte

pub split_some : (line start front back : List ℕ) (n : ℕ) → start ≡ from_word line → false ≡ eqb (length start) 0 → n ≡ prefix_len solid start → front ≡ take n start → back ≡ drop n start → Some (front, back) ≡ split line
unfolding split
split_some line [] front back n e h long p q = absurd (eqb-false 0 0 (sym h) refl)
split_some line (b ∷ bs) front back n e h long p q =
    let first : front ≡ take (prefix_len solid (b ∷ bs)) (b ∷ bs) = p ∙ ap (λ k. take k (b ∷ bs)) long in
    let rest : back ≡ drop (prefix_len solid (b ∷ bs)) (b ∷ bs) = q ∙ ap (λ k. drop k (b ∷ bs)) long in
    (λ i. Some (first i, rest i)) ∙ ap parts e
