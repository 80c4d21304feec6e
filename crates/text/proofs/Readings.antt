-- Digits that are read on from a value, which is kept from passing the limit. Assumes nothing.
use Rattle.std.proofs.Common.{◌≡◌, ℕ, ◌+◌, ◌-◌, ◌*◌, ◌^◌, ◌<◌, ◌≤◌, min, Bool, true, false, cond, ◌&&◌, eqb, ltb, List, [], ◌∷◌, length, get_or, drop, Ok, Err, Result, sym, refl, ap, ◌∙◌, inl, inr, arith}
use Rattle.std.specs.Result.{OkIff, MatchResult}
use Rattle.std.proofs.lemmas.List.{at_drop_more, at_drop_all}
use Rattle.std.proofs.lemmas.Bool.{cases_lt, lt-ltb, le-ltb, eqb-true, eqb-false, cond-true, cond-false, and_left}
use Rattle.text.specs.declared.numbers.NumberFault.{NumberFault}
use Rattle.text.specs.declared.numbers.NumberFault.TheVariants.{NotANumber, OverLimit}
use Rattle.text.specs.Numbers.{digit, digit_of, all_digits, read_on, limited, number_of}

-- what the word's number is, once its front is read as v and bs is left
abbrev pub reading : ℕ → List ℕ → Result ℕ NumberFault
reading v bs = cond (all_digits bs) (limited (read_on v bs)) (Err NotANumber)

read_on_ge : (v : ℕ) (bs : List ℕ) → v ≤ read_on v bs
read_on_ge v [] = omega arith
read_on_ge v (b ∷ bs) = omega (arith, read_on_ge (v * 10 + (b - 48)) bs)

pub limited_within : (n : ℕ) → n < 2 ^ 32 → limited n ≡ Ok n
limited_within n h = cond-true (ltb n (2 ^ 32)) (Ok n) (Err OverLimit) (lt-ltb n (2 ^ 32) h)

pub limited_over : (n : ℕ) → 2 ^ 32 ≤ n → limited n ≡ Err OverLimit
limited_over n h = cond-false (ltb n (2 ^ 32)) (Ok n) (Err OverLimit) (le-ltb n (2 ^ 32) h)

-- a conversion to 32 bits whose failure is told as a fault
pub limited_by : {E : Type 0} (n : ℕ) (r : Result ℕ E) (told : Result ℕ NumberFault) → OkIff r (n < 2 ^ 32) n → MatchResult r (λ k. told ≡ Ok k) (λ _. told ≡ Err OverLimit) → told ≡ limited n
limited_by n (Ok k) told h e = e ∙ ap (λ m. Ok m) h.1 ∙ sym (limited_within n h.0)
limited_by n (Err f) told h e = e ∙ sym (limited_over n (omega (arith, h)))

-- a value over the limit may be held at it
reading_capped : (v : ℕ) (bs : List ℕ) → reading (min v (2 ^ 32)) bs ≡ reading v bs
reading_capped v bs =
    elim (cases_lt v (2 ^ 32)) [
      | inl low ↦ ap (λ n. reading n bs) (omega arith)
      | inr high ↦
          let held : min v (2 ^ 32) ≡ 2 ^ 32 = omega arith in
          ap (λ n. cond (all_digits bs) n (Err NotANumber)) (ap (λ n. limited (read_on n bs)) held ∙ limited_over _ (read_on_ge (2 ^ 32) bs) ∙ sym (limited_over _ (omega (arith, read_on_ge v bs))))
    ]

reading_digit : (v b : ℕ) (bs : List ℕ) → digit b ≡ true → reading v (b ∷ bs) ≡ reading (v * 10 + (b - 48)) bs
reading_digit v b bs h =
    ap (λ t. cond (t && all_digits bs) (limited (read_on (v * 10 + (b - 48)) bs)) (Err NotANumber)) h

reading_other : (v b : ℕ) (bs : List ℕ) → digit b ≡ false → reading v (b ∷ bs) ≡ Err NotANumber
reading_other v b bs h = cond-false (digit b && all_digits bs) _ _ (and_left (digit b) (all_digits bs) h)

-- a test that gave a value came out true, and one that gave a fault came out false
passed_at_ok : (t : Bool) (v d : ℕ) → Ok d ≡ cond t (Ok v) (Err NotANumber) → (t ≡ true) × (d ≡ v)
passed_at_ok true v d e = (refl, cc)
passed_at_ok false v d e = let apart : ◌≡◌ {A = ℕ} 0 1 = cc in absurd (omega arith)

failed_at_err : (t : Bool) (v : ℕ) (f : NumberFault) → Err f ≡ cond t (Ok v) (Err NotANumber) → (t ≡ false) × (f ≡ NotANumber)
failed_at_err true v f e = let apart : ◌≡◌ {A = ℕ} 0 1 = cc in absurd (omega arith)
failed_at_err false v f e = (refl, cc)

pub number_of_empty : (word : List ℕ) → true ≡ eqb (length word) 0 → Err NotANumber ≡ number_of word
unfolding number_of
number_of_empty [] h = refl
number_of_empty (b ∷ bs) h = let no_byte : ⊥ = omega (arith, eqb-true (length (b ∷ bs)) 0 (sym h)) in absurd no_byte

pub number_of_reading : (word : List ℕ) → false ≡ eqb (length word) 0 → reading 0 word ≡ number_of word
unfolding number_of
number_of_reading [] h = absurd (eqb-false 0 0 (sym h) refl)
number_of_reading (b ∷ bs) h = refl

-- the first i bytes of the word are read as v
module _ (word : List ℕ) (v i : ℕ) (sofar : reading v (drop i word) ≡ number_of word) where
  pub reading_more : (d w : ℕ) → i < length word → Ok d ≡ digit_of (get_or word i 0) → w ≡ min (v * 10 + d) (2 ^ 32) → reading w (drop (i + 1) word) ≡ number_of word
  reading_more d w h e capped =
      let told = passed_at_ok (digit (get_or word i 0)) _ d e in
      let b = get_or word i 0 in
      let bs = drop (i + 1) word in
      ap (λ n. reading n bs) capped ∙ reading_capped (v * 10 + d) bs ∙ ap (λ n. reading (v * 10 + n) bs) told.1 ∙ sym (reading_digit v b bs told.0) ∙ sym (at_drop_more (reading v) word i 0 h) ∙ sofar

  pub reading_stops : (f : NumberFault) → i < length word → Err f ≡ digit_of (get_or word i 0) → Err f ≡ number_of word
  reading_stops f h e =
      let told = failed_at_err (digit (get_or word i 0)) _ f e in
      ap (λ g. Err g) told.1 ∙ sym (reading_other v (get_or word i 0) (drop (i + 1) word) told.0) ∙ sym (at_drop_more (reading v) word i 0 h) ∙ sofar

  pub reading_all : length word ≤ i → limited v ≡ number_of word
  reading_all h = sym (at_drop_all (reading v) word i h) ∙ sofar
