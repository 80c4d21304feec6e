-- What a table tells of an entry more where there is room, and of one less where there is such a place.
use Rattle.std.proofs.Common.{◌≡◌, ℕ, ◌+◌, ◌-◌, ◌<◌, List, [], ◌∷◌, ◌++◌, length, get_or, Some, None, Option, ap, ◌∙◌, arith}
use Rattle.std.proofs.lemmas.Bool.{cond-true, lt-ltb}
use Rattle.std.proofs.lemmas.Option.{slice_get-get_or}
use Rattle.lists.specs.Swap.{swap_removed}
use Rattle.table.specs.declared.table.Taken.{Taken}
use Rattle.table.specs.Tables.{appended, taken, taken_at}
use Rattle.adjacency.proofs.Entries.{some_of}

pub added : {A B : Type 0} (es : List (A × B)) {es' : List (A × B)} (room : ℕ) (e : A × B) {o : Option ℕ} → (o, es') ≡ appended room es e → length es < room → es' ≡ es ++ e ∷ []
added es room e h l = ap (λ z. z.1) (h ∙ cond-true _ _ _ (lt-ltb (length es) room l))

module _ {A B : Type 0} (es : List (A × B)) (i : ℕ) {es' : List (A × B)} (l : i < length es) where
  pub gone : {t : Taken A B} → (Some t, es') ≡ taken es i → (d : A × B) → (t.entry ≡ get_or es i d) × (t.last + 1 ≡ length es) × (t.gap ≡ i) × (es' ≡ swap_removed es i)
  gone {t} h d =
      let e = h ∙ ap (taken_at es i) (slice_get-get_or es i d l) in
      let f : Some t ≡ Some (record { entry = get_or es i d; last = length es - 1; gap = i }) = ap (λ z. z.0) e in
      let s : t ≡ record { entry = get_or es i d; last = length es - 1; gap = i } = cc in
      (ap (λ z. z.entry) s, omega (arith, l, ap (λ z. z.last) s), ap (λ z. z.gap) s, ap (λ z. z.1) e)

  pub not_gone : (None, es') ≡ taken es i → ⊥
  not_gone h =
      let d = some_of es i l in
      let e : ◌≡◌ {A = Option (Taken A B)} None (Some (record { entry = get_or es i d; last = length es - 1; gap = i })) = ap (λ z. z.0) (h ∙ ap (taken_at es i) (slice_get-get_or es i d l)) in
      let z : ◌≡◌ {A = ℕ} 0 1 = cc in omega arith
