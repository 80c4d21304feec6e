-- The answers of a search, by cases.
use Rattle.std.proofs.Common.{◌≡◌, ℕ, Some, None, Ok, Err, Option, Result, refl}
use Rattle.table.specs.declared.table.Vacancy.{Vacancy}

-- an answer that is no place is a vacancy
pub err_case : {P : Type 0} (r : Result ℕ Vacancy) → ((i : ℕ) → r ≡ Ok i → ⊥) → ((w : Vacancy) → r ≡ Err w → P) → P
err_case (Ok i) f g = absurd (f i refl)
err_case (Err w) f g = g w refl

pub none_case : {P : Type 0} (r : Option ℕ) → ((c : ℕ) → r ≡ Some c → ⊥) → (r ≡ None → P) → P
none_case (Some c) f g = absurd (f c refl)
none_case None f g = g refl
