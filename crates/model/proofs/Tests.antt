-- Cases of a test, and the test for equal values.
use Rattle.std.proofs.Common.{◌≡◌, ℕ, Bool, true, false, sym, refl, subst, arith}
use Rattle.keys.specs.Order.{Laws}
use Rattle.keys.specs.Laws.{equal_from}
use Rattle.model.specs.Keys.{Keys, eq}

pub by_bool : {P : Type 0} (b : Bool) → (b ≡ true → P) → (b ≡ false → P) → P
by_bool true f g = f refl
by_bool false f g = g refl

module _ {N V : Type 0} (K : Keys N V) (laws : Laws K.order) where
  pub eq_itself : (x : V) → eq K x x ≡ true
  eq_itself x = rw (laws.same_equal x)

  pub eq_true : (x y : V) → eq K x y ≡ true → x ≡ y
  eq_true x y h = laws.equal_same x y (equal_from (K.order x y) h)

  pub same_eq : (x y : V) → x ≡ y → eq K x y ≡ true
  same_eq x y h = subst (λ z. eq K x z ≡ true) h (eq_itself x)

  pub other_eq : (x y : V) → (x ≡ y → ⊥) → eq K x y ≡ false
  other_eq x y h = by_bool (eq K x y) (λ t. absurd (h (eq_true x y t))) (λ f. f)

  pub eq_swap : (x y : V) → eq K x y ≡ eq K y x
  eq_swap x y = by_bool (eq K x y) (λ t. rw t (sym (same_eq y x (sym (eq_true x y t))))) (λ f. rw f (sym (other_eq y x (λ e. absurd (both f (same_eq x y (sym e)))))))
    where
      both : {b : Bool} → b ≡ false → b ≡ true → ⊥
      both p q = let z : ◌≡◌ {A = ℕ} 0 1 = cc in let no : ⊥ = omega arith in no
