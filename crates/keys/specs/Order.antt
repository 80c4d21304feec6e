-- How two values compare, and the laws that an order keeps.
use Rattle.std.specs.Prelude.{◌≡◌, Bool}
use Rattle.std.specs.declared.cmp.Ordering.TheVariants.{Less, Equal, Greater}
use Rattle.std.specs.declared.cmp.Ordering.{Ordering}
use Rattle.std.specs.Ordering.{is_eq}

-- equal exactly on equal values; before exactly when the exchanged call says after; before is transitive
pub record Laws {V : Type 0} (order : V → V → Ordering) : Type 0 where
  pub equal_same : (a b : V) → order a b ≡ Equal → a ≡ b
  pub same_equal : (a : V) → order a a ≡ Equal
  pub before_after : (a b : V) → order a b ≡ Less → order b a ≡ Greater
  pub after_before : (a b : V) → order a b ≡ Greater → order b a ≡ Less
  pub transitive : (a b c : V) → order a b ≡ Less → order b c ≡ Less → order a c ≡ Less

-- whether two values are equal, as a test
abbrev pub alike : {V : Type 0} → (V → V → Ordering) → V → V → Bool
alike order a b = is_eq (order a b)
