-- A key type, by the value of each key and the order of values.
use Rattle.std.specs.Prelude.{Bool}
use Rattle.std.specs.declared.cmp.Ordering.{Ordering}
use Rattle.keys.specs.Order.{alike}

pub record Keys (N V : Type 0) : Type 0 where
  pub value : N → V
  pub order : V → V → Ordering

abbrev pub keys : {N V : Type 0} → (N → V) → (V → V → Ordering) → Keys N V
keys value order = record { value = value; order = order }

-- whether two values are equal, as a test
abbrev pub eq : {N V : Type 0} → Keys N V → V → V → Bool
eq K x y = alike K.order x y
