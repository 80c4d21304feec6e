-- The orders of numbers, of pairs and of seats.
use Rattle.std.specs.Prelude.{ℕ}
use Rattle.std.specs.declared.cmp.Ordering.{Ordering}
use Rattle.std.specs.Ordering.{nat_cmp, ordering_then}

-- the smaller number is before the larger
abbrev pub by_number : ℕ → ℕ → Ordering
by_number = nat_cmp

-- pairs, by their first parts and then by their second parts
abbrev pub by_both : {V W : Type 0} → (V → V → Ordering) → (W → W → Ordering) → V × W → V × W → Ordering
by_both first second p q = ordering_then (first p.0 q.0) (second p.1 q.1)

-- seats, as (row, (section, number)): by row, then by section, then by number
abbrev pub by_seat : ℕ × (ℕ × ℕ) → ℕ × (ℕ × ℕ) → Ordering
by_seat = by_both by_number (by_both by_number by_number)
