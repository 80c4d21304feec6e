-- Keys that differ by value go on to differ.
use Rattle.std.proofs.Common.{◌≡◌, ℕ, ◌-◌, ◌<◌, List, [], ◌∷◌, ◌++◌, length, get_or, set, sym, ap, ◌∙◌, inl, inr, arith}
use Rattle.std.proofs.lemmas.List.{length_push, length-set, get_or_push, get_or_append_left, get_or-set_same, get_or-set_other}
use Rattle.std.proofs.lemmas.Bool.{cases_eq, cases_lt}
use Rattle.lists.specs.Swap.{swap_removed}
use Rattle.lists.proofs.Swap.{length_swap_removed, swap_removed_at, swap_removed_other}
use Rattle.table.specs.Searches.{Absent}
use Rattle.table.specs.Content.{Apart}

pub apart_push : {K V W : Type 0} (value : K → W) (es : List (K × V)) (k : K) (v : V) → Apart value es → Absent value es k
    → Apart value (es ++ (k, v) ∷ [])
apart_push {K} {V} value es k v A N i j d ij jl e =
    let n = length_push es (k, v) in
    let il : i < length es = omega (arith, n) in
    let ei = ap (λ (z : K × V). value z.0) (get_or_append_left es ((k, v) ∷ []) d i il) in
    elim (cases_lt j (length es)) [
      | inl jb ↦
          A i j d ij jb (sym ei ∙ (e ∙ ap (λ (z : K × V). value z.0) (get_or_append_left es ((k, v) ∷ []) d j jb)))
      | inr jg ↦
          N i d il
          (sym ei ∙ (e ∙ ap (λ (z : K × V). value z.0) (get_or_push es (k, v) d j (omega (arith, n)))))
    ]

pub apart_swap_removed : {K V W : Type 0} (value : K → W) (es : List (K × V)) (g : ℕ) → Apart value es → g < length es
    → Apart value (swap_removed es g)
apart_swap_removed {K} {V} value es g A lt i j d ij jl e =
    let n = length_swap_removed es g in
    let last = length es - 1 in
    let val : K × V → _ = λ z. value z.0 in
    elim (cases_eq j g) [
      | inl q ↦
          A i last d (omega (arith, n)) (omega arith)
          (sym (ap val (swap_removed_other es g i d (omega (arith, n)) (omega arith)))
          ∙ (e ∙ (ap (λ m. val (get_or (swap_removed es g) m d)) q ∙ ap val (swap_removed_at es g d (omega (arith, n))))))
      | inr nj ↦
          let ej = ap val (swap_removed_other es g j d (omega (arith, n)) nj) in
          elim (cases_eq i g) [
            | inl q ↦
                A j last d (omega (arith, n)) (omega arith)
                (sym ej
                ∙ (sym e ∙ (ap (λ m. val (get_or (swap_removed es g) m d)) q ∙ ap val (swap_removed_at es g d (omega (arith, n))))))
            | inr ni ↦
                A i j d ij (omega (arith, n))
                (sym (ap val (swap_removed_other es g i d (omega (arith, n)) ni)) ∙ (e ∙ ej))
          ]
    ]

-- another value under the same key at place i
pub apart_set : {K V W : Type 0} (value : K → W) (es : List (K × V)) (i : ℕ) (k : K) (v : V)
    → ((d : K × V) → k ≡ (get_or es i d).0) → Apart value es → Apart value (set es i (k, v))
apart_set {K} {V} value es i k v is A x y d xy yl e =
    let n = length-set es i (k, v) in
    let same : (z : ℕ) → z < length es → (get_or (set es i (k, v)) z d).0 ≡ (get_or es z d).0 =
    λ z zl.
    elim (cases_eq z i) [
      | inl q ↦
          ap (λ m. (get_or (set es i (k, v)) m d).0) q
          ∙ (ap (λ (m : K × V). m.0) (get_or-set_same es i (k, v) d (omega arith)) ∙ (is d ∙ ap (λ m. (get_or es m d).0) (sym q)))
      | inr ne ↦ ap (λ (m : K × V). m.0) (get_or-set_other es i z (k, v) d ne)
    ] in
    A x y d xy (omega arith) (sym (ap value (same x (omega arith))) ∙ (e ∙ ap value (same y (omega arith))))
