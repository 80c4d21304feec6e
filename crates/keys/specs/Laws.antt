-- Numbers keep the laws of an order, and pairs do if both of their parts do.
use Rattle.std.specs.Prelude.{◌≡◌, ◌⊎◌, Bool, true, refl}
use Rattle.std.specs.declared.cmp.Ordering.TheVariants.{Less, Equal, Greater}
use Rattle.std.specs.declared.cmp.Ordering.{Ordering}
use Rattle.std.specs.Ordering.{is_eq, ordering_then}
use Rattle.std.proofs.Common.{◌∙◌, ap, inl, inr, arith}
use Rattle.std.proofs.lemmas.Bool.{false≢true}
use Rattle.std.proofs.lemmas.Bool.Decides.{nat_tests}
use Rattle.keys.specs.Order.{Laws, alike}
use Rattle.keys.specs.Nodes.{by_number, by_both}

pub number_laws : Laws by_number
number_laws = record {
  equal_same = λ a b h. grind (arith, nat_tests);
  same_equal = λ a. grind (arith, nat_tests);
  before_after = λ a b h. grind (arith, nat_tests);
  after_before = λ a b h. grind (arith, nat_tests);
  transitive = λ a b c h k. grind (arith, nat_tests);
}

-- the test of an order tells that it says same
pub equal_from : (o : Ordering) → is_eq o ≡ true → o ≡ Equal
equal_from Less e = absurd (false≢true e)
equal_from Equal e = refl
equal_from Greater e = absurd (false≢true e)

-- both parts are equal
equal_both : (x y : Ordering) → ordering_then x y ≡ Equal → (x ≡ Equal) × (y ≡ Equal)
equal_both Less y h = grind arith
equal_both Equal y h = (refl, h)
equal_both Greater y h = grind arith

-- the first part decides, or it is equal and the second does
less_one : (x y : Ordering) → ordering_then x y ≡ Less → (x ≡ Less) ⊎ ((x ≡ Equal) × (y ≡ Less))
less_one Less y h = inl refl
less_one Equal y h = inr (refl, h)
less_one Greater y h = grind arith

greater_one : (x y : Ordering) → ordering_then x y ≡ Greater → (x ≡ Greater) ⊎ ((x ≡ Equal) × (y ≡ Greater))
greater_one Less y h = grind arith
greater_one Equal y h = inr (refl, h)
greater_one Greater y h = inl refl

-- what is equal is equal when exchanged
equal_exchanged : {V : Type 0} (f : V → V → Ordering) → Laws f → (a b : V) → f a b ≡ Equal → f b a ≡ Equal
equal_exchanged f F a b h = let e = F.equal_same a b h in let s = F.same_equal a in cc

pub pair_laws : {V W : Type 0} (f : V → V → Ordering) (g : W → W → Ordering) → Laws f → Laws g → Laws (by_both f g)
pair_laws f g F G = record {
  equal_same = λ p q h.
      let s = equal_both (f p.0 q.0) (g p.1 q.1) h in
      ap (λ x. (x, p.1)) (F.equal_same p.0 q.0 s.0) ∙ ap (λ y. (q.0, y)) (G.equal_same p.1 q.1 s.1);
  same_equal = λ p. let e = F.same_equal p.0 in let d = G.same_equal p.1 in cc;
  before_after = λ p q h.
      elim (less_one (f p.0 q.0) (g p.1 q.1) h) [
        | inl b ↦ let e = F.before_after p.0 q.0 b in cc
        | inr t ↦ let e = equal_exchanged f F p.0 q.0 t.0 in let d = G.before_after p.1 q.1 t.1 in cc
      ];
  after_before = λ p q h.
      elim (greater_one (f p.0 q.0) (g p.1 q.1) h) [
        | inl b ↦ let e = F.after_before p.0 q.0 b in cc
        | inr t ↦ let e = equal_exchanged f F p.0 q.0 t.0 in let d = G.after_before p.1 q.1 t.1 in cc
      ];
  transitive = λ p q r h k.
      elim (less_one (f p.0 q.0) (g p.1 q.1) h) [
        | inl b ↦ elim (less_one (f q.0 r.0) (g q.1 r.1) k) [
          | inl b' ↦ let e = F.transitive p.0 q.0 r.0 b b' in cc
          | inr t' ↦ let e = F.equal_same q.0 r.0 t'.0 in cc
        ]
        | inr t ↦ let s = F.equal_same p.0 q.0 t.0 in elim (less_one (f q.0 r.0) (g q.1 r.1) k) [
          | inl b' ↦ cc
          | inr t' ↦ let d = G.transitive p.1 q.1 r.1 t.1 t'.1 in cc
        ]
      ];
}

-- pairs are compared by their values where their parts are
pub both_by : {p q r s : Ordering} → p ≡ r → q ≡ s → ordering_then p q ≡ ordering_then r s
both_by e d = cc

-- where `cmp` goes by the values of keys, `==` is the test for equal values
pub equal_alike : {K V : Type 0} (value : K → V) (order : V → V → Ordering) {cmp : K → K → Ordering} {eq : K → K → Bool}
    → ((a b : K) → cmp a b ≡ order (value a) (value b)) → ((a b : K) → eq a b ≡ is_eq (cmp a b))
    → (a b : K) → eq a b ≡ alike order (value a) (value b)
equal_alike value order compares matches a b = matches a b ∙ ap is_eq (compares a b)
