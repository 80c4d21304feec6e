-- How often a cell should stand, as links come and keys are written.
use Rattle.std.proofs.Common.{◌≡◌, ℕ, ◌+◌, ◌*◌, ◌/◌, ◌%◌, ◌<◌, ◌≤◌, cond, not, ◌&&◌, eqb, ltb, List, length, get_or, set, sym, refl, ap, ◌∙◌, ⊎_elim, arith}
use Rattle.std.proofs.lemmas.List.{get_or-set_same, get_or-set_other, length-set}
use Rattle.std.proofs.lemmas.Bool.{cases_eq, cases_lt, eq-eqb, ne_eqb, lt-ltb, le-ltb}
use Rattle.keys.specs.declared.kinds.Direction.TheVariants.{Outgoing, Incoming}
use Rattle.keys.specs.Kinds.{opposite_of}
use Rattle.keys.specs.Order.{Laws}
use Rattle.rows.specs.HalfEdges.{side, twin}
use Rattle.model.specs.Keys.{Keys, eq}
use Rattle.model.specs.Lists.{bit}
use Rattle.model.proofs.Tests.{by_bool, same_eq}
use Rattle.model.proofs.Tallies.{bit_most}
use Rattle.halfedges.specs.Cells.{wrote, named, stands}
use Rattle.halfedges.proofs.Counts.{bit_is, bit_other}

-- an even cell is on the outgoing side, an odd one on the incoming side, and its twin on the other
pub side_even : (c : ℕ) → c % 2 ≡ 0 → side c ≡ Outgoing
side_even c e = ap (λ t. cond t Outgoing Incoming) (eq-eqb (c % 2) 0 e)

pub side_odd : (c : ℕ) → c % 2 ≡ 1 → side c ≡ Incoming
side_odd c e = ap (λ t. cond t Outgoing Incoming) (ne_eqb (c % 2) 0 (λ z. omega arith))

pub side_twin : (c : ℕ) → side (twin c) ≡ opposite_of (side c)
side_twin c =
    ⊎_elim
    (λ e. side_odd (twin c) (omega arith) ∙ sym (ap opposite_of (side_even c e)))
    (λ ne. side_even (twin c) (omega arith) ∙ sym (ap opposite_of (side_odd c (omega arith))))
    (cases_eq (c % 2) 0)

-- what is written at the cells of a link
module _ {N : Type 0} (d : N) (ks : List N) (p : ℕ) (a b : N) where
  pub length_wrote : length (wrote ks p a b) ≡ length ks
  length_wrote = length-set (set ks (2 * p) b) (2 * p + 1) a ∙ length-set ks (2 * p) b

  pub key_other : (c : ℕ) → (c / 2 ≡ p → ⊥) → get_or (wrote ks p a b) c d ≡ get_or ks c d
  key_other c ne = get_or-set_other (set ks (2 * p) b) (2 * p + 1) c a d (λ e. ne (omega arith)) ∙ get_or-set_other ks (2 * p) c b d (λ e. ne (omega arith))

  pub key_first : 2 * p + 1 < length ks → get_or (wrote ks p a b) (2 * p) d ≡ b
  key_first l = get_or-set_other (set ks (2 * p) b) (2 * p + 1) (2 * p) a d (λ e. omega arith) ∙ get_or-set_same ks (2 * p) b d (omega arith)

  pub key_second : 2 * p + 1 < length ks → get_or (wrote ks p a b) (2 * p + 1) d ≡ a
  key_second l = get_or-set_same (set ks (2 * p) b) (2 * p + 1) a d (omega (arith, length-set ks (2 * p) b))

module _ {N V : Type 0} (K : Keys N V) (d : N) where
  -- unless it is the second cell of a self-link
  abbrev lone : ℕ → V → V → ℕ
  lone c u v = bit (not (eqb (c % 2) 1 && eq K u v))

  pub stands_in : (ks : List N) (n c : ℕ) → c < 2 * n → stands K d ks n c ≡ lone c (named K d ks c) (named K d ks (twin c))
  stands_in ks n c l = ap (λ b. bit (b && not (eqb (c % 2) 1 && eq K (named K d ks c) (named K d ks (twin c))))) (lt-ltb c (2 * n) l)

  pub stands_out : (ks : List N) (n c : ℕ) → 2 * n ≤ c → stands K d ks n c ≡ 0
  stands_out ks n c l = ap (λ b. bit (b && not (eqb (c % 2) 1 && eq K (named K d ks c) (named K d ks (twin c))))) (le-ltb c (2 * n) l)

  pub stands_most : (ks : List N) (n c : ℕ) → stands K d ks n c ≤ 1
  stands_most ks n c = bit_most _

  pub stands_below : (ks : List N) (n c : ℕ) → 1 ≤ stands K d ks n c → c < 2 * n
  stands_below ks n c h = ⊎_elim (λ l. l) (λ l. absurd (let z = stands_out ks n c l in let no : ⊥ = omega arith in no)) (cases_lt c (2 * n))

  pub stands_even : (ks : List N) (n c : ℕ) → c < 2 * n → c % 2 ≡ 0 → stands K d ks n c ≡ 1
  stands_even ks n c l e = stands_in ks n c l ∙ ap (λ o. bit (not (o && eq K (named K d ks c) (named K d ks (twin c))))) (ne_eqb (c % 2) 1 (λ z. omega arith))

  pub stands_odd : (ks : List N) (n c : ℕ) → c < 2 * n → c % 2 ≡ 1 → stands K d ks n c ≡ bit (not (eq K (named K d ks c) (named K d ks (twin c))))
  stands_odd ks n c l e = stands_in ks n c l ∙ ap (λ o. bit (not (o && eq K (named K d ks c) (named K d ks (twin c))))) (eq-eqb (c % 2) 1 e)

  -- the second cell of a self-link stands nowhere
  pub stands_self : Laws K.order → (ks : List N) (n c : ℕ) → c % 2 ≡ 1 → named K d ks c ≡ named K d ks (twin c) → stands K d ks n c ≡ 0
  stands_self laws ks n c e q =
      ⊎_elim
      (λ l. stands_odd ks n c l e ∙ ap (λ t. bit (not t)) (same_eq K laws _ _ q))
      (λ l. stands_out ks n c l)
      (cases_lt c (2 * n))

  -- keys elsewhere do not count
  pub stands_keys : (ks ks' : List N) (n c : ℕ) → get_or ks' c d ≡ get_or ks c d → get_or ks' (twin c) d ≡ get_or ks (twin c) d → stands K d ks' n c ≡ stands K d ks n c
  stands_keys ks ks' n c e f = λ i. bit (ltb c (2 * n) && not (eqb (c % 2) 1 && eq K (K.value (e i)) (K.value (f i))))

  -- one link more or less counts for its own cells alone
  pub stands_fewer : (ks : List N) (n c : ℕ) → (c / 2 ≡ n → ⊥) → stands K d ks (n + 1) c ≡ stands K d ks n c
  stands_fewer ks n c ne =
      ⊎_elim
      (λ l. stands_in ks (n + 1) c (omega arith) ∙ sym (stands_in ks n c l))
      (λ l. stands_out ks (n + 1) c (let far : (n + 1) * 2 ≤ c = past l in omega arith) ∙ sym (stands_out ks n c l))
      (cases_lt c (2 * n))
    where
      past : 2 * n ≤ c → (n + 1) * 2 ≤ c
      past l = ⊎_elim (λ m. absurd (ne (omega arith))) (λ m. m) (cases_lt c ((n + 1) * 2))

  -- a new link, written at its cells
  module _ (ks : List N) (p : ℕ) (a b : N) (fits : 2 * p + 1 < length ks) where
    pub named_first : named K d (wrote ks p a b) (2 * p) ≡ K.value b
    named_first = ap K.value (key_first d ks p a b fits)

    pub named_second : named K d (wrote ks p a b) (2 * p + 1) ≡ K.value a
    named_second = ap K.value (key_second d ks p a b fits)

    pub owner_first : named K d (wrote ks p a b) (twin (2 * p)) ≡ K.value a
    owner_first = let e : twin (2 * p) ≡ 2 * p + 1 = omega arith in ap (named K d (wrote ks p a b)) e ∙ named_second

    pub owner_second : named K d (wrote ks p a b) (twin (2 * p + 1)) ≡ K.value b
    owner_second = let e : twin (2 * p + 1) ≡ 2 * p = omega arith in ap (named K d (wrote ks p a b)) e ∙ named_first

    -- its first cell stands, and its second one unless the ends are the same
    pub stands_more : (c : ℕ) → stands K d (wrote ks p a b) (p + 1) c ≡ stands K d ks p c + bit (eqb c (2 * p)) + cond (eq K (K.value a) (K.value b)) 0 (bit (eqb c (2 * p + 1)))
    stands_more c =
        ⊎_elim
        (λ h. ⊎_elim (λ e. at_first c e) (λ ne. at_second c (omega arith)) (cases_eq c (2 * p)))
        (λ h.
        let s = stands_keys ks (wrote ks p a b) (p + 1) c (key_other d ks p a b c h) (key_other d ks p a b (twin c) (λ e. h (omega arith))) ∙ stands_fewer ks p c h in
        let x = bit_other c (2 * p) (λ e. h (omega arith)) in
        let y = no_bit c (bit_other c (2 * p + 1) (λ e. h (omega arith))) in
        omega arith)
        (cases_eq (c / 2) p)
      where
        no_bit : (c : ℕ) → bit (eqb c (2 * p + 1)) ≡ 0 → cond (eq K (K.value a) (K.value b)) 0 (bit (eqb c (2 * p + 1))) ≡ 0
        no_bit c z = by_bool (eq K (K.value a) (K.value b)) (λ t. rw t refl) (λ f. rw f z)

        at_first : (c : ℕ) → c ≡ 2 * p → stands K d (wrote ks p a b) (p + 1) c ≡ stands K d ks p c + bit (eqb c (2 * p)) + cond (eq K (K.value a) (K.value b)) 0 (bit (eqb c (2 * p + 1)))
        at_first c e =
            let s = stands_even (wrote ks p a b) (p + 1) c (omega arith) (omega arith) in
            let z = stands_out ks p c (omega arith) in
            let x = bit_is c (2 * p) e in
            let y = no_bit c (bit_other c (2 * p + 1) (λ f. omega arith)) in
            omega arith

        at_second : (c : ℕ) → c ≡ 2 * p + 1 → stands K d (wrote ks p a b) (p + 1) c ≡ stands K d ks p c + bit (eqb c (2 * p)) + cond (eq K (K.value a) (K.value b)) 0 (bit (eqb c (2 * p + 1)))
        at_second c e =
            let s : stands K d (wrote ks p a b) (p + 1) c ≡ bit (not (eq K (K.value a) (K.value b))) =
            ap (stands K d (wrote ks p a b) (p + 1)) e
            ∙ stands_odd (wrote ks p a b) (p + 1) (2 * p + 1) (omega arith) (omega arith)
            ∙ (λ i. bit (not (eq K (named_second i) (owner_second i)))) in
            let z = stands_out ks p c (omega arith) in
            let x = bit_other c (2 * p) (λ f. omega arith) in
            let y : cond (eq K (K.value a) (K.value b)) 0 (bit (eqb c (2 * p + 1))) ≡ bit (not (eq K (K.value a) (K.value b))) =
            by_bool (eq K (K.value a) (K.value b)) (λ t. rw t refl) (λ f. rw f (bit_is c (2 * p + 1) e)) in
            omega arith
