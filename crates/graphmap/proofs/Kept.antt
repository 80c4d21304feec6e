-- The parts of a map still fit after a link more, another weight, or a link less.
use Rattle.std.proofs.Common.{◌≡◌, ℕ, ◌+◌, ◌*◌, ◌<◌, List, [], ◌∷◌, ◌++◌, length, get_or, set, Ordering, sym, ap, ◌∙◌, subst, arith}
use Rattle.std.proofs.lemmas.List.{length_push, get_or_default}
use Rattle.lists.specs.Swap.{swap_removed}
use Rattle.lists.proofs.Swap.{length_swap_removed}
use Rattle.table.specs.Content.{Content, Apart}
use Rattle.table.specs.Searches.{Absent}
use Rattle.table.proofs.Apart.{apart_push, apart_set, apart_swap_removed}
use Rattle.model.specs.Keys.{Keys, keys}
use Rattle.model.specs.Maps.{edge_key}
use Rattle.model.proofs.Ends.{values}
use Rattle.halfedges.specs.Cells.{wrote, moved, stands, Whole}
use Rattle.halfedges.proofs.Moves.{keyed_moved}
use Rattle.halfedges.proofs.Stands.{length_wrote}
use Rattle.adjacency.specs.Stages.{NodeRows, rows_of, keys_of}
use Rattle.adjacency.proofs.Entries.{some_of}
use Rattle.graphmap.specs.Parts.{Parts, Sound}
use Rattle.graphmap.proofs.Keying.{keyed_more, keyed_as, reweighted_length, keyed_reweighted}

module _ {N V E : Type 0} {value : N → V} {order : V → V → Ordering} {m : Parts N E} (s : Sound value order m) where
  abbrev K : Keys N V
  K = keys value order

  abbrev ks : List N
  ks = keys_of m.rows

  abbrev ls : List ((N × N) × E)
  ls = m.links.entries

  pub sound_more : (a b : N) (w : E) (rows' : NodeRows N) (links' : Content (N × N) E)
      → 2 * length ls + 1 < length ks → Absent (values K) ls (edge_key K m.kind a b)
      → links'.entries ≡ ls ++ (edge_key K m.kind a b, w) ∷ [] → keys_of rows' ≡ wrote ks (length ls) a b
      → ((d : N) → Whole K d (keys_of rows') (length ls + 1) (rows_of rows'))
      → Sound value order (record { kind = m.kind; rows = rows'; links = links' })
  sound_more a b w rows' links' room off more keys' whole =
      let n = ap length more ∙ length_push ls (edge_key K m.kind a b, w) in
      let l = ap length keys' ∙ length_wrote a ks (length ls) a b in
      record {
        apart = subst (Apart (values K)) (sym more) (apart_push (values K) ls (edge_key K m.kind a b) w s.apart off);
        fits = omega (arith, n, l, room);
        whole = λ d x. whole d x ∙ ap (λ z. stands K d (keys_of rows') z x) (sym n);
        keyed = λ d. keyed_as K d m.kind _ _ _ _ keys' more (keyed_more K d m.kind ks ls a b w room (s.keyed d));
      }

  pub sound_reweighted : (i : ℕ) (w : E) (d₀ : (N × N) × E) (links' : Content (N × N) E) → i < length ls → links'.entries ≡ set ls i ((get_or ls i d₀).0, w)
      → Sound value order (record { kind = m.kind; rows = m.rows; links = links' })
  sound_reweighted i w d₀ links' li is =
      let n = reweighted_length K d₀.0.0 m.kind ks ls _ i w d₀ is li in
      record {
        apart = subst (Apart (values K)) (sym is) (apart_set (values K) ls i (get_or ls i d₀).0 w (λ d. ap (λ z. z.0) (get_or_default ls i d₀ d li)) s.apart);
        fits = omega (arith, n, s.fits);
        whole = λ d. subst (λ z. Whole K d ks z (rows_of m.rows)) (sym n) (s.whole d);
        keyed = λ d. keyed_reweighted K d m.kind ks ls _ i w d₀ is li (s.keyed d);
      }

  pub sound_less : (g l : ℕ) (rows' : NodeRows N) (links' : Content (N × N) E) → g < length ls → l + 1 ≡ length ls → links'.entries ≡ swap_removed ls g
      → ((d : N) → keys_of rows' ≡ moved ks d g l) → ((d : N) → Whole K d (keys_of rows') l (rows_of rows'))
      → Sound value order (record { kind = m.kind; rows = rows'; links = links' })
  sound_less g l rows' links' lg last less keys' whole =
      let n = ap length less ∙ length_swap_removed ls g in
      let d₀ = (some_of ls g lg).0.0 in
      let q = ap length (keys' d₀) ∙ length_wrote d₀ ks g (get_or ks (2 * l + 1) d₀) (get_or ks (2 * l) d₀) in
      let long : 2 * l + 1 < length ks = omega (arith, last, s.fits) in
      let rest : l ≡ length links'.entries = omega (arith, n, last) in
      record {
        apart = subst (Apart (values K)) (sym less) (apart_swap_removed (values K) ls g s.apart lg);
        fits = omega (arith, n, q, s.fits);
        whole = λ d x. whole d x ∙ ap (λ z. stands K d (keys_of rows') z x) rest;
        keyed = λ d. keyed_as K d m.kind _ _ _ _ (keys' d) less (keyed_moved K d m.kind ks g l ls last (omega (arith, last, lg)) long (s.keyed d));
      }
