-- A link is taken out of a map: what the searches for its ends and its entry tell, and the lists then.
use Rattle.std.proofs.Common.{◌≡◌, ℕ, ◌+◌, ◌*◌, ◌/◌, ◌<◌, ◌≤◌, min, true, List, [], length, get_or, Some, None, Option, Ordering, sym, ap, ◌∙◌, subst, ⊎_elim, arith}
use Rattle.std.proofs.lemmas.Bool.{cases_eq}
use Rattle.keys.specs.Order.{Laws}
use Rattle.keys.specs.declared.kinds.Direction.TheVariants.{Outgoing}
use Rattle.lists.specs.Positions.{position}
use Rattle.lists.specs.Swap.{swap_removed}
use Rattle.table.specs.Tables.{taken}
use Rattle.table.specs.declared.table.Taken.{Taken}
use Rattle.model.specs.Keys.{Keys, keys, eq}
use Rattle.model.specs.Maps.{canon, is_node, is_link, hits, parted}
use Rattle.model.specs.Calls.{remove_found, remove_edge}
use Rattle.model.proofs.Positions.{found_at, found_none, without_at}
use Rattle.rows.specs.Rings.{nth}
use Rattle.rows.specs.HalfEdges.{twin}
use Rattle.halfedges.specs.Cells.{count, noded, row_at, put_row, moved, Whole, Off}
use Rattle.halfedges.proofs.Counts.{count_holds}
use Rattle.halfedges.proofs.Told.{entry}
use Rattle.halfedges.proofs.Parting.{absent_outward, absent_inward, cell_place, parted_self, off_parted_self, twin_held, row_still, parted_both, off_parted_both}
use Rattle.halfedges.proofs.Stands.{length_wrote}
use Rattle.adjacency.specs.Stages.{NodeRows, rows_of, keys_of, Stage}
use Rattle.adjacency.specs.Looks.{Looked, PartedTwice}
use Rattle.adjacency.proofs.Entries.{some_of}
use Rattle.adjacency.proofs.Seating.{node_position}
use Rattle.graphmap.specs.Parts.{Parts, Sound, state_of}
use Rattle.graphmap.proofs.Kept.{sound_less}
use Rattle.graphmap.proofs.TableCalls.{gone, not_gone}
use Rattle.graphmap.proofs.Looking.{seat_of, looked_none, looked_some}

module _ {N V E : Type 0} {value : N → V} {order : V → V → Ordering} {m : Parts N E} (s : Sound value order m) (t : Stage value order m.rows) (laws : Laws order) (a b : N) where
  abbrev K : Keys N V
  K = keys value order

  abbrev ks : List N
  ks = keys_of m.rows

  abbrev ns : List (N × List ℕ)
  ns = rows_of m.rows

  abbrev ls : List ((N × N) × E)
  ls = m.links.entries

  abbrev place : N → Option ℕ
  place n = position (λ e. eq K (K.value e.0) (K.value n)) m.rows.nodes.entries

  abbrev link : Option ℕ
  link = position (is_link K (canon K m.kind (value a) (value b))) ls

  there : (n : N) (i : ℕ) → place n ≡ Some i → position (is_node K (value n)) (noded ks ns) ≡ Some i
  there n i e = node_position K (value n) ks m.rows.cells m.rows.nodes.entries ∙ e

  seat : (d : N) (v : V) (i : ℕ) → i < length ns → value (get_or ns i (d, [])).0 ≡ v → position (is_node K v) (noded ks ns) ≡ Some i
  seat d = seat_of K laws d ks m.rows t.apart

  -- without the link nothing is done
  pub nothing_done : link ≡ None → (None, state_of m) ≡ remove_edge K a b (state_of m)
  nothing_done h = sym (ap (λ f. remove_found K f a b (state_of m)) (found_none (is_link K (canon K m.kind (value a) (value b))) ls h))

  -- there is none where one of its ends is absent
  pub first_absent : place a ≡ None → (None, state_of m) ≡ remove_edge K a b (state_of m)
  first_absent off =
      nothing_done
      (absent_outward K laws a m.kind ks ls (s.keyed a) s.apart ns (t.owned a) (s.whole a) (seat a)
      (value a) (value b) (node_position K (value a) ks m.rows.cells m.rows.nodes.entries ∙ off))

  pub second_absent : {i : ℕ} → place a ≡ Some i → place b ≡ None → (None, state_of m) ≡ remove_edge K a b (state_of m)
  second_absent {i} is off =
      nothing_done
      (absent_inward K laws a m.kind ks ls (s.keyed a) s.apart ns (t.owned a) (s.whole a) (seat a)
      (value b) (value a)
      (λ x.
      let y : place b ≡ place a = ap (λ v. position (λ n. eq K (K.value n.0) v) m.rows.nodes.entries) x in
      let z : None ≡ Some i = sym off ∙ y ∙ is in
      let w : ◌≡◌ {A = ℕ} 0 1 = cc in let no : ⊥ = omega arith in no)
      (node_position K (value b) ks m.rows.cells m.rows.nodes.entries ∙ off))

  -- both ends are there
  module _ {i j : ℕ} (is : place a ≡ Some i) (js : place b ≡ Some j) where
    pub entry_absent : Looked K a m.kind ks ns i j (value a) (value b) None → (None, state_of m) ≡ remove_edge K a b (state_of m)
    entry_absent look =
        nothing_done
        (looked_none K laws a m.kind ks ls (s.keyed a) s.apart ns (t.owned a) (s.whole a) (seat a)
        (value a) (value b) i j (there a i is) (there b j js) look)

    -- and the cell of its entry
    module _ {c : ℕ} (look : (d : N) → Looked K d m.kind ks ns i j (value a) (value b) (Some c)) where
      is_some : (d : N) → (1 ≤ count c (row_at ns i d)) × (hits K m.kind (value b) Outgoing (entry d ks c) ≡ true)
      is_some d =
          looked_some K laws d m.kind ks ls (s.keyed d) s.apart ns (t.owned d) (s.whole d) (seat d)
          (value a) (value b) i j (there a i is) (there b j js) c (look d)

      pub entry_held : (d : N) → 1 ≤ count c (row_at ns i d)
      entry_held d = (is_some d).0

      pub entry_place : (c / 2 < length ls) × (link ≡ Some (c / 2))
      entry_place =
          cell_place K laws a m.kind ks ls (s.keyed a) s.apart ns (t.owned a) (s.whole a) (seat a)
          s.fits (value a) (value b) i j c (there a i is) (there b j js) (is_some a).0 (is_some a).1

      pub twin_there : (i ≡ j → ⊥) → (d : N) → 1 ≤ count (twin c) (row_at ns j d)
      twin_there ne d =
          let h = count_holds c (row_at ns i d) (is_some d).0 in
          twin_held K laws d m.kind ks ls (s.keyed d) s.apart ns (t.owned d) (s.whole d) (seat d)
          s.fits (value a) (value b) i j c (there a i is) (there b j js) (is_some d).0 (is_some d).1 h.0 h.1 h.2 ne

      -- so the links' table has it
      pub not_taken : {es' : List ((N × N) × E)} → (None, es') ≡ taken ls (c / 2) → ⊥
      not_taken e = not_gone ls (c / 2) entry_place.0 e

      -- the rows ns' and the keys ks' without the two cells
      module _ {ns' : List (N × List ℕ)} {ks' : List N} (keys' : ks' ≡ ks)
          (one : i ≡ j → (d : N) (l : ℕ) → l < length (row_at ns i d) → nth (row_at ns i d) l ≡ c → ns' ≡ put_row ns i d (swap_removed (row_at ns i d) l))
          (two : (i ≡ j → ⊥) → (d : N) (l : ℕ) → l < length (row_at ns i d) → nth (row_at ns i d) l ≡ c → PartedTwice d ns ns' i j c l) where
        severed : (d : N) → Off K d ks (c / 2) (length ls) ns' × (noded ks ns' ≡ parted K m.kind (value a) (value b) (noded ks ns))
        severed d =
            let P : List (N × List ℕ) → Type 0 = λ z. Off K d ks (c / 2) (length ls) z × (noded ks z ≡ parted K m.kind (value a) (value b) (noded ks ns)) in
            let h = count_holds c (row_at ns i d) (entry_held d) in
            ⊎_elim
            (λ x.
            subst P (sym (one x d h.0 h.1 h.2)) (
              off_parted_self K laws d m.kind ks ls (s.keyed d) s.apart ns (t.owned d) (s.whole d) (seat d)
                  s.fits (value a) (value b) i j c (there a i is) (there b j js) (is_some d).0 (is_some d).1 h.0 h.1 h.2 x,
              parted_self K laws d m.kind ks ls (s.keyed d) s.apart ns (t.owned d) (s.whole d) (seat d)
                  s.fits (value a) (value b) i j c (there a i is) (there b j js) (is_some d).0 (is_some d).1 h.0 h.1 h.2 x,
            ))
            (λ ne.
            let still =
            row_still K laws d m.kind ks ls (s.keyed d) s.apart ns (t.owned d) (s.whole d) (seat d)
            s.fits (value a) (value b) i j c (there a i is) (there b j js) (is_some d).0 (is_some d).1 h.0 h.1 h.2 ne in
            let q = count_holds (twin c) (row_at (put_row ns i d (swap_removed (row_at ns i d) h.0)) j d) (subst (λ z. 1 ≤ count (twin c) z) (sym still) (twin_there ne d)) in
            subst P (sym (two ne d h.0 h.1 h.2 q.0 q.1 q.2)) (
              off_parted_both K laws d m.kind ks ls (s.keyed d) s.apart ns (t.owned d) (s.whole d) (seat d)
                  s.fits (value a) (value b) i j c (there a i is) (there b j js) (is_some d).0 (is_some d).1 h.0 h.1 h.2 ne q.0 q.1 q.2,
              parted_both K laws d m.kind ks ls (s.keyed d) s.apart ns (t.owned d) (s.whole d) (seat d)
                  s.fits (value a) (value b) i j c (there a i is) (there b j js) (is_some d).0 (is_some d).1 h.0 h.1 h.2 ne q.0 q.1 q.2,
            ))
            (cases_eq i j)

        -- and the links es' without the link, x
        module _ {x : Taken (N × N) E} {es' : List ((N × N) × E)} (taken_is : (Some x, es') ≡ taken ls (c / 2)) where
          gone_is : (d : (N × N) × E) → (x.entry ≡ get_or ls (c / 2) d) × (x.last + 1 ≡ length ls) × (x.gap ≡ c / 2) × (es' ≡ swap_removed ls (c / 2))
          gone_is = gone ls (c / 2) entry_place.0 taken_is

          some_link : (N × N) × E
          some_link = some_of ls (c / 2) entry_place.0

          pub gap_off : (d : N) → Off K d ks' x.gap (x.last + 1) ns'
          gap_off d =
              let h = gone_is some_link in
              subst (λ z. Off K d z x.gap (x.last + 1) ns') (sym keys')
              (subst (λ z. Off K d ks z (x.last + 1) ns') (sym h.2) (subst (λ z. Off K d ks (c / 2) z ns') (sym h.1) (severed d).0))

          pub gap_below : x.gap ≤ x.last
          gap_below = let h = gone_is some_link in omega (arith, entry_place.0, h.1, h.2)

          pub last_within : 2 * x.last + 1 < length ks'
          last_within = let h = gone_is some_link in omega (arith, h.1, s.fits, ap length keys')

          -- the rows and the keys after the last link's cells have come to those of the link
          module _ (rows' : NodeRows N) (moved_is : (d : N) → keys_of rows' ≡ moved ks' d x.gap x.last) where
            pub sound_then : (room' : ℕ) → ((d : N) → Whole K d (keys_of rows') x.last (rows_of rows'))
                → Sound value order (record { kind = m.kind; rows = rows'; links = record { entries = es'; room = room' } })
            sound_then room' whole' =
                let h = gone_is some_link in
                sound_less s (c / 2) x.last rows' (record { entries = es'; room = room' }) entry_place.0 h.1 h.3
                (λ d. moved_is d ∙ (λ y. moved (keys' y) d (h.2 y) x.last)) whole'

            -- what is answered, and the lists
            pub link_removed : {room' : ℕ} → noded (keys_of rows') (rows_of rows') ≡ noded ks' ns' → rows'.nodes.room ≡ m.rows.nodes.room → room' ≡ m.links.room
                → (Some x.entry.1, state_of (record { kind = m.kind; rows = rows'; links = record { entries = es'; room = room' } })) ≡ remove_edge K a b (state_of m)
            link_removed told node_room link_room =
                let h = gone_is some_link in
                let rows = told ∙ ap (λ z. noded z ns') keys' ∙ (severed a).1 in
                let less = h.3 ∙ sym (without_at (is_link K (canon K m.kind (value a) (value b))) ls (c / 2) entry_place.1) in
                let memory = ap length (moved_is a) ∙ length_wrote a ks' x.gap (get_or ks' (2 * x.last + 1) a) (get_or ks' (2 * x.last) a) ∙ ap length keys' in
                (λ y. (Some (h.0 y).1, record { kind = m.kind; node_room = node_room y; link_room = min (link_room y) (memory y / 2); nodes = rows y; links = less y }))
                ∙ sym (ap (λ f. remove_found K f a b (state_of m)) (found_at (is_link K (canon K m.kind (value a) (value b))) ls (c / 2) some_link entry_place.1))
