-- A table on which a blossom is made: the other half of soundness (S1, S2, S6, S7 of inner nodes, S8), and so that it is sound.
use mathlib.Core.Path.{◌≡◌, refl, ap, sym, subst, ◌∙◌}
use mathlib.Core.Logic.{◌≢◌, ◌⊎◌, inl, inr}
use mathlib.Core.List.{List}
use Prim.Native.Nat.{ℕ}
use native.Mathlib.Omega.{arith}
use lib.Dec.{T, eqb}
use Rattle.lists.specs.Choice.{pick}
use Rattle.slot.specs.declared.state.State.{State}
use Rattle.slot.specs.declared.state.State.TheVariants as S
use Rattle.slot.specs.State.{is_present}
use Rattle.slot.specs.Number.{none}
use Rattle.slot.specs.Slot.{Slot}
use Rattle.table.specs.Table.{Table, at}
use Rattle.table.specs.Nodes.{present, outer, inner}
use Rattle.rules.specs.Slots.{with_parent, with_first_child, with_sibling, up, next}
use Rattle.rules.specs.Blossom.{enclosed, new_blossom}
use Rattle.rules.specs.Sound.{next_in_ring}
use Rattle.theorems_soundness.specs.Chain.{◌∈◌}
use Rattle.theorems_soundness.specs.FactsOfBlossoms.{PresentBlossom, Ring, InBlossom, Inside, DefectInside, Touches}
use Rattle.theorems_soundness.specs.Facts.{Sizes, Given, Pointers, Rest}
use Rattle.theorems_soundness.proofs.Reflect.{same_or_not, eqb_no}
use Rattle.theorems_soundness.proofs.ReflectSlots.{outer-present, outer_not_inner, inner-present}
use Rattle.theorems_soundness.proofs.Chains.{chain_frame, chain_start, chain_next}
use Rattle.theorems_soundness.proofs.Climbing.{steps-frame}
use Rattle.theorems_soundness.proofs.InsideLaws.{inside-join, inside_ring_node}
use Rattle.theorems_soundness.proofs.TouchLaws.{peer_touch_tree}
use Rattle.theorems_soundness.specs.RuleFacts.{Whole}
use Rattle.theorems_soundness.proofs.Renewing.{far_of}
use Rattle.theorems_soundness.proofs.MadeBlossom.{Made}
use Rattle.theorems_soundness.proofs.MadeSlots as At
use Rattle.theorems_soundness.proofs.MadeTree.{made_core}

module _ {t u : Table} {b m : ℕ} {ring moved : List ℕ} (w : Whole t) (d : Made t u b m ring moved) where
  abbrev Where : ℕ → Type 0
  Where j = At.Where w d j

  stands : (j : ℕ) → Where j
  stands j = At.stands w d j

  some_new : b ≢ none
  some_new = At.some_new w d

  -- ---- what is present

  still_present : (j : ℕ) → T (present t j) → T (present u j)
  still_present j h = go (stands j)
    where
      go : Where j → T (present u j)
      go (At.is_new e) = rw (e, d.new) tt
      go (At.is_above _ _ _ _ _ e) = rw e h
      go (At.in_ring i) = rw (d.ringed j i) tt
      go (At.is_moved i) = rw (d.adopted j i) h
      go (At.elsewhere _ _ _ e) = rw e h

  outer_still : (j : ℕ) → T (outer t j) → T (present u j)
  outer_still j o = still_present j (outer-present (at t j).state o)

  was_present : (j : ℕ) → j ≢ b → T (present u j) → T (present t j)
  was_present j nb h = go (stands j)
    where
      go : Where j → T (present t j)
      go (At.is_new e) = absurd (nb e)
      go (At.is_above _ _ o _ _ e) = outer-present (at t j).state o
      go (At.in_ring i) = outer-present (at t j).state (d.before.outers j i)
      go (At.is_moved i) = outer-present (at t j).state (At.moved-outer w d j i)
      go (At.elsewhere _ _ _ e) = rw e at h

  new_present : T (present u b)
  new_present = rw d.new tt

  same_rings : (j : ℕ) → j ≢ b → (at u j).ring ≡ (at t j).ring
  same_rings j nb = go (stands j)
    where
      go : Where j → (at u j).ring ≡ (at t j).ring
      go (At.is_new e) = absurd (nb e)
      go (At.is_above _ _ _ _ _ e) = rw e
      go (At.in_ring i) = rw (d.ringed j i)
      go (At.is_moved i) = rw (d.adopted j i)
      go (At.elsewhere _ _ _ e) = rw e

  -- an inner node is as it was
  pub inner-same : (j : ℕ) → T (inner t j) → at u j ≡ at t j
  inner-same j h = go (stands j)
    where
      not_outer : {A : Type 0} → T (outer t j) → A
      not_outer o = absurd (outer_not_inner (at t j).state o h)

      go : Where j → at u j ≡ at t j
      go (At.is_new e) = absurd (omega (arith, At.present_less w d j (inner-present (at t j).state h), e))
      go (At.is_above _ _ o _ _ e) = not_outer o
      go (At.in_ring i) = not_outer (d.before.outers j i)
      go (At.is_moved i) = not_outer (At.moved-outer w d j i)
      go (At.elsewhere _ _ _ e) = e

  -- .. and one that is inner now is in the ring or was inner
  inner_was : (j : ℕ) → T (inner u j) → (j ∈ ring) ⊎ (T (inner t j) × (at u j ≡ at t j))
  inner_was j h = go (stands j)
    where
      go : Where j → (j ∈ ring) ⊎ (T (inner t j) × (at u j ≡ at t j))
      go (At.is_new e) = absurd (rw (e, d.new) at h)
      go (At.is_above _ _ o _ _ e) = absurd (outer_not_inner (at t j).state o (rw e at h))
      go (At.in_ring i) = inl i
      go (At.is_moved i) = absurd (outer_not_inner (at t j).state (At.moved-outer w d j i) (rw (d.adopted j i) at h))
      go (At.elsewhere _ _ _ e) = inr (rw e at h, e)

  empty_was : (j : ℕ) → (at u j).state ≡ S.Empty → at u j ≡ at t j
  empty_was j h = go (stands j)
    where
      not_empty : {A : Type 0} (x : State) → T (is_present x) → x ≡ S.Empty → A
      not_empty x p e = absurd (rw e at p)

      go : Where j → at u j ≡ at t j
      go (At.is_new e) = not_empty (at u b).state new_present (rw e at h)
      go (At.is_above _ _ o _ _ e) = not_empty (at u j).state (outer_still j o) h
      go (At.in_ring i) = not_empty (at u j).state (outer_still j (d.before.outers j i)) h
      go (At.is_moved i) = not_empty (at u j).state (outer_still j (At.moved-outer w d j i)) h
      go (At.elsewhere _ _ _ e) = e

  undamaged : (j : ℕ) → (at u j).state ≢ S.Damaged
  undamaged j = go (stands j)
    where
      go : Where j → (at u j).state ≢ S.Damaged
      go (At.is_new e) = rw (e, d.new) (λ q. let z : ◌≡◌ {A = ℕ} 0 1 = cc in omega arith)
      go (At.is_above _ _ _ _ _ e) = rw e (w.rest.undamaged j)
      go (At.in_ring i) = rw (d.ringed j i) (λ q. let z : ◌≡◌ {A = ℕ} 0 1 = cc in omega arith)
      go (At.is_moved i) = rw (d.adopted j i) (w.rest.undamaged j)
      go (At.elsewhere _ _ _ e) = rw e (w.rest.undamaged j)

  given : (j : ℕ) → T (present u j) → Given u j
  given j p = elim (same_or_not j b) [ inl e ↦ inr (omega (arith, d.begin, d.slot), omega (arith, d.begin, d.slot, d.blossoms)) | inr nb ↦ go (w.rest.given j (was_present j nb p)) ]
    where
      go : Given t j → Given u j
      go (inl l) = inl (omega (arith, d.defects))
      go (inr g) = inr (omega (arith, g.0, d.begin), omega (arith, g.1, d.begin, d.blossoms))

  sizes : Sizes u
  sizes =
      let z = w.rest.sizes in
      record {
        some_defect = omega (arith, z.some_defect, d.begin);
        begin_fits = omega (arith, z.begin_fits, d.begin);
        defects_fit = omega (arith, z.defects_fit, d.begin, d.defects);
        blossoms_fit = omega (arith, d.begin, d.blossoms, d.slot, d.left);
      }

  -- ---- blossoms

  still_blossom : (j : ℕ) → PresentBlossom t j → PresentBlossom u j
  still_blossom j p = record { blossom = omega (arith, p.blossom, d.begin); there = still_present j p.there }

  new_blossom_lem : PresentBlossom u b
  new_blossom_lem = record { blossom = omega (arith, d.begin, d.slot); there = new_present }

  was_blossom : (j : ℕ) → j ≢ b → PresentBlossom u j → PresentBlossom t j
  was_blossom j nb p = record { blossom = omega (arith, p.blossom, d.begin); there = was_present j nb p.there }

  ring_new : Ring u b
  ring_new =
      record {
        list = ring;
        chain = rw d.new d.round;
        closes = λ j i. rw (d.ringed j i, next) (At.ring_some w d (d.after j) (d.goes_on j i));
        exact = λ j. (λ i. rw (d.ringed j i, up) (tt, refl), λ k. elim (inner_was j k.0) [ inl i ↦ i | inr h ↦ absurd (At.no_parent_new w d j (rw (h.1, up) at k.1)) ]);
        odd = d.odd;
        at_least_three = d.three;
      }

  ring_old : (c : ℕ) → c ≢ b → Ring t c → Ring u c
  ring_old c nb r =
      record {
        list = r.list;
        chain = rw (same_rings c nb) (chain_frame (next_in_ring t (at t c).ring) (next_in_ring u (at t c).ring) (at t c).ring r.list (λ j i. along j ((r.exact j).0 i).0) r.chain);
        closes = λ j i e. r.closes j i (sym (ap (λ (s : Slot). s.sibling) (inner-same j ((r.exact j).0 i).0)) ∙ e);
        exact = λ j. (λ i. let k = (r.exact j).0 i in rw (inner-same j k.0, up) k, λ k. was j k (inner_was j k.0));
        odd = r.odd;
        at_least_three = r.at_least_three;
      }
    where
      along : (j : ℕ) → T (inner t j) → next_in_ring t (at t c).ring j ≡ next_in_ring u (at t c).ring j
      along j i = ap (λ (s : Slot). pick (eqb s.sibling (at t c).ring) none s.sibling) (sym (inner-same j i))

      was : (j : ℕ) → T (inner u j) × (up u j ≡ c) → (j ∈ ring) ⊎ (T (inner t j) × (at u j ≡ at t j)) → j ∈ r.list
      was j k (inl i) = absurd (nb (sym (rw (d.ringed j i, up) at k.1)))
      was j k (inr h) = (r.exact j).1 (h.0, rw (h.1, up) at k.1)

  in_blossom : (j : ℕ) → T (inner u j) → InBlossom u j
  in_blossom j h = go (inner_was j h)
    where
      go : (j ∈ ring) ⊎ (T (inner t j) × (at u j ≡ at t j)) → InBlossom u j
      go (inl i) =
          record {
            linked = rw (d.ringed j i) (d.right j i).linked;
            childless = rw (d.ringed j i);
            parent = rw (d.ringed j i, up) new_blossom_lem;
            larger = rw (d.ringed j i, up) (At.outer_less w d j (d.before.outers j i));
          }
      go (inr q) =
          let f = w.rest.inners j q.0 in
          record { linked = rw q.1 f.linked; childless = rw q.1 f.childless; parent = rw (q.1, up) (still_blossom (up t j) f.parent); larger = rw (q.1, up) f.larger }

  -- ---- pointers

  pointers_still : (s : Slot) → Pointers t s → Pointers u s
  pointers_still s p =
      record {
        parent = λ h. still_present s.parent (p.parent h);
        child = λ h. still_present s.first_child (p.child h);
        sibling = λ h. still_present s.sibling (p.sibling h);
        ring = λ h. still_present s.ring (p.ring h);
      }

  moved-present : (j : ℕ) → j ∈ moved → T (present u j)
  moved-present j i = outer_still j (At.moved-outer w d j i)

  -- the next moved child
  moved-next : (j : ℕ) → j ∈ moved → d.after j ≢ none → d.after j ∈ moved
  moved-next j i h =
      let e : next u j ≡ d.after j = rw (d.adopted j i, next) in
      rw e at (chain_next (next u) d.first moved d.list j i (λ z. h (sym e ∙ z)))

  pointers : (j : ℕ) → Where j → Pointers u (at u j)
  pointers j (At.is_new e) =
      let p = pointers_still (at t m) (w.rest.pointers m) in
      rw (e, d.new) (record { parent = p.parent; child = λ h. moved-present d.first (chain_start (next u) d.first moved d.list h); sibling = p.sibling; ring = λ _. outer_still m (At.meeting-outer w d) })
  pointers j (At.is_above _ _ _ _ _ e) =
      let p = pointers_still (at t j) (w.rest.pointers j) in
      rw e (record { parent = p.parent; child = λ _. new_present; sibling = p.sibling; ring = p.ring })
  pointers j (At.in_ring i) =
      let p = pointers_still (at t j) (w.rest.pointers j) in
      rw (d.ringed j i) (record { parent = λ _. new_present; child = λ h. absurd (h refl); sibling = λ _. outer_still (d.after j) (d.before.outers (d.after j) (d.goes_on j i)); ring = p.ring })
  pointers j (At.is_moved i) =
      let p = pointers_still (at t j) (w.rest.pointers j) in
      rw (d.adopted j i) (record { parent = λ _. new_present; child = p.child; sibling = λ h. moved-present (d.after j) (moved-next j i h); ring = p.ring })
  pointers j (At.elsewhere _ _ _ e) = rw e (pointers_still (at t j) (w.rest.pointers j))

  -- ---- touches

  inside_still : (x n : ℕ) → Inside t x n → Inside u x n
  inside_still x n i =
      record { steps = i.steps; climb = steps-frame (inner t) (inner u) (up t) (up u) (λ j p. let e = inner-same j p in (rw e p, rw (e, up))) i.steps n x i.climb }

  defect_still : (x n : ℕ) → DefectInside t x n → DefectInside u x n
  defect_still x n h = record { defect = omega (arith, h.defect, d.begin); inside = inside_still x n h.inside }

  -- inside a ring node, and so inside the blossom
  defect_new : (x n : ℕ) → x ∈ ring → DefectInside t x n → DefectInside u b n
  defect_new x n i h =
      let r = defect_still x n h in
      record { defect = r.defect; inside = inside-join u b x n r.inside (inside_ring_node u b x (rw (d.ringed x i, up) (tt, refl))) }

  -- by what stands in the slot
  slot-touches :
      (n : ℕ) (s : Slot)
      → at u n ≡ s
      → (s.link.touch ≢ none → DefectInside u n s.link.touch)
      → (s.link.peer_touch ≢ none → DefectInside u (far_of s) s.link.peer_touch)
      → Touches u n
  slot-touches n s e p q =
      record { touch = rw e p; peer_touch = subst (λ (r : Slot). r.link.peer_touch ≢ none → DefectInside u (far_of r) r.link.peer_touch) (sym e) q }

  old_touch : (n : ℕ) → (at t n).link.touch ≢ none → DefectInside u n (at t n).link.touch
  old_touch n h = defect_still n (at t n).link.touch ((w.rest.touches n).touch h)

  old_peer : (n : ℕ) → (at t n).link.peer_touch ≢ none → DefectInside u (far_of (at t n)) (at t n).link.peer_touch
  old_peer n h = defect_still (far_of (at t n)) (at t n).link.peer_touch ((w.rest.touches n).peer_touch h)

  -- a moved child's parent was in the ring, and is the blossom now
  moved_peer : (j : ℕ) → j ∈ moved → (at t j).link.peer_touch ≢ none → DefectInside u b (at t j).link.peer_touch
  moved_peer j i h =
      let p = (d.exact j).0 i in
      defect_new (up t j) (at t j).link.peer_touch p.1 (peer_touch_tree t w.full w.rest j p.0 (At.ring_some w d (up t j) p.1) h)

  touches : (j : ℕ) → Where j → Touches u j
  touches j (At.is_new e) =
      rw e (slot-touches b (with_first_child d.first (new_blossom m (at t m))) d.new (λ h. defect_new m (at t m).link.touch d.before.meets ((w.rest.touches m).touch h))
      (λ h. rw d.before.grows at (old_peer m h)))
  touches j (At.is_above _ _ _ _ _ e) = slot-touches j (with_first_child b (at t j)) e (old_touch j) (old_peer j)
  touches j (At.in_ring i) =
      slot-touches j (enclosed b (d.after j) (d.links j) (at t j)) (d.ringed j i) (λ _. defect_still j (d.links j).touch (d.right j i).touch)
      (λ _. defect_still (d.after j) (d.links j).peer_touch (d.right j i).peer_touch)
  touches j (At.is_moved i) =
      let n = At.moved_minus w d j i in
      slot-touches j (with_sibling (d.after j) (with_parent b (at t j))) (d.adopted j i) (old_touch j) (λ h. rw (n.shrinks, eqb_no b none some_new) (moved_peer j i h))
  touches j (At.elsewhere _ _ _ e) = slot-touches j (at t j) e (old_touch j) (old_peer j)

  pub made_rest : Rest u
  made_rest =
      record {
        sizes = sizes;
        undamaged = undamaged;
        given = given;
        bare = λ j h. let e = empty_was j h in e ∙ w.rest.bare j (sym (ap (λ (s : Slot). s.state) e) ∙ h);
        ring_owner = λ j h. elim (same_or_not j b) [ inl e ↦ rw e new_blossom_lem | inr nb ↦ still_blossom j (w.rest.ring_owner j (λ z. h (same_rings j nb ∙ z))) ];
        pointers = λ j. pointers j (stands j);
        rings = λ j p. elim (same_or_not j b) [ inl e ↦ rw e ring_new | inr nb ↦ ring_old j nb (w.rest.rings j (was_blossom j nb p)) ];
        inners = in_blossom;
        touches = λ j. touches j (stands j);
      }

  pub made_whole : Whole u
  made_whole = record { full = d.full; core = made_core w d; rest = made_rest }
