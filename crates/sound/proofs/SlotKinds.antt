-- What the tests of single slots say as facts: what an outer node is, what an inner node is, and S8.
use mathlib.Core.Path.{◌≡◌, refl, sym, ap, ◌∙◌}
use mathlib.Core.Logic.{◌≢◌, ◌⊎◌, inl, inr}
use mathlib.Core.Bool.{Bool, not, ◌&&◌}
use Prim.Native.Nat.{ℕ, ◌<◌}
use native.Mathlib.Omega.{arith}
use lib.Dec.{T, eqb, ltb}
use Rattle.lists.specs.Choice.{pick}
use Rattle.slot.specs.declared.state.State.{State}
use Rattle.slot.specs.declared.state.State.TheVariants as S
use Rattle.slot.specs.Number.{none}
use Rattle.slot.specs.Slot.{Link, Slot, empty_slot, no_link, mirror}
use Rattle.slot.specs.State.{is_present, is_outer}
use Rattle.table.specs.Table.{Table, at, Full}
use Rattle.table.specs.Nodes.{is_blossom, present, outer, inner}
use Rattle.rules.specs.Slots.{is_none, is_some, same_link, is_grow, is_shrink, up, next}
use Rattle.rules.specs.Sound.{◌⇒◌, far_end, is_defect_inside, s8}
use Rattle.theorems_soundness.specs.Facts.{Sizes}
use Rattle.theorems_soundness.specs.FactsOfNodes.{FullLink, Virtual, InPair, Paired, Kind, free_node, virtual_node, paired_node, root_node, minus_node, plus_node, OuterChild}
use Rattle.theorems_soundness.specs.FactsOfBlossoms.{PresentBlossom, InBlossom}
use Rattle.theorems_soundness.proofs.Reflect.{tests, test_case, and→, →and, or→, imp→, →imp, same_or_not, eqb_no}
use Rattle.theorems_soundness.proofs.ReflectSlots.{stay↔, grow↔, shrink↔, inner↔, not_present↔, same_link↔, grow_shrink}
use Rattle.theorems_soundness.proofs.Past.{present_some}
use Rattle.theorems_soundness.proofs.KindLaws.{far_end_paired, far_end_tree, far_end_inner}
use Rattle.sound_slots.specs.Links.{is_through, touches_hold, ring_placed, points_back, pair_holds}
use Rattle.sound_slots.specs.States.{inner_holds, stay_holds, grow_holds, shrink_holds}
use Rattle.sound.specs.OneSlot.{rule_of, slot_holds}

-- a slot that is given out and judged, or an empty one
module _ (t : Table) (full : Full t) (sizes : Sizes t) (held : ℕ → ℕ → Bool) (numbered : ℕ → Bool)
    (defect : (x n : ℕ) → T (held x n) → n < t.begin)
    (judged : (n : ℕ) → T (present t n) → T (slot_holds t held numbered n))
    (empty : (n : ℕ) → (at t n).state ≡ S.Empty → at t n ≡ empty_slot)
  where
    rule : (n : ℕ) (x : State) → (at t n).state ≡ x → T (is_present x) → T (rule_of x t held numbered n (at t n))
    unfolding slot_holds
    rule n x e p = rw (← e) (and→ (ring_placed t n (at t n).ring) _ (judged n (rw e p))).1

    -- a touch that is a defect is not none
    some_touch : (n x : ℕ) → T (held x n) → n ≢ none
    some_touch n x h = let l = defect x n h in let b = sizes.begin_fits in λ e. omega (arith, l, b, e)

    full_link : (n far : ℕ) (l : Link) → T (is_through l) → T (touches_hold held n far l) → FullLink l
    unfolding touches_hold
    full_link n far l h k =
        let r = simp tests at h in
        let q = and→ (held n l.touch) (held far l.peer_touch) k in
        record { has_touch = some_touch l.touch n q.0; has_through = r.0; has_peer_touch = some_touch l.peer_touch far q.1; has_peer_through = r.1 }

    -- ---- Stay

    module _ (n : ℕ) (e : (at t n).state ≡ S.Stay) where
      stay_parts : T (is_through (at t n).link && is_none (up t n) && is_none (at t n).first_child)
          × T (pick (is_none (next t n)) (is_none (at t n).link.peer_touch && held n (at t n).link.touch) (pair_holds t n (at t n) && touches_hold held n (next t n) (at t n).link))
      unfolding stay_holds
      stay_parts = and→ (is_through (at t n).link && is_none (up t n) && is_none (at t n).first_child) _ (rule n S.Stay e tt)

      stay_virtual : next t n ≡ none → Virtual (at t n)
      stay_virtual f =
          let r = simp tests at stay_parts.0 in
          let h : T (is_none (at t n).link.peer_touch && held n (at t n).link.touch) = rw f at stay_parts.1 in
          let q = and→ (is_none (at t n).link.peer_touch) (held n (at t n).link.touch) h in
          record {
            stays = e;
            parentless = r.0.1;
            childless = r.1;
            siblingless = f;
            has_touch = some_touch (at t n).link.touch n q.1;
            has_through = r.0.0.0;
            no_peer_touch = simp tests at q.0;
            has_peer_through = r.0.0.1;
          }

      -- one of a pair, as it stands by itself
      stay_pair : next t n ≢ none → InPair (at t n) × T (pair_holds t n (at t n))
      stay_pair d =
          let g = and→ (is_through (at t n).link && is_none (up t n)) (is_none (at t n).first_child) stay_parts.0 in
          let k = and→ (is_through (at t n).link) (is_none (up t n)) g.0 in
          let h : T (pair_holds t n (at t n) && touches_hold held n (next t n) (at t n).link) = rw (eqb_no (next t n) none d) at stay_parts.1 in
          let q = and→ (pair_holds t n (at t n)) (touches_hold held n (next t n) (at t n).link) h in (
            record {
              stays = e;
              parentless = simp tests at k.1;
              childless = simp tests at g.1;
              linked = full_link n (next t n) (at t n).link k.0 q.1;
            },
            q.0,
          )

    -- what a pair's test says of its peer
    points→ : (n peer : ℕ) → T (points_back t n peer) → ((at t peer).state ≡ S.Stay) × (next t peer ≡ n)
    unfolding points_back
    points→ n peer h = let r = simp (tests, stay↔) at h in (r.0, r.1)

    abbrev SmallerOrMirrored : ℕ → ℕ → Type 0
    SmallerOrMirrored n peer = (peer < n) ⊎ ((peer ≢ n) × ((at t peer).link ≡ mirror (at t n).link))

    pair→ : (n : ℕ) → T (pair_holds t n (at t n)) → T (points_back t n (next t n)) × SmallerOrMirrored n (next t n)
    unfolding pair_holds
    pair→ n h =
        let q = and→ (points_back t n (next t n)) _ h in (
          q.0,
          elim (or→ (ltb (next t n) n) _ q.1) [
            | inl l ↦ inl (simp tests at l)
            | inr m ↦ let r = and→ (not (eqb (next t n) n)) (same_link (at t (next t n)).link (mirror (at t n).link)) m in inr (simp tests at r.0, (same_link↔ _ _).0 r.1)
          ],
        )

    stay_paired : (n : ℕ) → T (present t n) → (at t n).state ≡ S.Stay → next t n ≢ none → Paired t n (next t n)
    stay_paired n p e d =
        let peer : ℕ = next t n in
        let mine = stay_pair n e d in
        let q = pair→ n mine.1 in
        let b = points→ n peer q.0 in
        let some : next t peer ≢ none = λ z. present_some t full n p (sym b.1 ∙ z) in
        let other = stay_pair peer b.0 some in
        let r = pair→ peer other.1 in
        let back : SmallerOrMirrored peer n = rw b.1 at r.1 in
        let m : (peer ≢ n) × ((at t peer).link ≡ mirror (at t n).link) = mirrored n peer q.1 back in
        record { here = mine.0; sibling = refl; another = m.0; there = other.0; points_back = b.1; mirrored = m.1 }
      where
        mirrored : (n peer : ℕ) → SmallerOrMirrored n peer → SmallerOrMirrored peer n → (peer ≢ n) × ((at t peer).link ≡ mirror (at t n).link)
        mirrored n peer (inr h) k = h
        mirrored n peer (inl l) (inl m) = absurd (omega arith)
        mirrored n peer (inl l) (inr k) = (λ e. omega arith, sym (ap mirror k.1))

    -- ---- Grow and Shrink

    module _ (n : ℕ) where
      grow_kind : (at t n).state ≡ S.Grow → Kind t n
      unfolding grow_holds
      grow_kind e =
          let h = and→ (is_none (next t n)) _ (rule n S.Grow e tt) in
          let s : next t n ≡ none = simp tests at h.0 in
          elim (same_or_not (up t n) none) [
            | inl u ↦
                let k : T (same_link (at t n).link no_link) = rw u at h.1 in
                let l = (same_link↔ (at t n).link no_link).0 k in
                elim (same_or_not (at t n).first_child none) [
                  | inl c ↦ free_node (record { grows = e; parentless = u; childless = c; siblingless = s; unlinked = l })
                  | inr c ↦ root_node (record { grows = e; has_child = c; parentless = u; siblingless = s; unlinked = l })
                ]
            | inr u ↦
                let k : T ((is_through (at t n).link && is_shrink (at t (up t n)).state) && touches_hold held n (up t n) (at t n).link) = rw (eqb_no (up t n) none u) at h.1 in
                let q = and→ (is_through (at t n).link && is_shrink (at t (up t n)).state) _ k in
                let r = and→ (is_through (at t n).link) (is_shrink (at t (up t n)).state) q.0 in
                plus_node (record { grows = e; linked = full_link n (up t n) (at t n).link r.0 q.1; siblingless = s; parent_shrinks = (shrink↔ _).0 r.1 })
          ]

    minus_parts : (n : ℕ) → (at t n).state ≡ S.Shrink
        → T (is_through (at t n).link && is_grow (at t (up t n)).state && is_some (at t n).first_child) × T (touches_hold held n (up t n) (at t n).link)
    unfolding shrink_holds
    minus_parts n e = and→ (is_through (at t n).link && is_grow (at t (up t n)).state && is_some (at t n).first_child) _ (rule n S.Shrink e tt)

    minus_parent : (n : ℕ) → (at t n).state ≡ S.Shrink → (at t (up t n)).state ≡ S.Grow
    minus_parent n e =
        let b = and→ (is_through (at t n).link && is_grow (at t (up t n)).state) (is_some (at t n).first_child) (minus_parts n e).0 in
        (grow↔ _).0 (and→ (is_through (at t n).link) (is_grow (at t (up t n)).state) b.0).1

    grow_siblingless : (n : ℕ) → (at t n).state ≡ S.Grow → next t n ≡ none
    unfolding grow_holds
    grow_siblingless n e = let h = (and→ (is_none (next t n)) _ (rule n S.Grow e tt)).0 in simp tests at h

    stay_kind : (n : ℕ) → T (present t n) → (at t n).state ≡ S.Stay → Kind t n
    stay_kind n p e = elim (same_or_not (next t n) none) [ inl f ↦ virtual_node (stay_virtual n e f) | inr d ↦ paired_node (stay_paired n p e d) ]

    -- ---- what an outer node is, where a first child names its parent

    module _ (first : (n : ℕ) → T (outer t n) → (at t n).first_child ≢ none → OuterChild t n (at t n).first_child) where
      -- an outer node below a − node is Grow, so it has no sibling
      below_minus : (n c : ℕ) → (at t n).state ≡ S.Shrink → OuterChild t n c → next t c ≡ none
      below_minus n c e k = go (at t c).state refl k.0
        where
          go : (x : State) → (at t c).state ≡ x → T (is_outer x) → next t c ≡ none
          go S.Empty h o = absurd o
          go S.Inner h o = absurd o
          go S.Stay h o = let r = simp tests at (stay_parts c h).0 in absurd (present_some t full n (rw e tt) (sym k.1 ∙ r.0.1))
          go S.Grow h o = grow_siblingless c h
          go S.Shrink h o = absurd (grow_shrink (ap (λ (j : ℕ). (at t j).state) (sym k.1) ∙ minus_parent c h) e)
          go S.Damaged h o = absurd o

      shrink_kind : (n : ℕ) → (at t n).state ≡ S.Shrink → Kind t n
      shrink_kind n e =
          let h = minus_parts n e in
          let b = and→ (is_through (at t n).link && is_grow (at t (up t n)).state) (is_some (at t n).first_child) h.0 in
          let a = and→ (is_through (at t n).link) (is_grow (at t (up t n)).state) b.0 in
          let c : (at t n).first_child ≢ none = simp tests at b.1 in
          minus_node (record {
            shrinks = e;
            linked = full_link n (up t n) (at t n).link a.0 h.1;
            parent_grows = minus_parent n e;
            has_child = c;
            only_child = below_minus n (at t n).first_child e (first n (rw e tt) c);
          })

      pub kind : (n : ℕ) → T (outer t n) → Kind t n
      kind n o = go (at t n).state refl o
        where
          go : (x : State) → (at t n).state ≡ x → T (is_outer x) → Kind t n
          go S.Empty e o = absurd o
          go S.Inner e o = absurd o
          go S.Stay e o = stay_kind n (rw e tt) e
          go S.Grow e o = grow_kind n e
          go S.Shrink e o = shrink_kind n e
          go S.Damaged e o = absurd o

    -- ---- S1

    pub undamaged : (n : ℕ) → (at t n).state ≢ S.Damaged
    undamaged n e = absurd (rule n S.Damaged e tt)

    pub ring_owner : (n : ℕ) → (at t n).ring ≢ none → PresentBlossom t n
    unfolding slot_holds
    ring_owner n d =
        elim (test_case (present t n)) [
          | inl p ↦
              let h = imp→ (is_some (at t n).ring) (is_blossom t n) (and→ (ring_placed t n (at t n).ring) _ (judged n p)).0 (simp tests d) in
              record { blossom = simp tests at h; there = p }
          | inr h ↦ absurd (d (ap (λ (s : Slot). s.ring) (empty n ((not_present↔ (at t n).state).0 h))))
        ]

    -- ---- inner nodes

    inner_parts : (n : ℕ) → (at t n).state ≡ S.Inner
        → T (is_through (at t n).link && is_none (at t n).first_child && ltb n (up t n))
        × T (numbered n)
        × T (touches_hold held n (next t n) (at t n).link)
    unfolding inner_holds
    inner_parts n e =
        let q = and→ (is_through (at t n).link && is_none (at t n).first_child && ltb n (up t n)) _ (rule n S.Inner e tt) in
        let r = and→ (numbered n) (touches_hold held n (next t n) (at t n).link) q.1 in
        (q.0, r.0, r.1)

    pub inner_numbered : (n : ℕ) → T (inner t n) → T (numbered n)
    inner_numbered n i = (inner_parts n ((inner↔ _).0 i)).1

    pub inner_childless : (n : ℕ) → T (inner t n) → (at t n).first_child ≡ none
    inner_childless n i = let r = simp tests at (inner_parts n ((inner↔ _).0 i)).0 in r.0.1

    pub in_blossom : (n : ℕ) → T (inner t n) → PresentBlossom t (up t n) → InBlossom t n
    in_blossom n i b =
        let h = inner_parts n ((inner↔ _).0 i) in
        let r = simp tests at h.0 in
        record { linked = full_link n (next t n) (at t n).link (simp tests r.0.0) h.2; childless = r.0.1; parent = b; larger = r.1 }

    -- ---- S8

    -- what a slot's link stores, and where it leads
    data Linked (n : ℕ) : Type 0 where
      unlinked : (at t n).link ≡ no_link → Linked n
      virtually : T (held n (at t n).link.touch) → (at t n).link.peer_touch ≡ none → Linked n
      linked_to : (far : ℕ) → far_end t n ≡ far → T (touches_hold held n far (at t n).link) → Linked n

    stay_linked : (n : ℕ) → (at t n).state ≡ S.Stay → Linked n
    stay_linked n e =
        elim (same_or_not (next t n) none) [
          | inl f ↦
              let h : T (is_none (at t n).link.peer_touch && held n (at t n).link.touch) = rw f at (stay_parts n e).1 in
              let q = and→ (is_none (at t n).link.peer_touch) (held n (at t n).link.touch) h in
              virtually q.1 (simp tests at q.0)
          | inr d ↦
              let h : T (pair_holds t n (at t n) && touches_hold held n (next t n) (at t n).link) = rw (eqb_no (next t n) none d) at (stay_parts n e).1 in
              let q = and→ (pair_holds t n (at t n)) (touches_hold held n (next t n) (at t n).link) h in
              linked_to (next t n) (far_end_paired t n (next t n) (stay_paired n (rw e tt) e d)) q.1
        ]

    grow_linked : (n : ℕ) → (at t n).state ≡ S.Grow → Linked n
    unfolding grow_holds
    grow_linked n e =
        let h = and→ (is_none (next t n)) _ (rule n S.Grow e tt) in
        elim (same_or_not (up t n) none) [
          | inl u ↦ let k : T (same_link (at t n).link no_link) = rw u at h.1 in unlinked ((same_link↔ (at t n).link no_link).0 k)
          | inr u ↦
              let k : T ((is_through (at t n).link && is_shrink (at t (up t n)).state) && touches_hold held n (up t n) (at t n).link) = rw (eqb_no (up t n) none u) at h.1 in
              linked_to (up t n) (far_end_tree t n (rw e tt) u) (and→ (is_through (at t n).link && is_shrink (at t (up t n)).state) _ k).1
        ]

    shrink_linked : (n : ℕ) → (at t n).state ≡ S.Shrink → Linked n
    shrink_linked n e =
        let u : up t n ≢ none = present_some t full (up t n) (rw (minus_parent n e) tt) in
        linked_to (up t n) (far_end_tree t n (rw e tt) u) (minus_parts n e).1

    linked : (n : ℕ) → Linked n
    linked n = go (at t n).state refl
      where
        go : (x : State) → (at t n).state ≡ x → Linked n
        go S.Empty e = unlinked (ap (λ (s : Slot). s.link) (empty n e))
        go S.Inner e = linked_to (next t n) (far_end_inner t n ((inner↔ _).1 e)) (inner_parts n e).2
        go S.Stay e = stay_linked n e
        go S.Grow e = grow_linked n e
        go S.Shrink e = shrink_linked n e
        go S.Damaged e = absurd (undamaged n e)

    both_touches : (n far : ℕ) → T (touches_hold held n far (at t n).link) → T (held n (at t n).link.touch) × T (held far (at t n).link.peer_touch)
    unfolding touches_hold
    both_touches n far h = and→ (held n (at t n).link.touch) (held far (at t n).link.peer_touch) h

    -- what the test holds is inside
    module _ (inward : (x n : ℕ) → T (held x n) → T (is_defect_inside t x n)) (n : ℕ) where
      touch-and-peer :
          (T (is_some (at t n).link.touch) → T (is_defect_inside t n (at t n).link.touch))
          → (T (is_some (at t n).link.peer_touch) → T (is_defect_inside t (far_end t n) (at t n).link.peer_touch))
          → T (s8 t n)
      unfolding s8
      touch-and-peer f g =
          →and (is_some (at t n).link.touch ⇒ is_defect_inside t n (at t n).link.touch) (is_some (at t n).link.peer_touch ⇒ is_defect_inside t (far_end t n) (at t n).link.peer_touch)
          (→imp (is_some (at t n).link.touch) (is_defect_inside t n (at t n).link.touch) f)
          (→imp (is_some (at t n).link.peer_touch) (is_defect_inside t (far_end t n) (at t n).link.peer_touch) g)

      no_touches : (at t n).link ≡ no_link → T (s8 t n)
      unfolding s8
      no_touches e = rw e tt

      by_link : Linked n → T (s8 t n)
      by_link (unlinked e) = no_touches e
      by_link (virtually h e) = touch-and-peer (λ _. inward n (at t n).link.touch h) (λ k. let d : (at t n).link.peer_touch ≢ none = simp tests at k in absurd (d e))
      by_link (linked_to far e h) =
          touch-and-peer
          (λ _. inward n (at t n).link.touch (both_touches n far h).0)
          (λ _. rw e (inward far (at t n).link.peer_touch (both_touches n far h).1))

      pub touches : T (s8 t n)
      touches = by_link (linked n)
