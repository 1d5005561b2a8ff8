-- Where a blossom is taken apart as `Opened` says, the rest of soundness holds too: S1, S2, S6, S7 of inner nodes, S8.
use mathlib.Core.Path.{◌≡◌, refl, ap, sym, subst, ◌∙◌}
use mathlib.Core.Logic.{◌≢◌, ◌⊎◌, inl, inr}
use mathlib.Core.List.{◌∷◌}
use Prim.Native.Nat.{ℕ, zero, suc}
use native.Mathlib.Omega.{arith}
use lib.Dec.{T, eqb, T_not}
use Rattle.lists.specs.Choice.{pick}
use Rattle.slot.specs.declared.state.State.{State}
use Rattle.slot.specs.declared.state.State.TheVariants as S
use Rattle.slot.specs.State.{is_outer, is_inner}
use Rattle.slot.specs.Number.{none}
use Rattle.slot.specs.Slot.{Link, Slot, empty_slot}
use Rattle.table.specs.Table.{Table, at}
use Rattle.table.specs.Nodes.{present, outer, inner}
use Rattle.rules.specs.Slots.{up, next}
use Rattle.rules.specs.Sound.{next_in_ring, far_end}
use Rattle.theorems_soundness.specs.Chain.{◌∈◌, Steps}
use Rattle.theorems_soundness.specs.FactsOfNodes.{Paired, Kind, free_node, virtual_node, paired_node, root_node, minus_node, plus_node}
use Rattle.theorems_soundness.specs.FactsOfBlossoms.{PresentBlossom, Ring, DefectInside, Touches}
use Rattle.theorems_soundness.specs.Facts.{Given, Names, Pointers, Rest}
use Rattle.theorems_soundness.proofs.Reflect.{same_or_not, test_case}
use Rattle.theorems_soundness.proofs.ReflectSlots.{outer-present, outer_not_inner, inner-present, stay_shrink}
use Rattle.theorems_soundness.proofs.Chains.{chain_frame}
use Rattle.theorems_soundness.proofs.Past.{present_some}
use Rattle.theorems_soundness.proofs.KindLaws.{far_end_paired, far_end_tree, far_end_inner}
use Rattle.theorems_soundness.proofs.RingLaws.{ring_first, inner-next}
use Rattle.theorems_soundness.specs.RuleFacts.{Whole, RightLink}
use Rattle.theorems_soundness.proofs.Renewing.{of_none}
use Rattle.theorems_soundness.proofs.ReadAs.{read_as, read_here, read_other}
use Rattle.theorems_soundness.proofs.Opened.{Opened}
use Rattle.theorems_soundness.proofs.OpenedPlaces.{Place, the_blossom, the_child, other_outer, is_attached, is_matched_lem, no_part, place_of, blossom_outer, blossom_some, attached_inner, matched_inner, top_in, bottom_in, outer_or_inner, not_blossom, inner_some, child_hangs, child_not_blossom, parent_outer_node, parent_not_blossom, outer_state, outer_child, outer_sibling, outer_link, outer_ring, still_outer, outer_parent, child_parent, not_below, two_paired, matched_outer}
use Rattle.theorems_soundness.proofs.OpenedLimbs.{limbs, top_parent, top_sibling, attached_outer}
use Rattle.theorems_soundness.proofs.OpenedCore.{blossom_sibling, opened_core}

-- a state of its own, none, or damage
neither_empty : (x : State) → x ≢ S.Damaged → ¬ T (is_outer x) → ¬ T (is_inner x) → x ≡ S.Empty
neither_empty S.Empty d o i = refl
neither_empty S.Inner d o i = absurd (i tt)
neither_empty S.Stay d o i = absurd (o tt)
neither_empty S.Grow d o i = absurd (o tt)
neither_empty S.Shrink d o i = absurd (o tt)
neither_empty S.Damaged d o i = absurd (d refl)

outer_not_damaged : (x : State) → T (is_outer x) → x ≢ S.Damaged
outer_not_damaged x o e = rw e at o

outer_not_empty : (x : State) → T (is_outer x) → x ≢ S.Empty
outer_not_empty x o e = rw e at o

module _ {t u : Table} {b : ℕ} (d : Opened t u b) where
  rest : Rest t
  rest = d.whole.rest

  -- ---- what is present, and what is inner

  present_still : (j : ℕ) → j ≢ b → T (present t j) → T (present u j)
  present_still j n p = go (place_of d j)
    where
      go : Place t b (d.top ∷ d.lower) d.matched j → T (present u j)
      go (the_blossom e) = absurd (n e)
      go (the_child e) = rw e (outer-present (at u (at t b).first_child).state (still_outer d (at t b).first_child (child_hangs d).0 (child_not_blossom d)))
      go (other_outer o m k) = outer-present (at u j).state (still_outer d j o m)
      go (is_attached m) = outer-present (at u j).state (attached_outer d j m)
      go (is_matched_lem m) = outer-present (at u j).state (matched_outer d j m)
      go (no_part h r) = rw (d.still j h r) p

  present_was : (j : ℕ) → T (present u j) → T (present t j) × (j ≢ b)
  present_was j p = go (place_of d j)
    where
      go : Place t b (d.top ∷ d.lower) d.matched j → T (present t j) × (j ≢ b)
      go (the_blossom e) = absurd (rw (e, d.emptied) at p)
      go (the_child e) = rw e (outer-present (at t (at t b).first_child).state (child_hangs d).0, child_not_blossom d)
      go (other_outer o m k) = (outer-present (at t j).state o, m)
      go (is_attached m) = let i = attached_inner d j m in (inner-present (at t j).state i.0, not_blossom d j i.0)
      go (is_matched_lem m) = let i = matched_inner d j m in (inner-present (at t j).state i.0, not_blossom d j i.0)
      go (no_part h r) = (rw (d.still j h r) at p, λ e. h (rw e (blossom_outer d)))

  -- an inner node of another ring is as it was, and there is no other inner node
  inner_still : (j : ℕ) → T (inner t j) → up t j ≢ b → at u j ≡ at t j
  inner_still j i n = d.still j (λ o. outer_or_inner d j o i) (λ r. n r.1)

  inner_was : (j : ℕ) → T (inner u j) → T (inner t j) × (at u j ≡ at t j) × (up t j ≢ b)
  inner_was j i = go (place_of d j)
    where
      go : Place t b (d.top ∷ d.lower) d.matched j → T (inner t j) × (at u j ≡ at t j) × (up t j ≢ b)
      go (the_blossom e) = absurd (rw (e, d.emptied) at i)
      go (the_child e) = absurd (outer_not_inner (at u (at t b).first_child).state (still_outer d (at t b).first_child (child_hangs d).0 (child_not_blossom d)) (rw e at i))
      go (other_outer o m k) = absurd (outer_not_inner (at u j).state (still_outer d j o m) i)
      go (is_attached m) = absurd (outer_not_inner (at u j).state (attached_outer d j m) i)
      go (is_matched_lem m) = absurd (outer_not_inner (at u j).state (matched_outer d j m) i)
      go (no_part h r) = let e = d.still j h r in let q : T (inner t j) = rw e at i in (q, e, λ z. r (q, z))

  -- every slot but the blossom's keeps its ring
  ring_still : (j : ℕ) → j ≢ b → (at u j).ring ≡ (at t j).ring
  ring_still j n = go (place_of d j)
    where
      go : Place t b (d.top ∷ d.lower) d.matched j → (at u j).ring ≡ (at t j).ring
      go (the_blossom e) = absurd (n e)
      go (the_child e) = rw e (outer_ring d (at t b).first_child (child_hangs d).0 (child_not_blossom d))
      go (other_outer o m k) = outer_ring d j o m
      go (is_attached m) = (limbs d j m).ring
      go (is_matched_lem m) = rw (d.twos j m).here
      go (no_part h r) = rw (d.still j h r)

  ring_not_blossom : (j : ℕ) → (at t j).ring ≢ b
  ring_not_blossom j e =
      let n : (at t j).ring ≢ none = λ z. blossom_some d (sym e ∙ z) in
      let r = rest.rings j (rest.ring_owner j n) in
      not_blossom d (at t j).ring ((r.exact (at t j).ring).0 (ring_first t j r)).0 e

  blossom_still : (n : ℕ) → n ≢ b → PresentBlossom t n → PresentBlossom u n
  blossom_still n m p = record { blossom = omega (arith, p.blossom, d.counts.begin); there = present_still n m p.there }

  -- ---- "inside": only what ends in the blossom is lost

  stuck : (k y : ℕ) → y ≢ b → Steps (inner t) (up t) k b y → ⊥
  stuck zero y n s = n (sym s)
  stuck (suc k) y n s = outer_or_inner d b (blossom_outer d) s.0

  steps_still : (k x y : ℕ) → y ≢ b → Steps (inner t) (up t) k x y → Steps (inner u) (up u) k x y
  steps_still zero x y n s = s
  steps_still (suc k) x y n s = go (same_or_not (up t x) b) (steps_still k (up t x) y n s.1)
    where
      go : (up t x ≡ b) ⊎ (up t x ≢ b) → Steps (inner u) (up u) k (up t x) y → Steps (inner u) (up u) (suc k) x y
      go (inl e) ih = absurd (stuck k y n (rw e at s.1))
      go (inr m) ih = let e = inner_still x s.0 m in (rw e s.0, rw (e, up) ih)

  inside_still : (x n : ℕ) → x ≢ b → DefectInside t x n → DefectInside u x n
  inside_still x n m i =
      record { defect = omega (arith, i.defect, d.counts.begin); inside = record { steps = i.inside.steps; climb = steps_still i.inside.steps n x m i.inside.climb } }

  -- ---- S2

  names_still : (n : ℕ) → n ≢ b → Names t n → Names u n
  names_still n m h s = present_still n m (h s)

  names_read : (n : ℕ) → Names t n → Names u (read_as b d.top n)
  names_read n h =
      elim (same_or_not n b) [
        | inl e ↦ subst (λ (y : ℕ). Names u y) (sym (ap (read_as b d.top) e ∙ read_here b d.top)) (λ _. outer-present (at u d.top).state (attached_outer d d.top (top_in d)))
        | inr m ↦ subst (λ (y : ℕ). Names u y) (sym (read_other b d.top n m)) (names_still n m h)
      ]

  names_none : (n : ℕ) → n ≡ none → Names u n
  names_none n e s = absurd (s e)

  empty_pointers : Pointers u empty_slot
  empty_pointers = record { parent = of_none; child = of_none; sibling = of_none; ring = of_none }

  -- the parent of an attached node: the blossom's parent, or another attached one
  attached_above : (x : ℕ) → x ∈ (d.top ∷ d.lower) → T (outer u (up u x)) × (up u x ≢ b)
  attached_above x m =
      elim (limbs d x m).place [
        | inl e ↦ let f : up u x ≡ up t b = ap (up u) e ∙ top_parent d in rw f (still_outer d (up t b) (parent_outer_node d) (parent_not_blossom d), parent_not_blossom d)
        | inr q ↦ (attached_outer d (up u x) q.0, not_blossom d (up u x) (attached_inner d (up u x) q.0).0)
      ]

  attached_sibling : (x : ℕ) → x ∈ (d.top ∷ d.lower) → Names u (next u x)
  attached_sibling x m =
      elim (limbs d x m).place [
        | inl e ↦ let f : next u x ≡ next t b = ap (next u) e ∙ top_sibling d in rw f (names_still (next t b) (blossom_sibling d) (rest.pointers b).sibling)
        | inr q ↦ names_none (next u x) q.2
      ]

  ring_names : (j : ℕ) → j ≢ b → Names u (at u j).ring
  ring_names j n = rw (ring_still j n) (names_still (at t j).ring (ring_not_blossom j) (rest.pointers j).ring)

  -- a slot that has no part is inner or empty
  idle : (j : ℕ) → ¬ T (outer t j) → T (inner t j) ⊎ (at t j ≡ empty_slot)
  idle j h = elim (test_case (inner t j)) [ inl i ↦ inl i | inr i ↦ inr (rest.bare j (neither_empty (at t j).state (rest.undamaged j) h (T_not (inner t j) i))) ]

  next_not_blossom : (j : ℕ) → T (inner t j) → next t j ≢ b
  next_not_blossom j i = not_blossom d (next t j) (inner-next t d.whole.full rest j i).0

  pointers_of : (j : ℕ) → Place t b (d.top ∷ d.lower) d.matched j → Pointers u (at u j)
  pointers_of j (the_blossom e) = rw (e, d.emptied) empty_pointers
  pointers_of j (the_child e) =
      let k = (at t b).first_child in
      let q = rest.pointers k in
      rw e (record {
        parent = rw (child_parent d) (λ _. outer-present (at u d.bottom).state (attached_outer d d.bottom (bottom_in d)));
        child = rw (outer_child d k (child_hangs d).0 (child_not_blossom d)) (names_read (at t k).first_child q.child);
        sibling = rw (outer_sibling d k (child_hangs d).0 (child_not_blossom d)) (names_read (next t k) q.sibling);
        ring = ring_names k (child_not_blossom d);
      })
  pointers_of j (other_outer o n m) =
      let q = rest.pointers j in
      record {
        parent = rw (outer_parent d j o n m) (names_still (up t j) (not_below d j o m) q.parent);
        child = rw (outer_child d j o n) (names_read (at t j).first_child q.child);
        sibling = rw (outer_sibling d j o n) (names_read (next t j) q.sibling);
        ring = ring_names j n;
      }
  pointers_of j (is_attached m) =
      record {
        parent = λ _. outer-present (at u (up u j)).state (attached_above j m).0;
        child = λ _. outer-present (at u (at u j).first_child).state (limbs d j m).child.0;
        sibling = attached_sibling j m;
        ring = ring_names j (not_blossom d j (attached_inner d j m).0);
      }
  pointers_of j (is_matched_lem m) =
      let p = two_paired d j m in
      record {
        parent = names_none (up u j) p.here.parentless;
        child = names_none (at u j).first_child p.here.childless;
        sibling = rw p.sibling (λ _. outer-present (at u (d.twos j m).peer).state (matched_outer d (d.twos j m).peer (d.twos j m).among));
        ring = ring_names j (not_blossom d j (matched_inner d j m).0);
      }
  pointers_of j (no_part h r) = elim (idle j h) [ inl i ↦ inside i | inr e ↦ rw (d.still j h r ∙ e) empty_pointers ]
    where
      inside : T (inner t j) → Pointers u (at u j)
      inside i =
          let q = rest.pointers j in
          rw (d.still j h r) (record {
            parent = names_still (up t j) (λ z. r (i, z)) q.parent;
            child = names_none (at t j).first_child (rest.inners j i).childless;
            sibling = names_still (next t j) (next_not_blossom j i) q.sibling;
            ring = names_still (at t j).ring (ring_not_blossom j) q.ring;
          })

  -- ---- S8

  -- the other end of an outer node's link, before and after
  far_end_still : (j : ℕ) → T (outer t j) → j ≢ b → j ≢ (at t b).first_child → (at t j).link.peer_touch ≢ none → (far_end u j ≡ far_end t j) × (far_end t j ≢ b)
  far_end_still j o n m s = go (d.whole.core.kind j o)
    where
      in_tree_lem : up t j ≢ none → (far_end u j ≡ far_end t j) × (far_end t j ≢ b)
      in_tree_lem z =
          let a = far_end_tree t j o z in
          let p = outer_parent d j o n m in
          (far_end_tree u j (still_outer d j o n) (λ y. z (sym p ∙ y)) ∙ p ∙ sym a, λ y. not_below d j o m (sym a ∙ y))

      go : Kind t j → (far_end u j ≡ far_end t j) × (far_end t j ≢ b)
      go (free_node f) = absurd (s (ap (λ (l : Link). l.peer_touch) f.unlinked))
      go (virtual_node v) = absurd (s v.no_peer_touch)
      go (paired_node p) =
          let a = far_end_paired t j (next t j) p in
          let nb : next t j ≢ b = λ z. stay_shrink (rw z at p.there.stays) d.minus.shrinks in
          (paired_end nb p ∙ sym a, λ y. nb (sym a ∙ y))
        where
          paired_end : next t j ≢ b → Paired t j (next t j) → far_end u j ≡ next t j
          paired_end nb p =
              let e : (at u j).state ≡ S.Stay = outer_state d j o n ∙ p.here.stays in
              let f : up u j ≡ none = outer_parent d j o n m ∙ p.here.parentless in
              let g : next u j ≡ next t j = outer_sibling d j o n ∙ read_other b d.top (next t j) nb in
              simp (e, f, g)
      go (root_node r) = absurd (s (ap (λ (l : Link). l.peer_touch) r.unlinked))
      go (minus_node q) = in_tree_lem (present_some t d.whole.full (up t j) (rw q.parent_grows tt))
      go (plus_node p) = in_tree_lem (present_some t d.whole.full (up t j) (rw p.parent_shrinks tt))

  -- where the link is as it was
  touches_still : (j : ℕ) → j ≢ b → (at u j).link ≡ (at t j).link → ((at t j).link.peer_touch ≢ none → DefectInside u (far_end u j) (at t j).link.peer_touch) → Touches u j
  touches_still j n e f =
      record { touch = rw e (λ s. inside_still j (at t j).link.touch n ((rest.touches j).touch s)); peer_touch = subst (λ (l : Link). l.peer_touch ≢ none → DefectInside u (far_end u j) l.peer_touch) (sym e) f }

  right_touches : (j far : ℕ) → j ≢ b → far ≢ b → far_end u j ≡ far → RightLink t j (at u j).link far → Touches u j
  right_touches j far n m e r =
      record { touch = λ _. inside_still j (at u j).link.touch n r.touch; peer_touch = λ _. rw e (inside_still far (at u j).link.peer_touch m r.peer_touch) }

  empty_touches : (j : ℕ) → at u j ≡ empty_slot → Touches u j
  empty_touches j e = record { touch = rw e of_none; peer_touch = λ s. absurd (s (rw e)) }

  touches_of : (j : ℕ) → Place t b (d.top ∷ d.lower) d.matched j → Touches u j
  touches_of j (the_blossom e) = empty_touches j (rw e d.emptied)
  touches_of j (the_child e) = rw e (touches_still k (child_not_blossom d) (outer_link d k (child_hangs d).0 (child_not_blossom d)) (λ _. rw far (inside_still d.bottom (at t k).link.peer_touch not_b d.child_touch)))
    where
      k : ℕ
      k = (at t b).first_child

      inner_bottom : T (inner t d.bottom)
      inner_bottom = (attached_inner d d.bottom (bottom_in d)).0

      not_b : d.bottom ≢ b
      not_b = not_blossom d d.bottom inner_bottom

      far : far_end u k ≡ d.bottom
      far = far_end_tree u k (still_outer d k (child_hangs d).0 (child_not_blossom d)) (λ z. inner_some d d.bottom inner_bottom (sym (child_parent d) ∙ z)) ∙ child_parent d
  touches_of j (other_outer o n m) =
      touches_still j n (outer_link d j o n) (λ s. let f = far_end_still j o n m s in rw f.0 (inside_still (far_end t j) (at t j).link.peer_touch f.1 ((rest.touches j).peer_touch s)))
  touches_of j (is_attached m) =
      let a = attached_above j m in
      right_touches j (up u j) (not_blossom d j (attached_inner d j m).0) a.1 (far_end_tree u j (attached_outer d j m) (present_some u d.full (up u j) (outer-present (at u (up u j)).state a.0))) (limbs d j m).right
  touches_of j (is_matched_lem m) =
      let r = d.twos j m in
      right_touches j r.peer (not_blossom d j (matched_inner d j m).0) (not_blossom d r.peer (matched_inner d r.peer r.among).0) (far_end_paired u j r.peer (two_paired d j m)) (rw r.here r.right)
  touches_of j (no_part h r) = elim (idle j h) [ inl i ↦ inside i | inr e ↦ empty_touches j (d.still j h r ∙ e) ]
    where
      inside : T (inner t j) → Touches u j
      inside i =
          let e = d.still j h r in
          let iu : T (inner u j) = rw e i in
          let f : far_end u j ≡ next t j = far_end_inner u j iu ∙ rw (next, e) in
          let a = far_end_inner t j i in
          touches_still j (not_blossom d j i) (rw e) (λ s. rw f (inside_still (next t j) (at t j).link.peer_touch (next_not_blossom j i) (rw a at ((rest.touches j).peer_touch s))))

  -- ---- S6

  ring_as_was : (n : ℕ) → n ≢ b → Ring t n → Ring u n
  ring_as_was n m r =
      record {
        list = r.list;
        chain = rw (ring_still n m) (chain_frame (next_in_ring t first) (next_in_ring u first) first r.list (λ j i. along j (same j i)) r.chain);
        closes = λ j i e. r.closes j i (sym (ap (λ (s : Slot). s.sibling) (same j i)) ∙ e);
        exact = λ j. (λ i. rw (same j i, up) ((r.exact j).0 i), λ p. let q = inner_was j p.0 in (r.exact j).1 (q.0, rw (up, q.1) at p.1));
        odd = r.odd;
        at_least_three = r.at_least_three;
      }
    where
      first : ℕ
      first = (at t n).ring

      same : (j : ℕ) → j ∈ r.list → at u j ≡ at t j
      same j i = let q = (r.exact j).0 i in inner_still j q.0 (λ e. m (sym q.1 ∙ e))

      along : (j : ℕ) → at u j ≡ at t j → next_in_ring t first j ≡ next_in_ring u first j
      along j e = ap (λ (s : Slot). pick (eqb s.sibling first) none s.sibling) (sym e)

  -- ---- S1, and all of them

  undamaged_of : (j : ℕ) → Place t b (d.top ∷ d.lower) d.matched j → (at u j).state ≢ S.Damaged
  undamaged_of j (the_blossom e) = rw (e, d.emptied) (λ z. let y : ◌≡◌ {A = ℕ} 0 1 = cc in omega arith)
  undamaged_of j (the_child e) = rw e (outer_not_damaged (at u (at t b).first_child).state (still_outer d (at t b).first_child (child_hangs d).0 (child_not_blossom d)))
  undamaged_of j (other_outer o n m) = outer_not_damaged (at u j).state (still_outer d j o n)
  undamaged_of j (is_attached m) = outer_not_damaged (at u j).state (attached_outer d j m)
  undamaged_of j (is_matched_lem m) = outer_not_damaged (at u j).state (matched_outer d j m)
  undamaged_of j (no_part h r) = rw (d.still j h r) (rest.undamaged j)

  bare_of : (j : ℕ) → Place t b (d.top ∷ d.lower) d.matched j → (at u j).state ≡ S.Empty → at u j ≡ empty_slot
  bare_of j (the_blossom e) z = rw e d.emptied
  bare_of j (the_child e) z = absurd (outer_not_empty (at u (at t b).first_child).state (still_outer d (at t b).first_child (child_hangs d).0 (child_not_blossom d)) (rw e at z))
  bare_of j (other_outer o n m) z = absurd (outer_not_empty (at u j).state (still_outer d j o n) z)
  bare_of j (is_attached m) z = absurd (outer_not_empty (at u j).state (attached_outer d j m) z)
  bare_of j (is_matched_lem m) z = absurd (outer_not_empty (at u j).state (matched_outer d j m) z)
  bare_of j (no_part h r) z = let e = d.still j h r in e ∙ rest.bare j (sym (ap (λ (s : Slot). s.state) e) ∙ z)

  given_still : (n : ℕ) → Given t n → Given u n
  given_still n (inl l) = inl (omega (arith, d.counts.defects))
  given_still n (inr g) = inr (omega (arith, g.0, d.counts.begin), omega (arith, g.1, d.counts.begin, d.counts.blossoms))

  owner_still : (n : ℕ) → (at u n).ring ≢ none → PresentBlossom u n
  owner_still n s =
      let m : n ≢ b = λ e. s (rw (e, d.emptied)) in
      blossom_still n m (rest.ring_owner n (λ z. s (ring_still n m ∙ z)))

  pub opened_rest : Rest u
  opened_rest =
      record {
        sizes =
            let z = rest.sizes in
            record {
              some_defect = omega (arith, z.some_defect, d.counts.begin);
              begin_fits = omega (arith, z.begin_fits, d.counts.begin);
              defects_fit = omega (arith, z.defects_fit, d.counts.begin, d.counts.defects);
              blossoms_fit = omega (arith, z.blossoms_fit, d.counts.begin, d.counts.blossoms);
            };
        undamaged = λ n. undamaged_of n (place_of d n);
        given = λ n p. given_still n (rest.given n (present_was n p).0);
        bare = λ n. bare_of n (place_of d n);
        ring_owner = owner_still;
        pointers = λ n. pointers_of n (place_of d n);
        rings = λ n p. let q = present_was n p.there in ring_as_was n q.1 (rest.rings n (record { blossom = omega (arith, p.blossom, d.counts.begin); there = q.0 }));
        inners =
            λ n i.
            let q = inner_was n i in
            let f = rest.inners n q.0 in
            let e = q.1 in
            record { linked = rw e f.linked; childless = rw e f.childless; parent = rw (e, up) (blossom_still (up t n) q.2 f.parent); larger = rw (e, up) f.larger };
        touches = λ n. touches_of n (place_of d n);
      }

  pub opened_whole : Whole u
  opened_whole = record { full = d.full; core = opened_core d; rest = opened_rest }
