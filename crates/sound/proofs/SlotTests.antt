-- On a sound table each slot passes the test of its state, and the slots that are not given out are vacant.
use mathlib.Core.Path.{◌≡◌, refl}
use mathlib.Core.Logic.{◌≢◌, inr}
use mathlib.Core.Bool.{Bool, not, ◌&&◌}
use Prim.Native.Nat.{ℕ}
use lib.Dec.{T, eqb, ltb}
use Rattle.slot.specs.declared.state.State.{State}
use Rattle.slot.specs.declared.state.State.TheVariants as S
use Rattle.slot.specs.Number.{none}
use Rattle.slot.specs.Slot.{Link, no_link, mirror}
use Rattle.slot.specs.State.{is_present}
use Rattle.table.specs.Table.{Table, at, Full}
use Rattle.table.specs.Nodes.{is_blossom, outer, inner}
use Rattle.rules.specs.Slots.{is_none, is_some, same_link, is_stay, is_grow, is_shrink, up, next}
use Rattle.rules.specs.declared.fault.Rule.TheVariants.{S8}
use Rattle.rules.specs.Sound.{◌⇒◌, far_end, is_defect_inside, is_bare, s8, sound}
use Rattle.theorems_soundness.specs.Facts.{Given, Core, Rest}
use Rattle.theorems_soundness.specs.FactsOfNodes.{FullLink, Virtual, Paired, Kind, free_node, virtual_node, paired_node, root_node, minus_node, plus_node}
use Rattle.theorems_soundness.proofs.Reflect.{tests, and→, →and, →or, imp→, →imp, eqb_no}
use Rattle.theorems_soundness.proofs.ReflectSlots.{stay↔, grow↔, shrink↔, same_link↔, grow_shrink, stay_shrink, stay_grow}
use Rattle.theorems_soundness.proofs.Past.{present_some}
use Rattle.theorems_soundness.proofs.KindLaws.{far_end_paired, far_end_tree, far_end_inner}
use Rattle.theorems_soundness.proofs.SoundParts.{sound→everywhere, sound→core, sound→rest}
use Rattle.sound_slots.specs.Links.{is_through, touches_hold, ring_placed, points_back, pair_holds}
use Rattle.sound_slots.specs.States.{inner_holds, stay_holds, grow_holds, shrink_holds}
use Rattle.sound.specs.OneSlot.{rule_of, slot_holds, is_vacant, vacant_of}

module _ (t : Table) (full : Full t) (h : T (sound t)) (held : ℕ → ℕ → Bool) (numbered : ℕ → Bool) (all_numbered : (n : ℕ) → T (inner t n) → T (numbered n)) (outward : (x n : ℕ) → T (is_defect_inside t x n) → T (held x n)) where
  core : Core t
  core = sound→core t full h

  rest : Rest t
  rest = sound→rest t full h

  through : (l : Link) → FullLink l → T (is_through l)
  through l f = simp tests (f.has_through, f.has_peer_through)

  -- ---- S8

  module _ (n : ℕ) where
    eighth : T (is_some (at t n).link.touch ⇒ is_defect_inside t n (at t n).link.touch) × T (is_some (at t n).link.peer_touch ⇒ is_defect_inside t (far_end t n) (at t n).link.peer_touch)
    unfolding s8
    eighth = and→ (is_some (at t n).link.touch ⇒ is_defect_inside t n (at t n).link.touch) _ (sound→everywhere t full h S8 n)

    touched : (at t n).link.touch ≢ none → T (held n (at t n).link.touch)
    touched d = outward n (at t n).link.touch (imp→ (is_some (at t n).link.touch) (is_defect_inside t n (at t n).link.touch) eighth.0 (simp tests d))

    touched_far : (at t n).link.peer_touch ≢ none → T (held (far_end t n) (at t n).link.peer_touch)
    touched_far d =
        outward (far_end t n) (at t n).link.peer_touch
        (imp→ (is_some (at t n).link.peer_touch) (is_defect_inside t (far_end t n) (at t n).link.peer_touch) eighth.1 (simp tests d))

    touching : (far : ℕ) → far_end t n ≡ far → FullLink (at t n).link → T (touches_hold held n far (at t n).link)
    unfolding touches_hold
    touching far e f =
        →and (held n (at t n).link.touch) (held far (at t n).link.peer_touch) (touched f.has_touch)
        (rw e at (touched_far f.has_peer_touch))

  -- ---- each state

  module _ (n : ℕ) where
    inner_test_lem : (at t n).state ≡ S.Inner → T (inner_holds held numbered n (at t n))
    unfolding inner_holds
    inner_test_lem e =
        let i : T (inner t n) = rw e tt in
        let b = rest.inners n i in
        →and (is_through (at t n).link && is_none (at t n).first_child && ltb n (up t n)) (numbered n && touches_hold held n (next t n) (at t n).link)
        (simp tests (((b.linked.has_through, b.linked.has_peer_through), b.childless), b.larger))
        (→and (numbered n) (touches_hold held n (next t n) (at t n).link) (all_numbered n i) (touching n (next t n) (far_end_inner t n i) b.linked))

    virtual_test : Virtual (at t n) → T (stay_holds t held n (at t n))
    unfolding stay_holds
    virtual_test v =
        →and (is_through (at t n).link && is_none (up t n) && is_none (at t n).first_child) _
        (simp tests (((v.has_through, v.has_peer_through), v.parentless), v.childless))
        (rw v.siblingless
        (→and (is_none (at t n).link.peer_touch) (held n (at t n).link.touch) (simp tests v.no_peer_touch) (touched n v.has_touch)))

    pair_test : Paired t n (next t n) → T (pair_holds t n (at t n))
    unfolding pair_holds points_back
    pair_test p =
        →and (is_stay (at t (next t n)).state && eqb (next t (next t n)) n) _
        (→and (is_stay (at t (next t n)).state) (eqb (next t (next t n)) n) ((stay↔ _).1 p.there.stays) (simp tests p.points_back))
        (→or (ltb (next t n) n) (not (eqb (next t n) n) && same_link (at t (next t n)).link (mirror (at t n).link))
        (inr (→and (not (eqb (next t n) n)) (same_link (at t (next t n)).link (mirror (at t n).link)) (simp tests p.another) ((same_link↔ _ _).1 p.mirrored))))

    paired_test : Paired t n (next t n) → T (stay_holds t held n (at t n))
    unfolding stay_holds
    paired_test p =
        let some : next t n ≢ none = present_some t full (next t n) (rw p.there.stays tt) in
        →and (is_through (at t n).link && is_none (up t n) && is_none (at t n).first_child) _
        (simp tests (((p.here.linked.has_through, p.here.linked.has_peer_through), p.here.parentless), p.here.childless))
        (rw (eqb_no (next t n) none some)
        (→and (pair_holds t n (at t n)) (touches_hold held n (next t n) (at t n).link) (pair_test p) (touching n (next t n) (far_end_paired t n (next t n) p) p.here.linked)))

    top_test : next t n ≡ none → up t n ≡ none → (at t n).link ≡ no_link → T (grow_holds t held n (at t n))
    unfolding grow_holds
    top_test s u l = →and (is_none (next t n)) _ (simp tests s) (rw u ((same_link↔ (at t n).link no_link).1 l))

    plus_test : T (outer t n) → next t n ≡ none → (at t (up t n)).state ≡ S.Shrink → FullLink (at t n).link → T (grow_holds t held n (at t n))
    unfolding grow_holds
    plus_test o s e f =
        let u : up t n ≢ none = present_some t full (up t n) (rw e tt) in
        →and (is_none (next t n)) _ (simp tests s)
        (rw (eqb_no (up t n) none u)
        (→and (is_through (at t n).link && is_shrink (at t (up t n)).state) (touches_hold held n (up t n) (at t n).link)
        (→and (is_through (at t n).link) (is_shrink (at t (up t n)).state) (through (at t n).link f) ((shrink↔ _).1 e))
        (touching n (up t n) (far_end_tree t n o u) f)))

    minus_test : T (outer t n) → (at t (up t n)).state ≡ S.Grow → (at t n).first_child ≢ none → FullLink (at t n).link → T (shrink_holds t held n (at t n))
    unfolding shrink_holds
    minus_test o e c f =
        let u : up t n ≢ none = present_some t full (up t n) (rw e tt) in
        →and (is_through (at t n).link && is_grow (at t (up t n)).state && is_some (at t n).first_child) (touches_hold held n (up t n) (at t n).link)
        (→and (is_through (at t n).link && is_grow (at t (up t n)).state) (is_some (at t n).first_child)
        (→and (is_through (at t n).link) (is_grow (at t (up t n)).state) (through (at t n).link f) ((grow↔ _).1 e))
        (simp tests c))
        (touching n (up t n) (far_end_tree t n o u) f)

    stay_test : (at t n).state ≡ S.Stay → Kind t n → T (stay_holds t held n (at t n))
    stay_test e (free_node f) = absurd (stay_grow e f.grows)
    stay_test e (virtual_node v) = virtual_test v
    stay_test e (paired_node p) = paired_test p
    stay_test e (root_node r) = absurd (stay_grow e r.grows)
    stay_test e (minus_node m) = absurd (stay_shrink e m.shrinks)
    stay_test e (plus_node p) = absurd (stay_grow e p.grows)

    grow_test : (at t n).state ≡ S.Grow → Kind t n → T (grow_holds t held n (at t n))
    grow_test e (free_node f) = top_test f.siblingless f.parentless f.unlinked
    grow_test e (virtual_node v) = absurd (stay_grow v.stays e)
    grow_test e (paired_node p) = absurd (stay_grow p.here.stays e)
    grow_test e (root_node r) = top_test r.siblingless r.parentless r.unlinked
    grow_test e (minus_node m) = absurd (grow_shrink e m.shrinks)
    grow_test e (plus_node p) = plus_test (rw e tt) p.siblingless p.parent_shrinks p.linked

    shrink_test : (at t n).state ≡ S.Shrink → Kind t n → T (shrink_holds t held n (at t n))
    shrink_test e (free_node f) = absurd (grow_shrink f.grows e)
    shrink_test e (virtual_node v) = absurd (stay_shrink v.stays e)
    shrink_test e (paired_node p) = absurd (stay_shrink p.here.stays e)
    shrink_test e (root_node r) = absurd (grow_shrink r.grows e)
    shrink_test e (minus_node m) = minus_test (rw e tt) m.parent_grows m.has_child m.linked
    shrink_test e (plus_node p) = absurd (grow_shrink p.grows e)

    empty_test : (at t n).state ≡ S.Empty → T (is_bare (at t n))
    empty_test e = rw (rest.bare n e) tt

    pub slot_test : T (slot_holds t held numbered n)
    unfolding slot_holds
    slot_test =
        →and (ring_placed t n (at t n).ring) (rule_of (at t n).state t held numbered n (at t n))
        (→imp (is_some (at t n).ring) (is_blossom t n) (λ r. simp tests (rest.ring_owner n (simp tests at r)).blossom))
        (go (at t n).state refl)
      where
        go : (x : State) → (at t n).state ≡ x → T (rule_of x t held numbered n (at t n))
        go S.Empty e = empty_test e
        go S.Inner e = inner_test_lem e
        go S.Stay e = stay_test e (core.kind n (rw e tt))
        go S.Grow e = grow_test e (core.kind n (rw e tt))
        go S.Shrink e = shrink_test e (core.kind n (rw e tt))
        go S.Damaged e = absurd (rest.undamaged n e)

    pub vacant_test : ¬ Given t n → T (is_vacant t n)
    unfolding is_vacant
    vacant_test g = go (at t n).state refl
      where
        there : (x : State) → (at t n).state ≡ x → T (is_present x) → T (vacant_of x (at t n))
        there x e p = absurd (g (rest.given n (rw e p)))

        go : (x : State) → (at t n).state ≡ x → T (vacant_of x (at t n))
        go S.Empty e = empty_test e
        go S.Inner e = there S.Inner e tt
        go S.Stay e = there S.Stay e tt
        go S.Grow e = there S.Grow e tt
        go S.Shrink e = there S.Shrink e tt
        go S.Damaged e = there S.Damaged e tt
