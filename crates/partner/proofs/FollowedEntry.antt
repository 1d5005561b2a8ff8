-- On a sound table the links that are followed inward come to the defect's own, `entry`; where none is, no entry names the defect.
use mathlib.Core.Path.{◌≡◌, sym, ap, ◌∙◌}
use mathlib.Core.Logic.{◌≢◌, ◌⊎◌, inl, inr}
use mathlib.Core.Bool.{not}
use Prim.Native.Nat.{ℕ, zero, suc, ◌≤◌, ◌<◌}
use native.Mathlib.Omega.{arith}
use lib.Dec.{T, T_not, ltb→lt}
use Rattle.slot.specs.declared.state.State.TheVariants as S
use Rattle.std.specs.Prelude.{option_map, unwrap_or}
use Rattle.slot.specs.Number.{none}
use Rattle.slot.specs.Slot.{Link, no_link}
use Rattle.table.specs.Table.{Table, at, Full}
use Rattle.table.specs.Nodes.{is_defect, present, is_present_defect}
use Rattle.table.specs.Climb.{outer_blossom}
use Rattle.rules.specs.Slots.{is_stay, up, next}
use Rattle.rules.specs.Sound.{sound}
use Rattle.rules.specs.Partner.{link_in_twos, entry}
use Rattle.outcome.specs.Partner.{partner_at, partner_by}
use Rattle.theorems_soundness.specs.FactsOfBlossoms.{InnerChild, Inside, DefectInside}
use Rattle.theorems_soundness.specs.Facts.{Sound}
use Rattle.theorems_soundness.proofs.Reflect.{and→, test_true, test_false, test_case, same_or_not, eqb_no}
use Rattle.theorems_soundness.proofs.ReflectSlots.{stay↔, inner-present}
use Rattle.theorems_soundness.proofs.SoundFacts.{sound→facts}
use Rattle.theorems_soundness.proofs.Past.{present_below}
use Rattle.theorems_soundness.proofs.InsideLaws.{inside_self, inside_ring, outer_blossom_holds}
use Rattle.theorems_requests.proofs.InsideCounts.{nodes_inside, nodes_some, nodes_less, nodes_above, nodes_fit, defect_inside_alone}
use Rattle.theorems_partner.proofs.EntryLaws.{matched_entry}
use Rattle.theorems_partner.proofs.EntryTouches.{not_none, around, one_link, beside, beside_touch}
use Rattle.theorems_partner.proofs.SlotsTell.{matched_touch, paired_with_nobody}
use Rattle.partner.specs.Way.{beside_way}
use Rattle.partner.specs.Following.{turned_off, followed, way_of, followed_entry}
use Rattle.partner.proofs.WayLaws.{Beside, way_below, beside_way_lem}
use Rattle.partner.proofs.FollowSteps.{followed_stop, followed_inward}

module _ (t : Table) (full : Full t) (facts : Sound t) (d : ℕ) (defect : d < t.begin) where
  -- the ring node on the way, its link and its touch
  record Inward (x : ℕ) : Type 0 where
    node : ℕ
    link_is : turned_off t (way_of t d) (entry t x).touch ≡ entry t node
    there : T (present t node)
    around_d : Inside t node d
    touched : DefectInside t node (entry t node).touch
    smaller : nodes_inside t node < nodes_inside t x

  module _ (x : ℕ) (there : T (present t x)) (around_d : Inside t x d) (touched : DefectInside t x (entry t x).touch) where
    inward : (entry t x).touch ≢ d → Inward x
    inward n = go (inside_ring t b d climb.on)
      where
        y : ℕ
        y = beside_way 256 t (way_of t d) (entry t x).touch

        climb : Beside t full facts.rest d defect x (entry t x).touch y
        climb =
            beside_way_lem t full facts.rest d defect x (entry t x).touch (present_below t full x there) touched.inside around_d
            (λ i. n (sym (defect_inside_alone t full facts.rest (entry t x).touch d touched.defect i)))

        b : ℕ
        b = up t y

        held : DefectInside t y (entry t x).touch
        held = record { defect = touched.defect; inside = climb.holds }

        same : entry t (up t y) ≡ entry t x
        same = one_link t full facts.rest x (up t y) climb.within (around t full facts.rest y (entry t x).touch climb.is_inner held)

        go : (d ≡ b) ⊎ ((z : ℕ) × InnerChild t b z × Inside t z d) → Inward x
        go (inl e) = absurd (omega (arith, (facts.rest.inners y climb.is_inner).parent.blossom))
        go (inr (z, c, h)) =
            let other : z ≢ y = λ e. climb.off (rw e at h) in
            let at_y : DefectInside t y (entry t (up t y)).touch = rw same held in
            record {
              node = z;
              link_is = ap (link_in_twos 128 t (next t y)) (rw c.1 at (way_below t full facts.rest d defect z c.0 h)) ∙ sym (beside t full facts.rest y climb.is_inner at_y z c other);
              there = inner-present (at t z).state c.0;
              around_d = h;
              touched = beside_touch t full facts.rest y climb.is_inner at_y z c other;
              smaller = omega (arith, nodes_above t full facts.rest z c.0, ap (nodes_inside t) c.1, nodes_less t full facts.rest (up t y) x climb.within);
            }

  -- d's own link, which touches d
  record Own (l : Link) : Type 0 where
    same : l ≡ entry t d
    touched : (entry t d).touch ≡ d

  follow : (k x : ℕ) → T (present t x) → Inside t x d → DefectInside t x (entry t x).touch → nodes_inside t x ≤ k → Own (followed k t (way_of t d) d (entry t x))
  follow zero x p h i l = absurd (omega (arith, nodes_some t full facts.rest x (present_below t full x p)))
  follow (suc k) x p h i l =
      elim (same_or_not (entry t x).touch d) [
        | inl e ↦
            let shared = one_link t full facts.rest x d h (rw e (record { defect = defect; inside = inside_self t d })) in
            record { same = followed_stop t (way_of t d) d (entry t x) (suc k) e ∙ sym shared; touched = ap (λ (l : Link). l.touch) shared ∙ e }
        | inr n ↦
            let r = inward x p h i n in
            let own = follow k r.node r.there r.around_d r.touched (omega (arith, r.smaller)) in
            record {
              same = followed_inward t (way_of t d) d (entry t x) k n ∙ ap (followed k t (way_of t d) d) r.link_is ∙ own.same;
              touched = own.touched;
            }
      ]

  module _ (there : T (present t d)) where
    matched : (at t (outer_blossom t d)).state ≡ S.Stay → Own (followed 256 t (way_of t d) d (at t (outer_blossom t d)).link)
    matched s =
        let h = outer_blossom t d in
        let e = matched_entry t h s in
        let own = follow 256 h (rw s tt) (outer_blossom_holds t full facts.rest d there) (rw e (matched_touch t full facts h s)) (nodes_fit t full facts.rest h) in
        record { same = ap (followed 256 t (way_of t d) d) (sym e) ∙ own.same; touched = own.touched }

    followed_all : option_map partner_at (followed_entry t d) ≡ partner_by (entry t d)
    followed_all = go (test_case (is_stay (at t (outer_blossom t d)).state))
      where
        go : T (is_stay (at t (outer_blossom t d)).state) ⊎ T (not (is_stay (at t (outer_blossom t d)).state)) → option_map partner_at (followed_entry t d) ≡ partner_by (entry t d)
        go (inl y) =
            let own = matched ((stay↔ (at t (outer_blossom t d)).state).0 y) in
            let some : d ≢ none = not_none t full facts.rest d d (record { defect = defect; inside = inside_self t d }) in
            rw (test_true (is_stay (at t (outer_blossom t d)).state) y, own.same, eqb_no (entry t d).touch none (λ e. some (sym own.touched ∙ e)))
        go (inr n) =
            let no = T_not (is_stay (at t (outer_blossom t d)).state) n in
            rw (
              test_false (is_stay (at t (outer_blossom t d)).state) no,
              paired_with_nobody t full facts d there (λ e. no ((stay↔ (at t (outer_blossom t d)).state).1 e)),
            )

    link_all : unwrap_or (followed_entry t d) no_link ≡ entry t d
    link_all = go (test_case (is_stay (at t (outer_blossom t d)).state))
      where
        go : T (is_stay (at t (outer_blossom t d)).state) ⊎ T (not (is_stay (at t (outer_blossom t d)).state)) → unwrap_or (followed_entry t d) no_link ≡ entry t d
        go (inl y) =
            let own = matched ((stay↔ (at t (outer_blossom t d)).state).0 y) in
            rw (test_true (is_stay (at t (outer_blossom t d)).state) y, own.same)
        go (inr n) =
            let no = T_not (is_stay (at t (outer_blossom t d)).state) n in
            rw (
              test_false (is_stay (at t (outer_blossom t d)).state) no,
              paired_with_nobody t full facts d there (λ e. no ((stay↔ (at t (outer_blossom t d)).state).1 e)),
            )

pub followed-entry :
    (t : Table)
    → Full t
    → T (sound t)
    → (d : ℕ)
    → T (is_present_defect t d)
    → option_map partner_at (followed_entry t d) ≡ partner_by (entry t d)
followed-entry t full s d h =
    let parts = and→ (is_defect t d) (present t d) h in
    followed_all t full (sound→facts t full s) d (ltb→lt d t.begin parts.0) parts.1

-- the link itself is that of `entry`, and a link of none where there is none
pub followed_link : (t : Table) → Full t → T (sound t) → (d : ℕ) → T (is_present_defect t d) → unwrap_or (followed_entry t d) no_link ≡ entry t d
followed_link t full s d h =
    let parts = and→ (is_defect t d) (present t d) h in
    link_all t full (sound→facts t full s) d (ltb→lt d t.begin parts.0) parts.1
