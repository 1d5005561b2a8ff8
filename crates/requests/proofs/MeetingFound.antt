-- 01: "The meeting node is the first node that both upward paths share." The climb in turn comes to it on a sound table, and to none
-- where there are two trees.
use mathlib.Core.Path.{◌≡◌, refl, sym, ap, ◌∙◌}
use mathlib.Core.Logic.{◌≢◌, inl, inr}
use mathlib.Core.Bool.{not}
use mathlib.Core.List.{List, [], ◌∷◌}
use Prim.Native.Nat.{ℕ, ◌≤◌, ◌<◌}
use native.Mathlib.Omega.{arith}
use lib.Dec.{T, T_not, eqb, eqb→eq}
use lib.ListN.{length, set, length-set, length-replicate}
use Rattle.std.specs.Prelude.{Option, Some, None}
use Rattle.slot.specs.Number.{none}
use Rattle.table.specs.Table.{Table, Full, at}
use Rattle.table.specs.Nodes.{outer}
use Rattle.table.specs.Marks.{unmarked}
use Rattle.table.specs.Place.{in_tree}
use Rattle.table.proofs.MarkLaws.{mark_here, mark_kept, mark_only, mark_none}
use Rattle.rules.specs.Slots.{up}
use Rattle.rules.specs.Sound.{sound}
use Rattle.rules.specs.Trees.{upward, root, same_tree, meeting}
use Rattle.rules.specs.Blossom.{lacks_blossom_slot}
use Rattle.theorems_soundness.specs.Chain.{◌∈◌, Chain}
use Rattle.theorems_soundness.specs.RuleFacts.{Whole}
use Rattle.theorems_soundness.proofs.Reflect.{→or, not_eqb↔, test_case, test_true, true_test, eq→eqb, same_or_not, pick_yes, pick_no}
use Rattle.theorems_soundness.proofs.Members.{in_right}
use Rattle.theorems_soundness.proofs.Past.{outer_below}
use Rattle.theorems_soundness.proofs.Wholes.{to_whole}
use Rattle.theorems_soundness.proofs.Chains.{end_of, chain_before}
use Rattle.theorems_soundness.proofs.ChildLaws.{outer_some, has_child}
use Rattle.theorems_soundness.proofs.WaysUp as ways
use Rattle.requests.specs.Meeting.{first_above, met_in_turn, meeting_or_none}
use Rattle.requests.specs.Resolving.{Checked, met_with_slot}
use Rattle.requests.proofs.MeetingLaws.{meet_first, Told, turned, Apart, Side, stops, goes_on, alone, Marks, in_turn_lem}

-- a chain begins at its start
first_of : (next : ℕ → ℕ) (a : ℕ) (cs : List ℕ) → Chain next a cs → a ≢ none → (rest : List ℕ) × (cs ≡ a ∷ rest) × Chain next (next a) rest
first_of next a [] c d = absurd (d c)
first_of next a (x ∷ cs) c d = (cs, ap (λ (n : ℕ). n ∷ cs) (sym c.0), rw c.0 c.2)

only_one : (x j : ℕ) → j ∈ (x ∷ []) → j ≡ x
only_one x j (inl e) = e
only_one x j (inr z) = absurd z

module _ (t : Table) (w : Whole t) where
  -- ---- at the start

  -- how an end stands at its node n
  stands : (n : ℕ) → T (outer t n) → (us : List ℕ) × Side t n (upward t n) (n ∷ []) us n × (length us < 256)
  stands n o =
      let f = first_of (up t) n (upward t n) (ways.upward_chain t w.full w.core n o) (outer_some t w.full w.core n o) in
      let long : length (upward t n) ≤ 256 = ways.upward_short t w.full w.core n o in (
        f.0,
        record {
          start = outer_some t w.full w.core n o;
          whole = ways.upward_chain t w.full w.core n o;
          slots = λ j m. outer_below t w.full j (ways.upward_all_outer t w.full w.core n o j m);
          parts = f.1;
          ahead = f.2;
        },
        omega (arith, long, ap length f.1),
      )

  module _ (x y : ℕ) (ox : T (outer t x)) (oy : T (outer t y)) (two : x ≢ y) where
    apart : Apart (x ∷ []) (y ∷ [])
    apart j m n = two (sym (only_one x j m) ∙ only_one y j n)

    marks : Marks t (set (set unmarked x 1) y 1) (x ∷ []) (y ∷ [])
    marks =
        let long : length unmarked ≡ 256 = length-replicate {A = ℕ} 256 0 in
        let x_fits : x < length unmarked = omega (arith, long, outer_below t w.full x ox) in
        let y-fits : y < length (set unmarked x 1) = omega (arith, length-set unmarked x 1, long, outer_below t w.full y oy) in
        record {
          long = length-set (set unmarked x 1) y 1 ∙ length-set unmarked x 1 ∙ long;
          mine = λ j m. rw (only_one x j m) (mark_kept (set unmarked x 1) y x (mark_here unmarked x x_fits));
          theirs = λ j m. rw (only_one y j m) (mark_here (set unmarked x 1) y y-fits);
          only = λ j m. elim (mark_only (set unmarked x 1) y j m) [
            | inl e ↦ inr (inl e)
            | inr o ↦ elim (mark_only unmarked x j o) [ inl e ↦ inl (inl e) | inr n ↦ absurd (mark_none j n) ]
          ];
        }

    -- a root, to which the way up from the other may come
    at-root :
        (a b : ℕ) (vs : List ℕ)
        → Apart (a ∷ []) (b ∷ [])
        → Side t a (upward t a) (a ∷ []) [] a
        → Side t b (upward t b) (b ∷ []) vs b
        → length vs < 256
        → Told (upward t a) (upward t b) (first_above 256 t (eqb a) b)
    at-root a b vs off p q l =
        alone t (eqb a) a (upward t a) (a ∷ []) a p (λ j m. eq→eqb a j (sym (only_one a j m))) 256 b (upward t b) (b ∷ []) vs b q off
        (λ j m. inl (inl (sym (eqb→eq a j m))))
        l

    told :
        (us vs : List ℕ)
        → Side t x (upward t x) (x ∷ []) us x
        → Side t y (upward t y) (y ∷ []) vs y
        → length us < 256
        → length vs < 256
        → Told (upward t x) (upward t y) (met_in_turn t x y)
    unfolding met_in_turn
    told [] vs p q lu lv = rw (stops t x (upward t x) (x ∷ []) x p) (at-root x y vs apart p q lv)
    told (u ∷ us) [] p q lu lv =
        rw (goes_on t x (upward t x) (x ∷ []) u us x p, stops t y (upward t y) (y ∷ []) y q)
        (turned (upward t y) (upward t x) (first_above 256 t (eqb y) x) (at-root y x (u ∷ us) (λ j m n. apart j n m) q p lu))
    told (u ∷ us) (v ∷ vs) p q lu lv =
        rw (goes_on t x (upward t x) (x ∷ []) u us x p, goes_on t y (upward t y) (y ∷ []) v vs y q)
        (in_turn_lem t 512 (set (set unmarked x 1) y 1) x y (upward t x) (upward t y) (x ∷ []) (u ∷ us) (y ∷ []) (v ∷ vs) x y p q apart marks lu lv (omega arith))

    -- ---- what is told

    is_told : (r : Option ℕ) → Told (upward t x) (upward t y) r → r ≡ meeting_or_none t x y
    is_told (Some r) m =
        let on-x : r ∈ upward t x = rw m.way_x (in_right m.below_x (r ∷ m.above) r (inl refl)) in
        let on-y : r ∈ upward t y = rw m.way_y (in_right m.below_y (r ∷ m.above) r (inl refl)) in
        let one = (ways.same_tree↔ t w.full w.core x y ox).1 (ways.shared_root t w.full w.core x y r ox oy on-x on-y) in
        sym (pick_yes (same_tree t x y) (Some (meeting t x y)) None one ∙ ap Some (meet_first (upward t x) (upward t y) r (ways.upward_once t w.full w.core x ox) m))
    is_told None h =
        let ends : root t x ≢ root t y = λ e. h (sym (ways.root_is_end t w.full w.core x ox) ∙ e ∙ ways.root_is_end t w.full w.core y oy) in
        sym (pick_no {A = Option ℕ} (same_tree t x y) (Some (meeting t x y)) None (λ s. ends ((ways.same_tree↔ t w.full w.core x y ox).0 s)))

    pub met : met_in_turn t x y ≡ meeting_or_none t x y
    met = let p = stands x ox in let q = stands y oy in is_told (met_in_turn t x y) (told p.0 q.0 p.1 q.1 p.2 q.2)

  -- ---- two nodes of one tree

  -- each has a parent or a child
  in_a_tree : (x y : ℕ) → T (outer t x) → T (outer t y) → x ≢ y → root t x ≡ root t y → T (in_tree (at t x))
  in_a_tree x y ox oy two e = elim (same_or_not (up t x) none) [
    | inr d ↦ →or (not (eqb (up t x) none)) (not (eqb (at t x).first_child none)) (inl ((not_eqb↔ (up t x) none).1 d))
    | inl top ↦
        let above : root t y ≡ x = sym e ∙ ways.root_is_end t w.full w.core x ox ∙ ap end_of (ways.upward_top t w.full w.core x ox top) in
        let on_way : x ∈ upward t y = rw above at (ways.root_above_lem t w.full w.core y oy) in
        elim (chain_before (up t) y (upward t y) (ways.upward_chain t w.full w.core y oy) x on_way) [
          | inl z ↦ absurd (two z)
          | inr r ↦
              let child = has_child t w.full w.core x ox r.0 (ways.upward_all_outer t w.full w.core y oy r.0 r.1, r.2) in
              →or (not (eqb (up t x) none)) (not (eqb (at t x).first_child none)) (inr ((not_eqb↔ (at t x).first_child none).1 child))
        ]
  ]

  pub tree-slot :
      (x y : ℕ)
      → T (outer t x)
      → T (outer t y)
      → x ≢ y
      → (T (in_tree (at t x)) → T (in_tree (at t y)) → T (same_tree t x y) → ¬ T (lacks_blossom_slot t))
      → T (same_tree t x y)
      → ¬ T (lacks_blossom_slot t)
  tree-slot x y ox oy two h s =
      let e = (ways.same_tree↔ t w.full w.core x y ox).0 s in
      h (in_a_tree x y ox oy two e) (in_a_tree y x oy ox (λ z. two (sym z)) (sym e)) s

  -- the meeting node is a slot
  pub meeting_some : (x y : ℕ) → T (outer t x) → T (outer t y) → T (same_tree t x y) → meeting t x y ≢ none
  meeting_some x y ox oy s =
      let e = (ways.same_tree↔ t w.full w.core x y ox).0 s in
      let f = ways.meeting_found t w.full w.core x y ox oy e in
      outer_some t w.full w.core (meeting t x y) (ways.upward_all_outer t w.full w.core y oy (meeting t x y) f.on_other)

-- ---- of a conflict that the checks have passed

module _ (t : Table) (x y : ℕ) (full : Full t) (ok : Checked t x y) where
  w : Whole t
  w = to_whole t full (true_test (sound t) ok.0)

  ox : T (outer t x)
  ox = true_test (outer t x) ok.1

  oy : T (outer t y)
  oy = true_test (outer t y) ok.2

  pub met_with_slot_lem : met_with_slot t x y ≡ meeting_or_none t x y
  met_with_slot_lem = elim (test_case (lacks_blossom_slot t)) [
    | inl l ↦
        let apart : ¬ T (same_tree t x y) = λ s. T_not (lacks_blossom_slot t) (rw (ok.4 (test_true (same_tree t x y) s)) tt) l in
        pick_yes (lacks_blossom_slot t) None (met_in_turn t x y) l ∙ sym (pick_no {A = Option ℕ} (same_tree t x y) (Some (meeting t x y)) None apart)
    | inr n ↦ pick_no {A = Option ℕ} (lacks_blossom_slot t) None (met_in_turn t x y) (T_not (lacks_blossom_slot t) n) ∙ met t w x y ox oy ok.3
  ]
