-- The check and the rules: sizes, then each slot by itself, then the passes along pointers.
use mathlib.Core.Path.{◌≡◌, refl, sym, ap, ◌∙◌}
use mathlib.Core.Logic.{◌⊎◌, inl, inr}
use mathlib.Core.List.{List}
use mathlib.Core.Bool.{Bool, true, false, not, ◌&&◌}
use Prim.Native.Nat.{ℕ, ◌+◌, ◌*◌, ◌-◌, ◌≤◌, ◌<◌}
use native.Mathlib.Decide.{dec_lt}
use native.Mathlib.Omega.{arith}
use lib.Dec.{T, eqb}
use lib.ListN.{get_or}
use borrow.Author.Tests.{eqb-false, not-true}
use Rattle.lists.proofs.Count.{length-count}
use Rattle.slot.specs.declared.state.State.{State}
use Rattle.slot.specs.declared.state.State.TheVariants as S
use Rattle.slot.specs.Number.{none}
use Rattle.slot.specs.Slot.{Slot, empty_slot, no_link}
use Rattle.slot.specs.State.{is_outer, is_inner}
use Rattle.table.specs.Table.{Table, at, Full}
use Rattle.table.specs.Words.{table_of, slot_from}
use Rattle.table.proofs.TableLaws.{at_out}
use Rattle.table.specs.Nodes.{present, outer, inner}
use Rattle.rules.specs.Slots.{is_none, same_link, up}
use Rattle.rules.specs.Walk.{ends}
use Rattle.rules.specs.declared.fault.Rule.TheVariants.{S5, S7}
use Rattle.rules.specs.Sound.{◌⇒◌, sizes_hold, is_defect_inside, is_bare, s5, s7, sound}
use Rattle.theorems_soundness.specs.Facts.{Sizes, Given, Rest}
use Rattle.theorems_soundness.specs.FactsOfBlossoms.{PresentBlossom, Ring}
use Rattle.theorems_soundness.proofs.Reflect.{tests, true_test, test_true, test_false, and→, imp→, eqb_no, not_eqb↔}
use Rattle.theorems_soundness.proofs.ReflectSlots.{same_link↔, outer-present, outer_not_inner}
use Rattle.theorems_soundness.proofs.Past.{at_none, present_below}
use Rattle.theorems_soundness.proofs.ChildLaws.{above_outer}
use Rattle.theorems_soundness.proofs.SizesAndPointers.{sizes↔}
use Rattle.theorems_soundness.proofs.SoundParts.{sound→rule, sound→core, sound→rest}
use Rattle.sound_walks.specs.Pass.{all_from}
use Rattle.sound_slots.specs.Links.{ring_placed}
use Rattle.sound.specs.OneSlot.{slot_holds, is_vacant, vacant_of, rule_of}
use Rattle.table.specs.Marks.{marked}
use Rattle.sound_walks.specs.Marks.{Judged, sweep}
use Rattle.sound_walks.specs.Lists.{list_step}
use Rattle.sound_walks.specs.Depths.{way_step}
use Rattle.sound_walks.proofs.Truth.{lie, bool_ext, and_left, and_right, and_both, range_to, range_from}
use Rattle.sound_walks.proofs.SoundChildrenPaths as list_walks
use Rattle.sound_walks.proofs.WaysEnd.{way_fine, way_skips, ways_right, way_listed, way_reaches, way_from}
use Rattle.sound.specs.Given.{unseen, each_holds, numbers_from, held_in, numbered_in, numbered_hold, given_pass, paths_hold}
use Rattle.sound.proofs.SlotKinds.{undamaged, inner_childless, inner_numbered}
use Rattle.sound.proofs.SlotsSound.{inners, all_sound}
use Rattle.sound.proofs.InsideByNumbers.{numbers_right, numbers_complete, numbers_given, inners_numbered, held_defect}
use Rattle.sound.proofs.RingsWalked.{ring_exact, ring_owner}
use Rattle.sound.proofs.SlotTests.{slot_test, vacant_test}
use Rattle.sound.proofs.Whole.{given_whole}

-- an empty slot that stores none throughout is the empty slot
bare→ : (s : Slot) → s.state ≡ S.Empty → T (is_bare s) → s ≡ empty_slot
bare→ s e h =
    let r = and→ (is_none s.parent && is_none s.first_child && is_none s.sibling && is_none s.ring) (same_link s.link no_link) h in
    let q = simp tests at r.0 in
    let l = (same_link↔ s.link no_link).0 r.1 in
    λ i. record { state = e i; parent = q.0.0.0 i; first_child = q.0.0.1 i; sibling = q.0.1 i; ring = q.1 i; link = l i }

vacant→ : (t : Table) (n : ℕ) → T (is_vacant t n) → at t n ≡ empty_slot
unfolding is_vacant
vacant→ t n h = go (at t n).state refl h
  where
    go : (x : State) → (at t n).state ≡ x → T (vacant_of x (at t n)) → at t n ≡ empty_slot
    go S.Empty e h = bare→ (at t n) e h
    go S.Inner e h = absurd h
    go S.Stay e h = absurd h
    go S.Grow e h = absurd h
    go S.Shrink e h = absurd h
    go S.Damaged e h = absurd h

judged_empty→ : (t : Table) (held : ℕ → ℕ → Bool) (numbered : ℕ → Bool) (n : ℕ) → T (slot_holds t held numbered n) → (at t n).state ≡ S.Empty → at t n ≡ empty_slot
unfolding slot_holds
judged_empty→ t held numbered n h e = bare→ (at t n) e (rw e at (and→ (ring_placed t n (at t n).ring) (rule_of (at t n).state t held numbered n (at t n)) h).1)

module _ (ws : List ℕ) where
  abbrev tab : Table
  tab = table_of ws

  full : Full tab
  unfolding table_of
  full = length-count (λ i. slot_from ws (i * 11)) 0 256

  abbrev d : ℕ
  d = tab.defects

  abbrev b : ℕ
  b = tab.begin

  abbrev e : ℕ
  e = tab.begin + tab.blossoms

  -- the numbers of insides, and the tests by them
  abbrev held : ℕ → ℕ → Bool
  held = held_in tab (numbers_from tab b e)

  abbrev numbered : ℕ → Bool
  numbered = numbered_in (numbers_from tab b e)

  defect : (x n : ℕ) → T (held x n) → n < tab.begin
  defect = held_defect tab (numbers_from tab b e)

  pub sizes_fail : sizes_hold tab ≡ false → false ≡ sound tab
  sizes_fail h =
      bool_ext false (sound tab) (λ u. lie u)
      (λ u. sym h ∙ test_true (sizes_hold tab) ((sizes↔ tab).1 (sound→rest tab full (true_test (sound tab) u)).sizes))

  module _ (sizes : sizes_hold tab ≡ true) where
    sized : Sizes tab
    sized = (sizes↔ tab).0 (true_test (sizes_hold tab) sizes)

    pub end_below : e ≤ 256
    end_below = sized.blossoms_fit

    few : d ≤ b
    few = sized.defects_fit

    -- ---- a sound table passes each slot's test

    module _ (s : T (sound tab)) where
      between_ungiven : (n : ℕ) → d ≤ n → n < b → ¬ Given tab n
      between_ungiven n p q (inl u) = omega arith
      between_ungiven n p q (inr u) = omega (arith, u.0)

      after_ungiven : (n : ℕ) → e ≤ n → ¬ Given tab n
      after_ungiven n p (inl u) = omega (arith, few)
      after_ungiven n p (inr u) = omega (arith, u.1)

      rest : Rest tab
      rest = sound→rest tab full s

      outward : (x n : ℕ) → T (is_defect_inside tab x n) → T (held x n)
      outward = numbers_complete tab full sized rest.undamaged rest.given rest.inners rest.rings

      all_numbered : (n : ℕ) → T (inner tab n) → T (numbered n)
      all_numbered = inners_numbered tab full sized rest.undamaged rest.given rest.inners rest.rings

      unbroken_from : not (eqb (numbers_from tab b e).free 0) ≡ true
      unbroken_from = rw (numbers_given tab full sized rest.undamaged rest.given rest.inners rest.rings)

      passes : (n : ℕ) → T (slot_holds tab held numbered n)
      passes = slot_test tab full s held numbered all_numbered outward

      each_from : each_holds tab held numbered d b e ≡ true
      unfolding each_holds
      each_from =
          let p = range_from (slot_holds tab held numbered) (d - 0) 0 (λ j _ _. test_true (slot_holds tab held numbered j) (passes j)) in
          let q = range_from (is_vacant tab) (b - d) d (λ j l m. let f = few in test_true (is_vacant tab j) (vacant_test tab full s held numbered all_numbered outward j (between_ungiven j l (omega arith)))) in
          let r = range_from (slot_holds tab held numbered) (e - b) b (λ j _ _. test_true (slot_holds tab held numbered j) (passes j)) in
          let v = range_from (is_vacant tab) (256 - e) e (λ j l _. test_true (is_vacant tab j) (vacant_test tab full s held numbered all_numbered outward j (after_ungiven j l))) in
          rw (p, q, r, v)

      numbered_from : numbered_hold tab d b e ≡ true
      unfolding numbered_hold
      numbered_from = and_both (not (eqb (numbers_from tab b e).free 0)) (each_holds tab held numbered d b e) unbroken_from each_from

    pub each_fail : numbered_hold tab d b e ≡ false → false ≡ sound tab
    each_fail h = bool_ext false (sound tab) (λ u. lie u) (λ u. sym h ∙ numbered_from (true_test (sound tab) u))

    -- ---- what the tests of the slots say

    module _ (numbers : numbered_hold tab d b e ≡ true) where
      each : each_holds tab held numbered d b e ≡ true
      unfolding numbered_hold
      each = and_right (not (eqb (numbers_from tab b e).free 0)) (each_holds tab held numbered d b e) numbers

      unbroken : 1 ≤ (numbers_from tab b e).free
      unfolding numbered_hold
      unbroken =
          let h : (eqb (numbers_from tab b e).free 0) ≡ false = not-true (eqb (numbers_from tab b e).free 0) (and_left (not (eqb (numbers_from tab b e).free 0)) (each_holds tab held numbered d b e) numbers) in
          omega (arith, eqb-false (numbers_from tab b e).free 0 h)

      parts : (all_from (slot_holds tab held numbered) (d - 0) 0 ≡ true) × (all_from (is_vacant tab) (b - d) d ≡ true) × (all_from (slot_holds tab held numbered) (e - b) b ≡ true) × (all_from (is_vacant tab) (256 - e) e ≡ true)
      unfolding each_holds
      parts =
          let h = and_left (all_from (slot_holds tab held numbered) (d - 0) 0 && all_from (is_vacant tab) (b - d) d && all_from (slot_holds tab held numbered) (e - b) b) (all_from (is_vacant tab) (256 - e) e) each in
          let k = and_left (all_from (slot_holds tab held numbered) (d - 0) 0 && all_from (is_vacant tab) (b - d) d) (all_from (slot_holds tab held numbered) (e - b) b) h in (
            and_left (all_from (slot_holds tab held numbered) (d - 0) 0) (all_from (is_vacant tab) (b - d) d) k,
            and_right (all_from (slot_holds tab held numbered) (d - 0) 0) (all_from (is_vacant tab) (b - d) d) k,
            and_right (all_from (slot_holds tab held numbered) (d - 0) 0 && all_from (is_vacant tab) (b - d) d) (all_from (slot_holds tab held numbered) (e - b) b) h,
            and_right (all_from (slot_holds tab held numbered) (d - 0) 0 && all_from (is_vacant tab) (b - d) d && all_from (slot_holds tab held numbered) (e - b) b) (all_from (is_vacant tab) (256 - e) e) each,
          )

      between : (n : ℕ) → d ≤ n → n < b → at tab n ≡ empty_slot
      between n p q = vacant→ tab n (true_test (is_vacant tab n) (range_to (is_vacant tab) (b - d) d n parts.1 p (omega arith)))

      after : (n : ℕ) → e ≤ n → n < 256 → at tab n ≡ empty_slot
      after n p q = vacant→ tab n (true_test (is_vacant tab n) (range_to (is_vacant tab) (256 - e) e n parts.3 p (omega arith)))

      -- given out and judged, or empty
      place : (n : ℕ) → (Given tab n × T (slot_holds tab held numbered n)) ⊎ (at tab n ≡ empty_slot)
      place n = go (dec_lt n d) (dec_lt n b) (dec_lt n e) (dec_lt n 256)
        where
          go : Dec (n < d) → Dec (n < b) → Dec (n < e) → Dec (n < 256) → (Given tab n × T (slot_holds tab held numbered n)) ⊎ (at tab n ≡ empty_slot)
          go (yes u) v w x = inl (inl u, true_test (slot_holds tab held numbered n) (range_to (slot_holds tab held numbered) (d - 0) 0 n parts.0 (omega arith) (omega arith)))
          go (no u) (yes v) w x = inr (between n (omega arith) v)
          go (no u) (no v) (yes w) x = inl (inr (omega arith, w), true_test (slot_holds tab held numbered n) (range_to (slot_holds tab held numbered) (e - b) b n parts.2 (omega arith) (omega arith)))
          go (no u) (no v) (no w) (yes x) = inr (after n (omega arith) x)
          go (no u) (no v) (no w) (no x) = inr (at_out tab n full (omega arith))

      absent : (n : ℕ) → at tab n ≡ empty_slot → ¬ T (present tab n)
      absent n z p = rw z at p

      judged : (n : ℕ) → T (present tab n) → T (slot_holds tab held numbered n)
      judged n p = elim (place n) [ inl u ↦ u.1 | inr z ↦ absurd (absent n z p) ]

      given : (n : ℕ) → T (present tab n) → Given tab n
      given n p = elim (place n) [ inl u ↦ u.0 | inr z ↦ absurd (absent n z p) ]

      empty : (n : ℕ) → (at tab n).state ≡ S.Empty → at tab n ≡ empty_slot
      empty n h = elim (place n) [ inl u ↦ judged_empty→ tab held numbered n u.1 h | inr z ↦ z ]

      -- only outer nodes have children
      bare : (n : ℕ) → outer tab n ≡ false → (at tab n).first_child ≡ none
      bare n o = go (at tab n).state refl o
        where
          go : (x : State) → (at tab n).state ≡ x → is_outer x ≡ false → (at tab n).first_child ≡ none
          go S.Empty h o = ap (λ (s : Slot). s.first_child) (empty n h)
          go S.Inner h o = inner_childless tab full sized held numbered defect judged empty n (rw h tt)
          go S.Stay h o = lie (sym o)
          go S.Grow h o = lie (sym o)
          go S.Shrink h o = lie (sym o)
          go S.Damaged h o = absurd (undamaged tab full sized held numbered defect judged empty n h)

      -- so a pass over the slots given out is a pass over all
      lists_whole : given_pass (list_step tab) d b e ≡ sweep (list_step tab) 256 0 unseen
      lists_whole =
          given_whole (list_step tab) d b e few (omega arith) end_below
          (λ h p q l. list_walks.list_skips tab bare h l (rw (after h p q)))
          (λ h p q l. list_walks.list_skips tab bare h l (rw (between h p q)))

      ways_whole : (l : List ℕ) → given_pass (way_step tab l) d b e ≡ sweep (way_step tab l) 256 0 unseen
      ways_whole l =
          given_whole (way_step tab l) d b e few (omega arith) end_below
          (λ h p q deep. way_skips tab l h deep (ap (λ (s : Slot). is_none s.parent) (after h p q)))
          (λ h p q deep. way_skips tab l h deep (ap (λ (s : Slot). is_none s.parent) (between h p q)))

      abbrev listed : Judged
      listed = sweep (list_step tab) 256 0 unseen

      abbrev fine : ℕ → Bool
      fine = way_fine tab listed.seen

      paths_all : paths_hold tab d b e ≡ (listed.ok && all_from fine 256 0)
      unfolding paths_hold
      paths_all = rw (lists_whole, ways_whole listed.seen, ways_right tab listed.seen)

      some_parent : (j : ℕ) → T (present tab (up tab j)) → is_none (up tab j) ≡ false
      some_parent j p = eqb_no (up tab j) none (λ z. let q : T (present tab none) = rw z at p in absurd (rw (at_none tab full) at q))

      outer_only : (j : ℕ) → outer tab j ≡ true → inner tab j ≡ false
      outer_only j o = test_false (inner tab j) (outer_not_inner (at tab j).state (true_test (outer tab j) o))

      -- ---- the passes find what the rules ask

      module _ (paths : paths_hold tab d b e ≡ true) where
        found : (listed.ok ≡ true) × (all_from fine 256 0 ≡ true)
        found =
            let h : (listed.ok && all_from fine 256 0) ≡ true = sym paths_all ∙ paths in
            (and_left listed.ok (all_from fine 256 0) h, and_right listed.ok (all_from fine 256 0) h)

        fine_at : (n : ℕ) → n < 256 → fine n ≡ true
        fine_at n q = range_to fine 256 0 n found.1 (omega arith) (omega arith)

        lists : (n : ℕ) → T (s5 tab n)
        unfolding s5
        lists n = go (dec_lt n 256)
          where
            go : Dec (n < 256) → T (s5 tab n)
            go (yes q) =
                true_test (s5 tab n)
                (list_walks.lists-right tab bare found.0
                (λ j r o u. way_listed tab listed.seen j (fine_at j r) (some_parent j (outer-present (at tab (up tab j)).state (true_test (outer tab (up tab j)) u))) (outer_only j o))
                n q)
            go (no q) = simp (at_out tab n full (omega arith)) tt

        below : (n : ℕ) → PresentBlossom tab n → n < tab.begin + tab.blossoms
        below n p = elim (given n p.there) [ inl l ↦ absurd (omega (arith, few, p.blossom)) | inr r ↦ r.1 ]

        inner-number : (n : ℕ) → T (inner tab n) → 1 ≤ get_or (numbers_from tab b e).lo n 0
        inner-number n i =
            let z = (not_eqb↔ (get_or (numbers_from tab b e).lo n 0) 0).0 (inner_numbered tab full sized held numbered defect judged empty n i) in
            omega (arith, z)

        rings : (n : ℕ) → PresentBlossom tab n → Ring tab n
        rings = ring_exact tab full below (undamaged tab full sized held numbered defect judged empty) unbroken inner-number

        owner : (n : ℕ) → T (inner tab n) → PresentBlossom tab (up tab n)
        owner n i = (ring_owner tab full below (undamaged tab full sized held numbered defect judged empty) unbroken inner-number n i).0

        ways : (n : ℕ) → T (outer tab n) → T (ends 257 (up tab) n)
        ways n o =
            let q = present_below tab full n (outer-present (at tab n).state o) in
            true_test (ends 257 (up tab) n) (way_reaches tab listed.seen n (fine_at n q) (outer_only n (test_true (outer tab n) o)))

        inward : (x n : ℕ) → T (held x n) → T (is_defect_inside tab x n)
        inward =
            numbers_right tab full sized (undamaged tab full sized held numbered defect judged empty) given
            (inners tab full sized held numbered defect judged empty given owner lists rings ways) rings

        check_sound : sound tab ≡ true
        check_sound =
            test_true (sound tab)
            (all_sound tab full sized held numbered defect judged empty given owner lists rings ways inward)

      -- ---- and on a sound table they succeed

      module _ (s : T (sound tab)) where
        fifth : (n : ℕ) → n < 256 → s5 tab n ≡ true
        fifth n q = test_true (s5 tab n) (sound→rule tab s S5 n q)

        seventh : (n : ℕ) → n < 256 → T (outer tab n) → ends 257 (up tab) n ≡ true
        unfolding s7
        seventh n q o =
            test_true (ends 257 (up tab) n)
            (imp→ (outer tab n) (ends 257 (up tab) n) (and→ (outer tab n ⇒ ends 257 (up tab) n) _ (sound→rule tab s S7 n q)).0 o)

        outer_there : (n : ℕ) → is_none (up tab n) ≡ false → inner tab n ≡ false → T (outer tab n)
        outer_there n u i = go (at tab n).state refl i
          where
            go : (x : State) → (at tab n).state ≡ x → is_inner x ≡ false → T (outer tab n)
            go S.Empty h i = absurd (eqb-false (up tab n) none u (ap (λ (z : Slot). z.parent) (empty n h)))
            go S.Inner h i = lie (sym i)
            go S.Stay h i = rw h tt
            go S.Grow h i = rw h tt
            go S.Shrink h i = rw h tt
            go S.Damaged h i = absurd (undamaged tab full sized held numbered defect judged empty n h)

        on_list : (n : ℕ) → n < 256 → is_none (up tab n) ≡ false → inner tab n ≡ false → (marked listed.seen n ≡ true) × (ends 257 (up tab) n ≡ true)
        on_list n q u i =
            let o = outer_there n u i in
            let a : T (outer tab (up tab n)) = above_outer tab full (sound→core tab full s) n o (eqb-false (up tab n) none u) in (
              list_walks.right_listed tab bare fifth n q (present_below tab full (up tab n) (outer-present (at tab (up tab n)).state a)) (test_true (outer tab n) o) (test_true (outer tab (up tab n)) a),
              seventh n q o,
            )

        sound_paths : paths_hold tab d b e ≡ true
        sound_paths =
            paths_all
            ∙ and_both listed.ok (all_from fine 256 0) (list_walks.right_lists tab bare fifth)
            (range_from fine 256 0 (λ n _ q. way_from tab listed.seen n (λ u i. on_list n (omega arith) u i)))

      pub paths_decide : paths_hold tab d b e ≡ sound tab
      paths_decide =
          bool_ext (paths_hold tab d b e) (sound tab)
          (λ h. check_sound h)
          (λ h. sound_paths (true_test (sound tab) h))

-- ---- the steps of the code

module _ (ws : List ℕ) (x : Bool) (p : x ≡ sizes_hold (table_of ws)) where
  pub sizes_no : x ≡ false → false ≡ sound (table_of ws)
  sizes_no h = sizes_fail ws (sym p ∙ h)

  module _ (f : x ≡ true) (defects begin blossoms : ℕ) (u : defects ≡ (table_of ws).defects) (v : begin ≡ (table_of ws).begin) (w : blossoms ≡ (table_of ws).blossoms) where
    module _ (y : Bool) (q : y ≡ numbered_hold (table_of ws) defects begin (begin + blossoms)) where
      pub each_no : y ≡ false → false ≡ sound (table_of ws)
      each_no h = each_fail ws (sym p ∙ f) (rw (u, v, w) at (sym q ∙ h))

      pub paths_answer : (z : Bool) → y ≡ true → z ≡ paths_hold (table_of ws) defects begin (begin + blossoms) → z ≡ sound (table_of ws)
      paths_answer z h k = (rw (u, v, w) at k) ∙ paths_decide ws (sym p ∙ f) (rw (u, v, w) at (sym q ∙ h))
