-- Making a blossom, step by step: what the rule leaves in each slot of a sound table, and so that it keeps it sound.
use mathlib.Core.Path.{◌≡◌, refl, ap, sym, subst, ◌∙◌}
use mathlib.Core.Logic.{◌≢◌, ◌⊎◌, inl, inr}
use mathlib.Core.List.{List, [], ◌∷◌, ◌++◌}
use Prim.Native.Nat.{ℕ, ◌+◌, ◌%◌, ◌≤◌, ◌<◌}
use native.Mathlib.Omega.{arith}
use lib.Dec.{T}
use lib.ListN.{length, length-append}
use Rattle.slot.specs.Number.{none}
use Rattle.slot.specs.Slot.{Link, Slot}
use Rattle.table.specs.Table.{Table, at}
use Rattle.table.specs.Nodes.{outer}
use Rattle.table.specs.Counts.{with_blossoms}
use Rattle.rules.specs.Act.{say, change, ◌then◌, read, choose}
use Rattle.rules.specs.Slots.{with_parent, with_first_child, with_sibling, up, next}
use Rattle.rules.specs.Trees.{meeting}
use Rattle.rules.specs.Sound.{next_in_ring}
use Rattle.rules.specs.Blossom.{lacks_blossom_slot, gathered, enclosed, ringed, blossom_placed, create_blossom, moved_up_to, last_below}
use Rattle.rules.specs.Conflict.{blossom_in_tree}
use Rattle.theorems_soundness.specs.Chain.{◌∈◌, NoDup, Chain}
use Rattle.theorems_soundness.proofs.Reflect.{tests, test_false}
use Rattle.theorems_soundness.proofs.ReflectSlots.{grow_shrink, outer-present}
use Rattle.theorems_soundness.proofs.Members.{in_append→, in_left, in_right, →nodup_append}
use Rattle.theorems_soundness.proofs.Chains.{chain_frame}
use Rattle.theorems_soundness.proofs.Past.{outer_below}
use Rattle.theorems_soundness.proofs.ChildLaws.{above_outer, shrink_is_minus, minus_only}
use Rattle.theorems_soundness.proofs.OuterLists.{upward_fits}
use Rattle.theorems_soundness.specs.RuleFacts.{Whole, RightLink, OneTree}
use Rattle.theorems_soundness.proofs.WaysUp.{same_tree↔, meeting_found}
use Rattle.theorems_soundness.proofs.Frames.{some_outer}
use Rattle.theorems_soundness.proofs.TwoPaths.{TwoPaths, two_paths, above_grow}
use Rattle.theorems_soundness.proofs.MadeBlossom.{OffPath, InTree, Made}
use Rattle.theorems_soundness.proofs.MadeSlots.{below_next, grow_siblingless, twice_above}
use Rattle.theorems_soundness.proofs.MadeInside.{made_whole}
use Rattle.theorems_soundness.proofs.RingOfPaths as Path
use Rattle.theorems_soundness.proofs.RingOfPaths.{onto, onto→, →onto, last_or, ring_of_paths, stepped}
use Rattle.theorems_soundness.proofs.Placing.{Placed, placed}
use Rattle.theorems_soundness.proofs.Gathering.{lists_of_256, Site, Gathered, NodeGathered, PathGathered, gathered_none, ring_untouched, node_gathers, path_gathers, last_found}
use Rattle.theorems_soundness.proofs.Ringing.{RingedUp, RingedDown, ringed-up, ringed_down}
use Rattle.theorems_soundness.proofs.RoundTheRing.{InRing, round_up, round-down, turned-each}

module _ {x y : ℕ} {l : Link} {t : Table} (o : OneTree t x y l) (slot : ¬ T (lacks_blossom_slot t)) where
  abbrev pub w : Whole t
  w = o.whole

  abbrev pub b : ℕ
  b = t.begin + t.blossoms

  abbrev pub m : ℕ
  m = meeting t x y

  pub left : b < 256
  left = omega (arith, room)
    where
      room : ¬ (256 ≤ b)
      room h = slot (simp tests h)

  pub outer_1 : T (outer t x)
  outer_1 = rw o.grows_1 tt

  pub outer_2 : T (outer t y)
  outer_2 = rw o.grows_2 tt

  abbrev pub paths : TwoPaths t x y m
  paths =
      two_paths t w.full w.core x y m o.grows_1 o.grows_2
      (meeting_found t w.full w.core x y outer_1 outer_2 ((same_tree↔ t w.full w.core x y outer_1).0 o.same))

  abbrev pub xs : List ℕ
  xs = paths.xs

  abbrev pub ys : List ℕ
  ys = paths.ys

  abbrev pub above : List ℕ
  above = paths.above

  abbrev pub ring : List ℕ
  ring = ring_of_paths t x y m paths

  tree : InTree t m ring
  tree = Path.in_tree w o.grows_1 o.grows_2 paths

  not_new : (j : ℕ) → T (outer t j) → j ≢ b
  not_new j h e = omega (arith, below_next t w.rest j (outer-present (at t j).state h))

  outer-meeting : T (outer t m)
  outer-meeting = tree.outers m (inl refl)

  -- ---- the new blossom's place

  pub parent_place : up t m ≢ none → (up t m ≢ b) × (m ≢ b) × (m ≢ up t m) × (up t m < 256) × ((at t (up t m)).first_child ≡ m)
  parent_place has =
      let shrinks = above_grow t w.full w.core m tree.grows has in
      let p = above_outer t w.full w.core m outer-meeting has in
      let n = shrink_is_minus t w.full w.core (up t m) shrinks in (
        not_new (up t m) p,
        not_new m outer-meeting,
        λ e. grow_shrink tree.grows (ap (λ (j : ℕ). (at t j).state) e ∙ shrinks),
        outer_below t w.full (up t m) p,
        sym (minus_only t w.full w.core (up t m) m p n (outer-meeting, refl)),
      )

  abbrev pub v : Table
  v = blossom_placed b m (with_blossoms t (t.blossoms + 1))

  pub in_place : Placed t b m v
  in_place = placed t b m w.full left (grow_siblingless t w.core m tree.grows) parent_place

  not_above : (j : ℕ) → j ∈ ring → j ≢ up t m
  not_above j i e =
      Path.no_ring_above w o.grows_1 o.grows_2 paths (subst (λ (z : ℕ). z ∈ ring) e i)

  -- ---- the children off the two paths

  site : Site t b m ring v
  site = record { placed = in_place; left = left; not_new = not_new; outers = tree.outers; not_above = not_above }

  start : Gathered t b ring v [] v
  start = gathered_none w site (rw in_place.here)

  first_not_meeting : (j : ℕ) → j ∈ xs → j ≢ m
  first_not_meeting = Path.first_not_meeting w o.grows_1 o.grows_2 paths

  second_not_meeting : (j : ℕ) → j ∈ ys → j ≢ m
  second_not_meeting = Path.second_not_meeting w o.grows_1 o.grows_2 paths

  first_in : (j : ℕ) → j ∈ xs → j ∈ ring
  first_in = Path.first_in w o.grows_1 o.grows_2 paths

  second_in : (j : ℕ) → j ∈ ys → j ∈ ring
  second_in = Path.second_in w o.grows_1 o.grows_2 paths

  first_once : NoDup xs
  first_once = Path.first_once w o.grows_1 o.grows_2 paths

  second_once : NoDup ys
  second_once = Path.second_once w o.grows_1 o.grows_2 paths

  -- the nodes of the first path, and of both
  abbrev pub done_1 : List ℕ
  done_1 = onto xs []

  abbrev pub done_2 : List ℕ
  done_2 = onto ys done_1

  in_done_1 : (j : ℕ) → j ∈ done_1 → j ∈ xs
  in_done_1 j i = elim (onto→ xs [] j i) [ inl k ↦ k | inr k ↦ absurd k ]

  in_done_2 : (j : ℕ) → j ∈ done_2 → (j ∈ ys) ⊎ (j ∈ xs)
  in_done_2 j i = elim (onto→ ys done_1 j i) [ inl k ↦ inl k | inr k ↦ inr (in_done_1 j k) ]

  pub along_1 : PathGathered t b m ring v x x xs [] v
  along_1 =
      path_gathers w site above xs x x [] v paths.way_1
      (stepped t m ring (inl refl) x xs (Path.side_1 w o.grows_1 o.grows_2 paths)) (λ z i. (first_in z i, first_not_meeting z i, λ k. k)) first_once start

  pub along_2 : PathGathered t b m ring v y y ys done_1 along_1.table
  along_2 =
      path_gathers w site above ys y y done_1 along_1.table paths.way_2
      (stepped t m ring (inl refl) y ys (Path.side_2 w o.grows_1 o.grows_2 paths)) (λ z i. (second_in z i, second_not_meeting z i, λ k. paths.apart z (in_done_1 z k) i)) second_once along_1.gathered

  meeting_left : ¬ (m ∈ done_2)
  meeting_left i = elim (in_done_2 m i) [ inl k ↦ second_not_meeting m k refl | inr k ↦ first_not_meeting m k refl ]

  pub at-meeting : NodeGathered t b ring v m (last_or x xs) (last_or y ys) done_2 along_2.table
  at-meeting =
      node_gathers w site m (last_or x xs) (last_or y ys) done_2 along_2.table along_2.gathered (inl refl) meeting_left
      (Path.below_meeting w o.grows_1 o.grows_2 paths)

  abbrev pub all : Gathered t b ring v (m ∷ done_2) at-meeting.table
  all = at-meeting.gathered

  -- a way up has at most 256 nodes, the meeting node among them
  pub short_1 : length xs < 256
  short_1 = omega (arith, upward_fits t w.full w.core.kind x outer_1 (xs ++ (m ∷ above)) paths.way_1, length-append xs (m ∷ above))

  pub short_2 : length ys < 256
  short_2 = omega (arith, upward_fits t w.full w.core.kind y outer_2 (ys ++ (m ∷ above)) paths.way_2, length-append ys (m ∷ above))

  pub last_1 : (k : ℕ) → 256 ≤ k → last_below k m x x v ≡ last_or x xs
  last_1 k h = last_found w site above xs x x k paths.way_1 (λ z i. (first_in z i, first_not_meeting z i)) (omega (arith, short_1))

  pub last_2 : (k : ℕ) → 256 ≤ k → last_below k m y y v ≡ last_or y ys
  last_2 k h = last_found w site above ys y y k paths.way_2 (λ z i. (second_in z i, second_not_meeting z i)) (omega (arith, short_2))

  pub is_along_1 : (k : ℕ) → 256 ≤ k → moved_up_to k b m x x v ≡ along_1.table
  is_along_1 k h = lists_of_256 k b m x x v ∙ along_1.reached 256 k (omega arith) (omega (arith, short_1))

  pub is_along_2 : (k : ℕ) → 256 ≤ k → moved_up_to k b m y y along_1.table ≡ along_2.table
  is_along_2 k h = lists_of_256 k b m y y along_1.table ∙ along_2.reached 256 k (omega arith) (omega (arith, short_2))

  pub is_gathered : gathered b m x y v ≡ at-meeting.table
  unfolding gathered
  is_gathered = rw (is_along_1 256 (omega arith), is_along_2 256 (omega arith), last_1 256 (omega arith), last_2 256 (omega arith)) (at-meeting.reached 256 (omega arith))

  -- ---- the ring

  fit : (j : ℕ) → j ∈ ring → (j < 256) × (at at-meeting.table j ≡ at t j)
  fit j i = (outer_below t w.full j (tree.outers j i), ring_untouched w site (m ∷ done_2) at-meeting.table all j i)

  pub side_up : RingedUp t b m x xs at-meeting.table
  side_up = ringed-up t b m above xs x at-meeting.table all.taken.full paths.way_1 (λ z i. (fit z (first_in z i), first_not_meeting z i)) first_once

  turned_in : (j : ℕ) → j ∈ (ys ++ (m ∷ [])) → j ∈ ring
  turned_in j i = elim (in_append→ ys (m ∷ []) j i) [ inl k ↦ second_in j k | inr (inl e) ↦ inl e | inr (inr z) ↦ absurd z ]

  not_turned : (j : ℕ) → j ∈ xs → ¬ (j ∈ (ys ++ (m ∷ [])))
  not_turned j i k = elim (in_append→ ys (m ∷ []) j k) [ inl q ↦ paths.apart j i q | inr (inl e) ↦ first_not_meeting j i e | inr (inr z) ↦ z ]

  turned_once : NoDup (ys ++ (m ∷ []))
  turned_once = →nodup_append ys (m ∷ []) second_once (λ z. z, tt) (λ j i. elim [ inl e ↦ second_not_meeting j i e | inr z ↦ z ])

  pub side_down : RingedDown t b m x l y ys side_up.table
  side_down =
      ringed_down t b m above ys x l y side_up.table side_up.full paths.way_2
      (λ z i. let f = fit z (turned_in z i) in (f.0, side_up.other z (λ k. not_turned z k i) ∙ f.1)) second_not_meeting turned_once

  abbrev pub u : Table
  u = side_down.table

  pub is_ringed : ringed b m x y l at-meeting.table ≡ u
  unfolding ringed
  is_ringed = rw (side_up.reached 256 (omega (arith, short_1))) (side_down.reached 256 short_2)

  -- off the ring all is as it was gathered
  late : (j : ℕ) → ¬ (j ∈ ring) → at u j ≡ at at-meeting.table j
  late j d = side_down.other j (λ i. d (turned_in j i)) ∙ side_up.other j (λ i. d (first_in j i))

  up_node : (j : ℕ) → j ∈ xs → at u j ≡ enclosed b (up t j) (at t j).link (at t j)
  up_node j i = side_down.other j (not_turned j i) ∙ side_up.each j i

  link_upward : (j : ℕ) → j ∈ ring → j ≢ m → RightLink t j (at t j).link (up t j)
  link_upward = Path.link_upward w o.grows_1 o.grows_2 paths

  start_in : x ∈ ring
  start_in = go xs refl paths.way_1
    where
      go : (zs : List ℕ) → xs ≡ zs → Chain (up t) x (zs ++ (m ∷ above)) → x ∈ ring
      go [] e c = inl c.0
      go (z ∷ zs) e c = first_in x (rw e (inl c.0))

  ring_node : (j : ℕ) → j ∈ ring → InRing t u b m ring j
  ring_node j i = go i
    where
      turns : j ∈ (ys ++ (m ∷ [])) → InRing t u b m ring j
      turns k =
          turned-each t u b m ring x l y ys above side_down.turned paths.way_2 start_in o.right
          (λ z q. (second_in z q, link_upward z (second_in z q) (second_not_meeting z q))) j k

      climbs : j ∈ xs → InRing t u b m ring j
      climbs k = let d = first_not_meeting j k in record { after = up t j; link = (at t j).link; is = up_node j k; within = tree.upward j (first_in j k) d; right = link_upward j (first_in j k) d }

      go : (j ≡ m) ⊎ (j ∈ onto ys xs) → InRing t u b m ring j
      go (inl e) = turns (in_right ys (m ∷ []) j (inl e))
      go (inr k) = elim (onto→ ys xs j k) [ inl q ↦ turns (in_left ys (m ∷ []) j q) | inr q ↦ climbs q ]

  -- ---- all of it

  done_ring : (j : ℕ) → j ∈ (m ∷ done_2) → j ∈ ring
  done_ring j (inl e) = inl e
  done_ring j (inr i) = elim (in_done_2 j i) [ inl k ↦ second_in j k | inr k ↦ first_in j k ]

  ring_done : (j : ℕ) → j ∈ ring → j ∈ (m ∷ done_2)
  ring_done j (inl e) = inl e
  ring_done j (inr i) = inr (elim (onto→ ys xs j i) [ inl k ↦ →onto ys done_1 j (inl k) | inr k ↦ →onto ys done_1 j (inr (→onto xs [] j (inl k))) ])

  abbrev pub moved-list : List ℕ
  moved-list = all.list

  off_path : (j : ℕ) → j ∈ moved-list → OffPath t ring j
  off_path j i = let q = (all.exact j).0 i in (q.0, done_ring (up t j) q.1, q.2)

  enclosed_self : (s r : Slot) (n : ℕ) (k : Link) → s ≡ enclosed b n k r → s ≡ enclosed b s.sibling s.link r
  enclosed_self s r n k e = rw e

  adopted_self : (s r : Slot) (n : ℕ) → s ≡ with_sibling n (with_parent b r) → s ≡ with_sibling s.sibling (with_parent b r)
  adopted_self s r n e = rw e

  moved_slot : (j : ℕ) → j ∈ moved-list → at u j ≡ with_sibling (next u j) (with_parent b (at t j))
  moved_slot j i =
      let q = off_path j i in
      let r = all.taken.each j i in
      let before : at v j ≡ at t j = in_place.other j (not_new j q.0) (λ e. not_off e q) in
      adopted_self (at u j) (at t j) r.0 (late j q.2 ∙ r.1 ∙ ap (λ (s : Slot). with_sibling r.0 (with_parent b s)) before)
    where
      not_off : j ≡ up t m → ¬ OffPath t ring j
      not_off e q = twice_above t w.full m ring tree (λ z. some_outer t w.full j q.0 (e ∙ z)) (subst (λ (z : ℕ). up t z ∈ ring) e q.1)

  made : Made t u b m ring moved-list
  made =
      record {
        full = side_down.full;
        begin = side_down.counts.begin ∙ side_up.counts.begin ∙ all.taken.counts.begin ∙ in_place.begin;
        defects = side_down.counts.defects ∙ side_up.counts.defects ∙ all.taken.counts.defects ∙ in_place.defects;
        blossoms = side_down.counts.blossoms ∙ side_up.counts.blossoms ∙ all.taken.counts.blossoms ∙ in_place.blossoms;
        slot = refl;
        left = left;
        before = tree;
        exact = λ j. (off_path j, λ q. (all.exact j).1 (q.0, ring_done (up t j) q.1, q.2));
        first = all.taken.first;
        after = next u;
        links = λ j. (at u j).link;
        new = late b new_off ∙ all.taken.here ∙ ap (with_first_child all.taken.first) in_place.here;
        ringed = λ j i. let q = ring_node j i in enclosed_self (at u j) (at t j) q.after q.link q.is;
        adopted = moved_slot;
        placed = above_slot;
        other = λ j p q r e. late j q ∙ all.taken.other j p r ∙ in_place.other j p e;
        list = chain_frame (next at-meeting.table) (next u) all.taken.first moved-list (λ j i. ap (λ (s : Slot). s.sibling) (sym (late j (off_path j i).2))) all.taken.list;
        round = round;
        odd = numbers.0;
        three = numbers.1;
        goes_on = λ j i. let q = ring_node j i in subst (λ (s : Slot). s.sibling ∈ ring) (sym q.is) q.within;
        right = λ j i. let q = ring_node j i in rw (next, q.is) q.right;
      }
    where
      new_off : ¬ (b ∈ ring)
      new_off i = not_new b (tree.outers b i) refl

      above_slot : up t m ≢ none → at u (up t m) ≡ with_first_child b (at t (up t m))
      above_slot has =
          late (up t m) (λ i. not_above (up t m) i refl)
          ∙ all.taken.other (up t m) (parent_place has).0 (λ i. twice_above t w.full m ring tree has (off_path (up t m) i).1)
          ∙ in_place.above has

      numbers : (length ring % 2 ≡ 1) × (3 ≤ length ring)
      numbers = Path.ring_numbers w o.grows_1 o.grows_2 paths o.two

      some_in : (j : ℕ) → j ∈ ring → j ≢ none
      some_in j i = some_outer t w.full j (tree.outers j i)

      round : Chain (next_in_ring u m) m ring
      round =
          round-down t u b m x l ys xs side_down.turned (λ z i. (second_not_meeting z i, some_in z (second_in z i))) (some_in m (inl refl))
          (round_up t u b m x xs above paths.way_1 (λ z i. (ap (λ (s : Slot). s.sibling) (up_node z i), first_not_meeting z i)))

  is_made : (blossom_in_tree x y l t).table ≡ ringed b m x y l (gathered b m x y v)
  unfolding blossom_in_tree read choose create_blossom change ◌then◌ say
  is_made = rw (test_false (lacks_blossom_slot t) slot)

  is_result : (blossom_in_tree x y l t).table ≡ u
  is_result = is_made ∙ ap (ringed b m x y l) is_gathered ∙ is_ringed

  -- what the rule leaves in each slot
  pub blossom_made : Made t (blossom_in_tree x y l t).table b m ring moved-list
  blossom_made = rw is_result made

-- "one tree | make a blossom": a sound table with a slot left stays sound
pub blossom_keeps : (x y : ℕ) (l : Link) (u : Table) → OneTree u x y l → ¬ T (lacks_blossom_slot u) → Whole (blossom_in_tree x y l u).table
blossom_keeps x y l u o slot = made_whole o.whole (blossom_made o slot)
