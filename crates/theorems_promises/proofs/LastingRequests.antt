-- The rules of a conflict and of a virtual conflict leave every present slot present, and the defects that they name are present
-- afterwards.
use mathlib.Core.Logic.{inl, inr}
use Prim.Native.Nat.{ℕ, suc, ◌+◌, max, ◌<◌}
use native.Mathlib.Omega.{arith}
use lib.Dec.{T}
use Rattle.slot.specs.State.{is_present}
use Rattle.slot.specs.Slot.{Link, mirror, new_node}
use Rattle.table.specs.Table.{Table, at, put}
use Rattle.table.specs.Counts.{with_defects}
use Rattle.table.specs.Nodes.{is_defect, present}
use Rattle.table.specs.declared.place.Place.{Place}
use Rattle.table.specs.declared.place.Place.TheVariants as P
use Rattle.table.specs.Place.{place}
use Rattle.record.specs.declared.request.Conflict.{Conflict}
use Rattle.record.specs.declared.request.VirtualConflict.{VirtualConflict}
use Rattle.rules.specs.Act.{Act, skip, change, ◌then◌, look, same}
use Rattle.rules.specs.Trees.{is_unloaded, loaded, seen, same_tree, meeting}
use Rattle.rules.specs.Matching.{temporary_match, temporary_match_virtual, augment_whole_tree}
use Rattle.rules.specs.Blossom.{lacks_blossom_slot}
use Rattle.rules.specs.Conflict.{conflict_link, blossom_in_tree, trees_meet, row_of, resolved, conflict, freed, virtual_conflict}
use Rattle.theorems_soundness.proofs.Reflect.{→and, test_case, test_true, test_false, not↔, ltb↔}
use Rattle.theorems_soundness.specs.RuleFacts.{Whole}
use Rattle.theorems_soundness.proofs.Loading.{load_does}
use Rattle.theorems_promises.proofs.Lasting.{Has, Lasts, ActLasts, put_lasts, same_lasts, choose_lasts, skip_lasts, change_lasts, then_lasts, look_lasts, read_lasts, either_lasts, match_lasts, match_virtual_lasts, augment_lasts, grow_lasts, hang_lasts}
use Rattle.theorems_promises.proofs.LastingBlossom.{create_lasts}

module _ (j : ℕ) where
  -- ---- loading

  new_lasts : (n : ℕ) → Lasts j (λ t. with_defects (put t n new_node) (max t.defects (suc n)))
  unfolding with_defects at
  new_lasts n t h = let r = put_lasts j n new_node (λ e. tt) t h in record { full = r.full; there = r.there }

  loaded_lasts : (n : ℕ) → Lasts j (loaded n)
  unfolding loaded
  loaded_lasts n t h = choose_lasts j (is_unloaded t n) _ same (new_lasts n) (same_lasts j) t h

  load_lasts : (n : ℕ) → ActLasts j (change (loaded n))
  load_lasts n = change_lasts j (loaded n) (loaded_lasts n)

  -- ---- the rows

  blossom_lasts : (x y : ℕ) (l : Link) → ActLasts j (blossom_in_tree x y l)
  unfolding blossom_in_tree
  blossom_lasts x y l =
      read_lasts j _ (λ t. either_lasts j (lacks_blossom_slot t) skip _ (skip_lasts j) (create_lasts j (t.begin + t.blossoms) (t.blossoms + 1) (meeting t x y) x y l))

  -- "augment", then match
  augmented_lasts : (n a : ℕ) (l : Link) (b : ℕ) → ActLasts j (augment_whole_tree n then temporary_match a l b)
  augmented_lasts n a l b = then_lasts j (augment_whole_tree n) (temporary_match a l b) (augment_lasts j n) (match_lasts j a l b)

  meet_lasts : (x y : ℕ) (l : Link) → ActLasts j (trees_meet x y l)
  unfolding trees_meet
  meet_lasts x y l =
      read_lasts j _
      (λ t. either_lasts j (same_tree t x y) (blossom_in_tree x y l) _ (blossom_lasts x y l) (then_lasts j (augment_whole_tree x) _ (augment_lasts j x) (augmented_lasts y x l y)))

  row_lasts : (p q : Place) (x y : ℕ) (l : Link) → ActLasts j (row_of p q x y l)
  row_lasts P.Free P.Free x y l = match_lasts j x l y
  row_lasts P.Free (P.Paired q) x y l = grow_lasts j x (mirror l) y q.0
  row_lasts P.Free P.Virtual x y l = match_lasts j x l y
  row_lasts P.Free P.Tree x y l = augmented_lasts y x l y
  row_lasts (P.Paired p) P.Free x y l = grow_lasts j y l x p.0
  row_lasts (P.Paired p) (P.Paired q) x y l = skip_lasts j
  row_lasts (P.Paired p) P.Virtual x y l = skip_lasts j
  row_lasts (P.Paired p) P.Tree x y l = hang_lasts j y l x p.0
  row_lasts P.Virtual P.Free x y l = match_lasts j y (mirror l) x
  row_lasts P.Virtual (P.Paired q) x y l = skip_lasts j
  row_lasts P.Virtual P.Virtual x y l = skip_lasts j
  row_lasts P.Virtual P.Tree x y l = augmented_lasts y x l y
  row_lasts P.Tree P.Free x y l = augmented_lasts x x l y
  row_lasts P.Tree (P.Paired q) x y l = hang_lasts j x (mirror l) y q.0
  row_lasts P.Tree P.Virtual x y l = augmented_lasts x y (mirror l) x
  row_lasts P.Tree P.Tree x y l = meet_lasts x y l

  -- ---- the requests, once their nodes are loaded

  resolved_lasts : (x y : ℕ) (l : Link) → ActLasts j (resolved x y l)
  unfolding resolved
  resolved_lasts x y l = look_lasts j x _ (λ s. look_lasts j y _ (λ r. row_lasts (place s) (place r) x y l))

  freed_lasts : (p : Place) (n : ℕ) → ActLasts j (freed p n)
  freed_lasts P.Free n = skip_lasts j
  freed_lasts (P.Paired p) n = skip_lasts j
  freed_lasts P.Virtual n = skip_lasts j
  freed_lasts P.Tree n = augment_lasts j n

  -- what a virtual conflict does at its node
  abbrev bordered : VirtualConflict → Act
  bordered c =
      look c.node.0
      λ s. freed (place s) c.node.0
      then temporary_match_virtual c.node.0 c.touch.0 c.vertex.0 c.virtual_vertex.0

  bordered_lasts : (c : VirtualConflict) → ActLasts j (bordered c)
  bordered_lasts c =
      let n = c.node.0 in
      look_lasts j n _ (λ s. then_lasts j (freed (place s) n) _ (freed_lasts (place s) n) (match_virtual_lasts j n c.touch.0 c.vertex.0 c.virtual_vertex.0))

  -- ---- the requests

  pub conflict_lasts : (c : Conflict) → ActLasts j (conflict c)
  unfolding conflict
  conflict_lasts c =
      let x = c.node_1.0 in
      let y = c.node_2.0 in
      then_lasts j (change (loaded x)) _ (load_lasts x) (then_lasts j (change (loaded y)) (resolved x y (conflict_link c)) (load_lasts y) (resolved_lasts x y (conflict_link c)))

  pub virtual_lasts : (c : VirtualConflict) → ActLasts j (virtual_conflict c)
  unfolding virtual_conflict
  virtual_lasts c = then_lasts j (change (loaded c.node.0)) (bordered c) (load_lasts c.node.0) (bordered_lasts c)

-- ---- the nodes named

-- a defect is seen as present, loaded or not
seen-present : (t : Table) (n : ℕ) → n < t.begin → T (is_present (seen t n).state)
seen-present t n l =
    elim (test_case (is_unloaded t n)) [
      | inl u ↦ rw (test_true (is_unloaded t n) u) tt
      | inr d ↦ rw (test_false (is_unloaded t n) ((not↔ (is_unloaded t n)).0 d)) (go ((not↔ (is_unloaded t n)).0 d))
    ]
  where
    go : ¬ T (is_unloaded t n) → T (present t n)
    go d = elim (test_case (present t n)) [ inl p ↦ p | inr e ↦ absurd (d (→and (is_defect t n) _ ((ltb↔ n t.begin).1 l) e)) ]

loaded_has : (t : Table) → Whole t → (n : ℕ) → n < t.begin → Has n (loaded n t)
loaded_has t w n l = let r = load_does t n w in record { full = r.whole.full; there = rw r.here (seen-present t n l) }

module _ (t : Table) (w : Whole t) where
  pub first_has : (c : Conflict) → c.node_1.0 < t.begin → Has c.node_1.0 (conflict c t).table
  unfolding conflict change ◌then◌
  first_has c l =
      let x = c.node_1.0 in
      let y = c.node_2.0 in
      resolved_lasts x x y (conflict_link c) (loaded y (loaded x t)) (loaded_lasts x y (loaded x t) (loaded_has t w x l))

  pub second_has : (c : Conflict) → c.node_2.0 < t.begin → Has c.node_2.0 (conflict c t).table
  unfolding conflict change ◌then◌
  second_has c l =
      let x = c.node_1.0 in
      let y = c.node_2.0 in
      let r = load_does t x w in
      resolved_lasts y x y (conflict_link c) (loaded y (loaded x t)) (loaded_has (loaded x t) r.whole y (omega (arith, r.kept.begin)))

  pub virtual_has : (c : VirtualConflict) → c.node.0 < t.begin → Has c.node.0 (virtual_conflict c t).table
  unfolding virtual_conflict change ◌then◌
  virtual_has c l = let n = c.node.0 in bordered_lasts n c (loaded n t) (loaded_has t w n l)
