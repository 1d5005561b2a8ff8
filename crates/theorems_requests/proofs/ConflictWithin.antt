-- A conflict and a virtual conflict stay within every closed set that holds the nodes that they name, and the new blossom's slot
-- where they make one.
use mathlib.Core.Path.{◌≡◌, refl, ap, ap₂, subst, ◌∙◌}
use mathlib.Core.Logic.{◌≢◌, inl, inr}
use mathlib.Core.Bool.{Bool, true, false, ◌&&◌}
use Prim.Native.Nat.{ℕ, suc, ◌+◌, max}
use native.Mathlib.Omega.{arith}
use lib.Dec.{T, eqb, leb}
use Rattle.lists.specs.Choice.{pick}
use Rattle.slot.specs.Number.{none}
use Rattle.slot.specs.Slot.{Link, Slot, mirror, new_node}
use Rattle.table.specs.Table.{Table, at, put}
use Rattle.table.specs.Counts.{with_defects}
use Rattle.table.specs.declared.place.Place.{Place}
use Rattle.table.specs.declared.place.Place.TheVariants as P
use Rattle.table.specs.Place.{place, in_tree}
use Rattle.record.specs.declared.request.Conflict.{Conflict}
use Rattle.record.specs.declared.request.VirtualConflict.{VirtualConflict}
use Rattle.rules.specs.Act.{Act, skip, change, ◌then◌, look, read, choose, same}
use Rattle.rules.specs.Trees.{is_unloaded, loaded, seen, same_tree, meeting}
use Rattle.rules.specs.Matching.{temporary_match, augment_whole_tree}
use Rattle.rules.specs.Blossom.{create_blossom}
use Rattle.rules.specs.Conflict.{conflict_link, blossom_in_tree, trees_meet, row_of, resolved, conflict, freed, virtual_conflict}
use Rattle.rules.specs.Refusals.{makes_blossom}
use Rattle.theorems_soundness.proofs.Reflect.{→and, test_case, test_true, test_false, not↔}
use Rattle.theorems_soundness.specs.RuleFacts.{Whole}
use Rattle.theorems_soundness.proofs.Loading.{load_does}
use Rattle.theorems_requests.proofs.Within.{Alike, Moves, Acted, Acts, moved_none, put_moves, choose_moves, skip_acts, change_acts, then_acts, acted_then, acted_choose, look_acts}
use Rattle.theorems_requests.proofs.ReadingWithin.{unloaded_alike, same_tree_alike, meeting_alike, meeting_in}
use Rattle.theorems_requests.proofs.MatchingWithin.{match_acts, match_virtual_acts, augment_acts, grow_acts, hang_acts}
use Rattle.theorems_requests.proofs.BlossomWithin.{create-acted}

-- ---- a node that is read as in a tree is there already

no_tree : (b c : Bool) (peer : _) → pick b P.Free (pick c P.Virtual (P.Paired peer)) ≡ P.Tree → ⊥
no_tree true c peer e = let z : ◌≡◌ {A = ℕ} 0 1 = cc in omega arith
no_tree false true peer e = let z : ◌≡◌ {A = ℕ} 0 1 = cc in omega arith
no_tree false false peer e = let z : ◌≡◌ {A = ℕ} 0 1 = cc in omega arith

placed_in_tree : (s : Slot) → place s ≡ P.Tree → T (in_tree s)
unfolding place
placed_in_tree s e =
    elim (test_case (in_tree s)) [
      | inl h ↦ h
      | inr h ↦ absurd (no_tree (eqb s.link.touch none) (eqb s.sibling none) (record { 0 = s.sibling }) (rw (test_false (in_tree s) ((not↔ (in_tree s)).0 h)) at e))
    ]

loaded_before : (t : Table) (n : ℕ) → T (in_tree (seen t n)) → loaded n t ≡ t
unfolding loaded choose
loaded_before t n h =
    elim (test_case (is_unloaded t n)) [
      | inl u ↦ absurd (rw (test_true (is_unloaded t n) u) at h)
      | inr d ↦ rw (test_false (is_unloaded t n) ((not↔ (is_unloaded t n)).0 d))
    ]

module _ (S : ℕ → Type 0) (making : Bool) (nothing : S none) where
  -- ---- loading

  new_moves : (n : ℕ) → S n → Moves S making (λ t. with_defects (put t n new_node) (max t.defects (suc n)))
  unfolding with_defects at put
  new_moves n m t u a =
      let r = put_moves S making n new_node m (record { parent = nothing; child = nothing; sibling = nothing }) t u a in
      record {
        alike = record {
          full = r.alike.full;
          full_too = r.alike.full_too;
          closed = record { nothing = nothing; pointers = r.alike.closed.pointers };
          agree = r.alike.agree;
          begin = a.begin;
        };
        off = r.off;
        off_too = r.off_too;
        begin = refl;
        named = suc n;
        defects = refl;
        defects_too = refl;
        given = 0;
        blossoms = omega arith;
        blossoms_too = omega arith;
        unmade = λ _. refl;
      }

  loaded_moves : (n : ℕ) → S n → Moves S making (loaded n)
  unfolding loaded
  loaded_moves n m t u a = rw (← unloaded_alike S t u a n m) (choose_moves S making (is_unloaded t n) _ same (new_moves n m) (moved_none S making) t u a)

  load_acts : (n : ℕ) → S n → Acts S making (change (loaded n))
  load_acts n m = change_acts S making (loaded n) (loaded_moves n m)

  -- ---- one tree or two

  -- what is asked where a blossom is made
  abbrev pub Making : Table → Table → Type 0
  Making t u = T making × S (t.begin + t.blossoms) × (t.blossoms ≡ u.blossoms)

  -- with begin, the count of blossoms and the meeting node as read
  abbrev made : ℕ → ℕ → Link → ℕ → ℕ → ℕ → Act
  made x y l begin count m = choose (leb 256 (begin + count)) skip (create_blossom (begin + count) (count + 1) m x y l)

  made_acted : (x y : ℕ) (l : Link) (m : ℕ) (t u : Table) → Alike S t u → S x → S y → S m → Making t u → Acted S making t u (made x y l t.begin t.blossoms m t) (made x y l t.begin t.blossoms m u)
  made_acted x y l m t u a p q r h =
      acted_choose S making (leb 256 (t.begin + t.blossoms)) skip _ t u (λ _. skip_acts S making t u a)
      (λ _. create-acted S making nothing (t.begin + t.blossoms) m x y l t u a h.0 h.2 h.1 r p q)

  in_tree_acted : (x y : ℕ) (l : Link) (t u : Table) → Alike S t u → S x → S y → Making t u → Acted S making t u (blossom_in_tree x y l t) (blossom_in_tree x y l u)
  unfolding blossom_in_tree read
  in_tree_acted x y l t u a p q h =
      let e : made x y l t.begin t.blossoms (meeting t x y) u ≡ made x y l u.begin u.blossoms (meeting u x y) u =
      ap₂ (λ (b c : ℕ). made x y l b c (meeting t x y) u) a.begin h.2 ∙ ap (λ (m : ℕ). made x y l u.begin u.blossoms m u) (meeting_alike S t u a x y p q) in
      subst (λ (d : _). Acted S making t u (made x y l t.begin t.blossoms (meeting t x y) t) d) e (made_acted x y l (meeting t x y) t u a p q (meeting_in S t u a x y p) h)

  meet_acted : (x y : ℕ) (l : Link) (t u : Table) → Alike S t u → S x → S y → (T (same_tree t x y) → Making t u) → Acted S making t u (trees_meet x y l t) (trees_meet x y l u)
  unfolding trees_meet read
  meet_acted x y l t u a p q h =
      rw (← same_tree_alike S t u a x y p q)
      (acted_choose S making (same_tree t x y) (blossom_in_tree x y l) _ t u (λ s. in_tree_acted x y l t u a p q (h s))
      (λ _.
      then_acts S making (augment_whole_tree x) _ (augment_acts S making nothing x p)
      (then_acts S making (augment_whole_tree y) (temporary_match x l y) (augment_acts S making nothing y q) (match_acts S making nothing x l y p q)) t u a))

  -- ---- the rows

  -- "augment", then match
  augmented_acts : (n a : ℕ) (l : Link) (b : ℕ) → S n → S a → S b → Acts S making (augment_whole_tree n then temporary_match a l b)
  augmented_acts n a l b p q r = then_acts S making (augment_whole_tree n) (temporary_match a l b) (augment_acts S making nothing n p) (match_acts S making nothing a l b q r)

  -- a peer that is read from a slot
  abbrev PeerIn : Place → Type 0
  PeerIn P.Free = Unit {0}
  PeerIn (P.Paired peer) = S peer.0
  PeerIn P.Virtual = Unit {0}
  PeerIn P.Tree = Unit {0}

  peer_in : (s : Slot) → S s.sibling → PeerIn (place s)
  unfolding place
  peer_in s m = go (in_tree s) (eqb s.link.touch none) (eqb s.sibling none)
    where
      go : (a b c : Bool) → PeerIn (pick a P.Tree (pick b P.Free (pick c P.Virtual (P.Paired (record { 0 = s.sibling })))))
      go true b c = tt
      go false true c = tt
      go false false true = tt
      go false false false = m

  row-acted :
      (p q : Place) (x y : ℕ) (l : Link) (t u : Table)
      → PeerIn p
      → PeerIn q
      → Alike S t u
      → S x
      → S y
      → (p ≡ P.Tree → q ≡ P.Tree → T (same_tree t x y) → Making t u)
      → Acted S making t u (row_of p q x y l t) (row_of p q x y l u)
  row-acted P.Free P.Free x y l t u i j a m n h = match_acts S making nothing x l y m n t u a
  row-acted P.Free (P.Paired q) x y l t u i j a m n h = grow_acts S making nothing x (mirror l) y q.0 m n j t u a
  row-acted P.Free P.Virtual x y l t u i j a m n h = match_acts S making nothing x l y m n t u a
  row-acted P.Free P.Tree x y l t u i j a m n h = augmented_acts y x l y n m n t u a
  row-acted (P.Paired p) P.Free x y l t u i j a m n h = grow_acts S making nothing y l x p.0 n m i t u a
  row-acted (P.Paired p) (P.Paired q) x y l t u i j a m n h = skip_acts S making t u a
  row-acted (P.Paired p) P.Virtual x y l t u i j a m n h = skip_acts S making t u a
  row-acted (P.Paired p) P.Tree x y l t u i j a m n h = hang_acts S making nothing y l x p.0 n m i t u a
  row-acted P.Virtual P.Free x y l t u i j a m n h = match_acts S making nothing y (mirror l) x n m t u a
  row-acted P.Virtual (P.Paired q) x y l t u i j a m n h = skip_acts S making t u a
  row-acted P.Virtual P.Virtual x y l t u i j a m n h = skip_acts S making t u a
  row-acted P.Virtual P.Tree x y l t u i j a m n h = augmented_acts y x l y n m n t u a
  row-acted P.Tree P.Free x y l t u i j a m n h = augmented_acts x x l y m m n t u a
  row-acted P.Tree (P.Paired q) x y l t u i j a m n h = hang_acts S making nothing x (mirror l) y q.0 m n j t u a
  row-acted P.Tree P.Virtual x y l t u i j a m n h = augmented_acts x y (mirror l) x m n m t u a
  row-acted P.Tree P.Tree x y l t u i j a m n h = meet_acted x y l t u a m n (h refl refl)

  resolved-acted :
      (x y : ℕ) (l : Link) (t u : Table)
      → Alike S t u
      → S x
      → S y
      → (place (at t x) ≡ P.Tree → place (at t y) ≡ P.Tree → T (same_tree t x y) → Making t u)
      → Acted S making t u (resolved x y l t) (resolved x y l u)
  unfolding resolved look
  resolved-acted x y l t u a m n h =
      rw (← a.agree x m, ← a.agree y n)
      (row-acted (place (at t x)) (place (at t y)) x y l t u (peer_in (at t x) (a.closed.pointers x m).sibling) (peer_in (at t y) (a.closed.pointers y n).sibling) a m n h)

  -- ---- the requests

  -- what is asked of the table as given, on which the checks see one tree
  module _ (t u : Table) (a : Alike S t u) (w : Whole t) where
    pub conflict-acted :
        (c : Conflict)
        → S c.node_1.0
        → S c.node_2.0
        → c.node_1.0 ≢ c.node_2.0
        → (T (makes_blossom t c.node_1.0 c.node_2.0) → Making t u)
        → Acted S making t u (conflict c t) (conflict c u)
    unfolding conflict change
    conflict-acted c m n two h =
        let x = c.node_1.0 in
        let y = c.node_2.0 in
        acted_then S making (change (loaded x)) _ t u (load_acts x m t u a)
        (λ b.
        acted_then S making (change (loaded y)) (resolved x y (conflict_link c)) (loaded x t) (loaded x u) (load_acts y n (loaded x t) (loaded x u) b)
        (λ d. resolved-acted x y (conflict_link c) (loaded y (loaded x t)) (loaded y (loaded x u)) d m n (asked x y two m n h)))
      where
        asked :
            (x y : ℕ)
            → x ≢ y
            → S x
            → S y
            → (T (makes_blossom t x y) → Making t u)
            → place (at (loaded y (loaded x t)) x) ≡ P.Tree
            → place (at (loaded y (loaded x t)) y) ≡ P.Tree
            → T (same_tree (loaded y (loaded x t)) x y)
            → Making (loaded y (loaded x t)) (loaded y (loaded x u))
        asked x y two m n h p q s =
            let first = load_does t x w in
            let second = load_does (loaded x t) y first.whole in
            let tree-x : T (in_tree (seen t x)) = placed_in_tree (seen t x) (rw (second.other x two, first.here) at p) in
            let same-x : loaded x t ≡ t = loaded_before t x tree-x in
            let tree-y : T (in_tree (seen t y)) = placed_in_tree (seen t y) (rw same-x at (rw second.here at q)) in
            let same-y : loaded y (loaded x t) ≡ t = ap (loaded y) same-x ∙ loaded_before t y tree-y in
            let both = →and (in_tree (seen t x) && in_tree (seen t y)) (same_tree t x y) (→and (in_tree (seen t x)) (in_tree (seen t y)) tree-x tree-y) (rw same-y at s) in
            let r = h both in
            let f = loaded_moves x m t u a in
            let g = loaded_moves y n (loaded x t) (loaded x u) f.alike in
            (r.0, rw same-y r.1, omega (arith, r.2, f.blossoms, f.blossoms_too, g.blossoms, g.blossoms_too))

  freed_acts : (p : Place) (n : ℕ) → S n → Acts S making (freed p n)
  freed_acts P.Free n m = skip_acts S making
  freed_acts (P.Paired p) n m = skip_acts S making
  freed_acts P.Virtual n m = skip_acts S making
  freed_acts P.Tree n m = augment_acts S making nothing n m

  pub virtual_acts : (c : VirtualConflict) → S c.node.0 → Acts S making (virtual_conflict c)
  unfolding virtual_conflict
  virtual_acts c m =
      let n = c.node.0 in
      then_acts S making (change (loaded n)) _ (load_acts n m)
      (look_acts S making n _ m
      (λ s i. then_acts S making (freed (place s) n) _ (freed_acts (place s) n m) (match_virtual_acts S making nothing n c.touch.0 c.vertex.0 c.virtual_vertex.0 m)))
