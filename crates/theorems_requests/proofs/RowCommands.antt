-- How many commands each row of "What a conflict does" gives, and a virtual conflict, on a sound table.
use mathlib.Core.Path.{◌≡◌, refl}
use mathlib.Core.Logic.{◌≢◌, ◌⊎◌, inl, inr}
use mathlib.Core.Bool.{Bool, true, false, not}
use Prim.Native.Nat.{ℕ, ◌+◌, ◌*◌, ◌≤◌}
use native.Mathlib.Omega.{arith}
use lib.Dec.{T}
use Rattle.slot.specs.declared.state.State.TheVariants as S
use Rattle.slot.specs.Number.{none}
use Rattle.slot.specs.Slot.{Link, mirror}
use Rattle.table.specs.Table.{Table, at}
use Rattle.table.specs.Nodes.{outer}
use Rattle.table.specs.declared.place.Place.{Place}
use Rattle.table.specs.declared.place.Place.TheVariants as P
use Rattle.table.specs.Place.{place}
use Rattle.rules.specs.Act.{Act, skip, say, change, ◌then◌, look, read, choose}
use Rattle.rules.specs.Trees.{root, same_tree, meeting}
use Rattle.rules.specs.Matching.{temporary_match, temporary_match_virtual, augment_whole_tree}
use Rattle.rules.specs.Blossom.{lacks_blossom_slot, create_blossom}
use Rattle.rules.specs.Conflict.{grow_tree, hang_pair, blossom_in_tree, trees_meet, row_of, resolved, freed}
use Rattle.theorems_soundness.proofs.Reflect.{tests, test_case, test_true, test_false, not↔}
use Rattle.theorems_soundness.specs.RuleFacts.{Whole}
use Rattle.theorems_soundness.proofs.WaysUp.{same_tree↔}
use Rattle.theorems_soundness.proofs.Frames.{some_outer}
use Rattle.theorems_soundness.proofs.Cleared.{counts_then}
use Rattle.theorems_soundness.proofs.Trimming.{Aside, counts_back}
use Rattle.theorems_soundness.proofs.Augmented.{Augmented}
use Rattle.theorems_soundness.proofs.WholeTrees.{augment_does, nothing_aside}
use Rattle.theorems_soundness.proofs.Rows.{agree_but, in_tree_of, tree_closed}
use Rattle.theorems_soundness.proofs.Resolving.{Spot, free_spot, virtual_spot, paired_spot, tree_spot, spot}
use Rattle.theorems_requests.proofs.MinusNodes.{minuses, few_minuses}
use Rattle.theorems_requests.proofs.SubtreeCommands.{commands, then_commands, match_commands}
use Rattle.theorems_requests.proofs.AugmentCommands.{tree-pays}

-- ---- one tree is augmented

module _ (t : Table) (x : ℕ) (w : Whole t) (grows : (at t x).state ≡ S.Grow) where
  outer_x : T (outer t x)
  outer_x = rw grows tt

  augment_pays : commands (augment_whole_tree x) t + 4 * minuses (augment_whole_tree x t).table ≤ 4 * minuses t
  augment_pays = tree-pays t x t none w grows (some_outer t w.full x outer_x) (nothing_aside t w.full)

  pub augment_commands : commands (augment_whole_tree x) t ≤ 508
  augment_commands = omega (arith, augment_pays, few_minuses t w x outer_x)

  pub augment_match : (a : ℕ) (l : Link) (b : ℕ) → commands (augment_whole_tree x then temporary_match a l b) t ≤ 510
  augment_match a l b =
      omega (arith, then_commands (augment_whole_tree x) (temporary_match a l b) t, match_commands a l b (augment_whole_tree x t).table, augment_commands)

-- ---- two trees are

module _ (t : Table) (x y : ℕ) (w : Whole t) (grows-x : (at t x).state ≡ S.Grow) (grows-y : (at t y).state ≡ S.Grow) (apart : root t x ≢ root t y) where
  abbrev v₁ : Table
  v₁ = (augment_whole_tree x t).table

  q : Augmented t x t none v₁
  q = augment_does t x w grows-x

  -- the other tree is as it was
  grows_y₁ : (at q.table y).state ≡ S.Grow
  grows_y₁ =
      let o : T (outer t y) = rw grows-y tt in
      rw (q.apart (in_tree_of t y) (tree_closed t w y) (λ h. let r = simp tests at h in apart r.1) y (simp tests (o, refl))) grows-y

  aside : Aside q.table v₁ x
  aside =
      record {
        full = q.full;
        counts = counts_then q.table t v₁ (counts_back t q.table q.same) q.counts;
        agree = agree_but t x v₁ w grows-x q;
        parentless = q.free.parentless;
        childless = q.free.childless;
      }

  other_pays : commands (augment_whole_tree y) v₁ + 4 * minuses (augment_whole_tree y v₁).table ≤ 4 * minuses v₁
  other_pays = tree-pays q.table y v₁ x q.whole grows_y₁ (λ e. apart (rw e)) aside

  two_commands : (l : Link) → commands (augment_whole_tree x then augment_whole_tree y then temporary_match x l y) t ≤ 510
  two_commands l =
      omega (
        arith,
        then_commands (augment_whole_tree x) (augment_whole_tree y then temporary_match x l y) t,
        then_commands (augment_whole_tree y) (temporary_match x l y) v₁,
        match_commands x l y (augment_whole_tree y v₁).table,
        augment_pays t x w grows-x,
        other_pays,
        few_minuses t w x (outer_x t x w grows-x),
      )

-- ---- the other rows

grow_commands : (root : ℕ) (l : Link) (matched peer : ℕ) (t : Table) → commands (grow_tree root l matched peer) t ≡ 3
unfolding grow_tree ◌then◌ say change
grow_commands root l matched peer t = refl

hang_commands : (plus : ℕ) (l : Link) (matched peer : ℕ) (t : Table) → commands (hang_pair plus l matched peer) t ≡ 2
unfolding hang_pair ◌then◌ say change look
hang_commands plus l matched peer t = refl

create_commands : (b given m x y : ℕ) (l : Link) (t : Table) → commands (create_blossom b given m x y l) t ≡ 1
unfolding create_blossom ◌then◌ say change
create_commands b given m x y l t = refl

choose_commands : (b : Bool) (f g : Act) (t : Table) (n : ℕ) → commands f t ≤ n → commands g t ≤ n → commands (choose b f g) t ≤ n
unfolding choose
choose_commands true f g t n p q = p
choose_commands false f g t n p q = q

skip_commands : (t : Table) → commands skip t ≡ 0
unfolding skip
skip_commands t = refl

blossom_commands : (x y : ℕ) (l : Link) (t : Table) → commands (blossom_in_tree x y l) t ≤ 1
unfolding blossom_in_tree read
blossom_commands x y l t =
    let b = t.begin + t.blossoms in
    let m = meeting t x y in
    choose_commands (lacks_blossom_slot t) skip (create_blossom b (t.blossoms + 1) m x y l) t 1 (omega (arith, skip_commands t))
    (omega (arith, create_commands b (t.blossoms + 1) m x y l t))

-- ---- every row

module _ (t : Table) (x y : ℕ) (l : Link) (w : Whole t) where
  meet_commands : (at t x).state ≡ S.Grow → (at t y).state ≡ S.Grow → commands (trees_meet x y l) t ≤ 510
  unfolding trees_meet read choose
  meet_commands gx gy = go (test_case (same_tree t x y))
    where
      o : T (outer t x)
      o = rw gx tt

      go : T (same_tree t x y) ⊎ T (not (same_tree t x y)) → commands (choose (same_tree t x y) (blossom_in_tree x y l) (augment_whole_tree x then augment_whole_tree y then temporary_match x l y)) t ≤ 510
      go (inl e) = rw (test_true (same_tree t x y) e) (omega (arith, blossom_commands x y l t))
      go (inr e) =
          let d = (not↔ (same_tree t x y)).0 e in
          rw (test_false (same_tree t x y) d) (two_commands t x y w gx gy (λ z. d ((same_tree↔ t w.full w.core x y o).1 z)) l)

  row_commands : (p q : Place) → Spot t x p → Spot t y q → commands (row_of p q x y l) t ≤ 510
  row_commands P.Free P.Free (free_spot f) (free_spot g) = omega (arith, match_commands x l y t)
  row_commands P.Free (P.Paired q) (free_spot f) (paired_spot peer g) = omega (arith, grow_commands x (mirror l) y peer t)
  row_commands P.Free P.Virtual (free_spot f) (virtual_spot g) = omega (arith, match_commands x l y t)
  row_commands P.Free P.Tree (free_spot f) (tree_spot g) = augment_match t y w g x l y
  row_commands (P.Paired p) P.Free (paired_spot peer f) (free_spot g) = omega (arith, grow_commands y l x peer t)
  row_commands (P.Paired p) (P.Paired q) (paired_spot peer f) (paired_spot other g) = omega (arith, skip_commands t)
  row_commands (P.Paired p) P.Virtual (paired_spot peer f) (virtual_spot g) = omega (arith, skip_commands t)
  row_commands (P.Paired p) P.Tree (paired_spot peer f) (tree_spot g) = omega (arith, hang_commands y l x peer t)
  row_commands P.Virtual P.Free (virtual_spot f) (free_spot g) = omega (arith, match_commands y (mirror l) x t)
  row_commands P.Virtual (P.Paired q) (virtual_spot f) (paired_spot peer g) = omega (arith, skip_commands t)
  row_commands P.Virtual P.Virtual (virtual_spot f) (virtual_spot g) = omega (arith, skip_commands t)
  row_commands P.Virtual P.Tree (virtual_spot f) (tree_spot g) = augment_match t y w g x l y
  row_commands P.Tree P.Free (tree_spot f) (free_spot g) = augment_match t x w f x l y
  row_commands P.Tree (P.Paired q) (tree_spot f) (paired_spot peer g) = omega (arith, hang_commands x (mirror l) y peer t)
  row_commands P.Tree P.Virtual (tree_spot f) (virtual_spot g) = augment_match t x w f y (mirror l) x
  row_commands P.Tree P.Tree (tree_spot f) (tree_spot g) = meet_commands f g

  -- two outer nodes, neither −
  pub resolved_commands : T (outer t x) → T (outer t y) → (at t x).state ≢ S.Shrink → (at t y).state ≢ S.Shrink → commands (resolved x y l) t ≤ 510
  unfolding resolved look
  resolved_commands ox oy dx dy = row_commands (place (at t x)) (place (at t y)) (spot t w x ox dx) (spot t w y oy dy)

-- ---- a virtual conflict

virtual_match_commands : (n touch vertex virtual : ℕ) (t : Table) → commands (temporary_match_virtual n touch vertex virtual) t ≡ 1
unfolding temporary_match_virtual ◌then◌ say change
virtual_match_commands n touch vertex virtual t = refl

module _ (t : Table) (n : ℕ) (w : Whole t) (grows : (at t n).state ≡ S.Grow) where
  freed_some : (p : Place) → commands (freed p n) t ≤ 508
  freed_some P.Free = omega (arith, skip_commands t)
  freed_some (P.Paired p) = omega (arith, skip_commands t)
  freed_some P.Virtual = omega (arith, skip_commands t)
  freed_some P.Tree = augment_commands t n w grows

  pub freed_commands : (touch vertex virtual : ℕ) (p : Place) → commands (freed p n then temporary_match_virtual n touch vertex virtual) t ≤ 509
  freed_commands touch vertex virtual p =
      omega (
        arith,
        then_commands (freed p n) (temporary_match_virtual n touch vertex virtual) t,
        virtual_match_commands n touch vertex virtual (freed p n t).table,
        freed_some p,
      )
