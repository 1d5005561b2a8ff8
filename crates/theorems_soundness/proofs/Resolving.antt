-- A conflict of two loaded nodes, and a virtual conflict of one, on a sound table: by the place of each node, the row that applies
-- keeps the table sound. For the row of one tree, which makes a blossom, that is asked for.
use mathlib.Core.Path.{◌≡◌, refl, sym}
use mathlib.Core.Logic.{◌≢◌, ◌⊎◌, inl, inr}
use mathlib.Core.Bool.{true, false, not}
use Prim.Native.Nat.{ℕ}
use lib.Dec.{T}
use Rattle.slot.specs.declared.state.State.TheVariants as S
use Rattle.slot.specs.Number.{none, no_vertex}
use Rattle.slot.specs.Slot.{Link, mirror}
use Rattle.table.specs.Table.{Table, at, Full}
use Rattle.table.specs.Nodes.{outer}
use Rattle.table.specs.declared.place.Place.{Place}
use Rattle.table.specs.declared.place.Place.TheVariants as P
use Rattle.table.specs.Place.{place}
use Rattle.rules.specs.Act.{skip, ◌then◌, look, read, choose}
use Rattle.rules.specs.Slots.{next}
use Rattle.rules.specs.Trees.{root, same_tree}
use Rattle.rules.specs.Matching.{temporary_match, temporary_match_virtual, augment_whole_tree}
use Rattle.rules.specs.Conflict.{blossom_in_tree, trees_meet, row_of, resolved, freed}
use Rattle.theorems_soundness.specs.FactsOfNodes.{Free, Virtual, Paired, Kind, free_node, virtual_node, paired_node, root_node, minus_node, plus_node}
use Rattle.theorems_soundness.specs.FactsOfBlossoms.{DefectInside}
use Rattle.theorems_soundness.proofs.Reflect.{test_case, test_true, test_false, not↔}
use Rattle.theorems_soundness.proofs.ReflectSlots.{stay_grow}
use Rattle.theorems_soundness.proofs.KindLaws.{kind_place_lem}
use Rattle.theorems_soundness.specs.RuleFacts.{alone_free, alone_virtual, Whole, RightLink, OneTree}
use Rattle.theorems_soundness.proofs.WaysUp.{same_tree↔}
use Rattle.theorems_soundness.proofs.Matches.{right_mirror, match_whole, virtual_whole}
use Rattle.theorems_soundness.proofs.Hanging.{hang_whole, grow-whole}
use Rattle.theorems_soundness.proofs.Rows.{alone_tree, tree_alone, tree-virtual, two_trees}

-- what a node that is not − is, by the conflict table's word for it
pub data Spot (t : Table) (n : ℕ) : Place → Type 0 where
  free_spot : Free (at t n) → Spot t n P.Free
  virtual_spot : Virtual (at t n) → Spot t n P.Virtual
  paired_spot : (peer : ℕ) → Paired t n peer → Spot t n (P.Paired (record { 0 = peer }))
  tree_spot : (at t n).state ≡ S.Grow → Spot t n P.Tree

kind_spot : (t : Table) (n : ℕ) → Full t → (at t n).state ≢ S.Shrink → (k : Kind t n) → Spot t n (place (at t n))
kind_spot t n full d (free_node f) = rw (kind_place_lem t full n (free_node f)) (free_spot f)
kind_spot t n full d (virtual_node v) = rw (kind_place_lem t full n (virtual_node v)) (virtual_spot v)
kind_spot t n full d (paired_node p) = rw (kind_place_lem t full n (paired_node p)) (paired_spot (next t n) p)
kind_spot t n full d (root_node r) = rw (kind_place_lem t full n (root_node r)) (tree_spot r.grows)
kind_spot t n full d (minus_node m) = absurd (d m.shrinks)
kind_spot t n full d (plus_node p) = rw (kind_place_lem t full n (plus_node p)) (tree_spot p.grows)

pub spot : (t : Table) → Whole t → (n : ℕ) → T (outer t n) → (at t n).state ≢ S.Shrink → Spot t n (place (at t n))
spot t w n o d = kind_spot t n w.full d (w.core.kind n o)

-- ---- the rows

meet-table :
    (x y : ℕ) (l : Link) (t : Table)
    → same_tree t x y ≡ false
    → (trees_meet x y l t).table ≡ (temporary_match x l y (augment_whole_tree y (augment_whole_tree x t).table).table).table
unfolding trees_meet read choose ◌then◌
meet-table x y l t e = rw e

one_table : (x y : ℕ) (l : Link) (t : Table) → same_tree t x y ≡ true → (trees_meet x y l t).table ≡ (blossom_in_tree x y l t).table
unfolding trees_meet read choose
one_table x y l t e = rw e

module _ (t : Table) (x y : ℕ) (l : Link) (w : Whole t) (x≢y : x ≢ y) (right : RightLink t x l y) where
  y≢x : y ≢ x
  y≢x e = x≢y (sym e)

  back : RightLink t y (mirror l) x
  back = right_mirror t x l y right

  apart : T (outer t x) → ¬ T (same_tree t x y) → root t x ≢ root t y
  apart o d e = d ((same_tree↔ t w.full w.core x y o).1 e)

  meet_whole : (at t x).state ≡ S.Grow → (at t y).state ≡ S.Grow → (T (same_tree t x y) → Whole (blossom_in_tree x y l t).table) → Whole (trees_meet x y l t).table
  meet_whole gx gy h = go (test_case (same_tree t x y))
    where
      go : T (same_tree t x y) ⊎ T (not (same_tree t x y)) → Whole (trees_meet x y l t).table
      go (inl e) = rw (one_table x y l t (test_true (same_tree t x y) e)) (h e)
      go (inr e) =
          let d = (not↔ (same_tree t x y)).0 e in
          rw (meet-table x y l t (test_false (same_tree t x y) d)) (two_trees t x y w gx gy (apart (rw gx tt) d) l right)

  row_whole : (p q : Place) → Spot t x p → Spot t y q → (p ≡ P.Tree → q ≡ P.Tree → (at t x).state ≡ S.Grow → (at t y).state ≡ S.Grow → T (same_tree t x y) → Whole (blossom_in_tree x y l t).table) → Whole (row_of p q x y l t).table
  unfolding skip ◌then◌
  row_whole P.Free P.Free (free_spot f) (free_spot g) h = match_whole t x l y w x≢y (alone_free f) (alone_free g) right
  row_whole P.Free (P.Paired q) (free_spot f) (paired_spot peer g) h = grow-whole t x (mirror l) y peer w f g back
  row_whole P.Free P.Virtual (free_spot f) (virtual_spot g) h = match_whole t x l y w x≢y (alone_free f) (alone_virtual g) right
  row_whole P.Free P.Tree (free_spot f) (tree_spot g) h = alone_tree t x y l w (alone_free f) g x≢y right
  row_whole (P.Paired p) P.Free (paired_spot peer f) (free_spot g) h = grow-whole t y l x peer w g f right
  row_whole (P.Paired p) (P.Paired q) (paired_spot peer f) (paired_spot other g) h = w
  row_whole (P.Paired p) P.Virtual (paired_spot peer f) (virtual_spot g) h = w
  row_whole (P.Paired p) P.Tree (paired_spot peer f) (tree_spot g) h = hang_whole t y l x peer w g f right
  row_whole P.Virtual P.Free (virtual_spot f) (free_spot g) h = match_whole t y (mirror l) x w y≢x (alone_free g) (alone_virtual f) back
  row_whole P.Virtual (P.Paired q) (virtual_spot f) (paired_spot peer g) h = w
  row_whole P.Virtual P.Virtual (virtual_spot f) (virtual_spot g) h = w
  row_whole P.Virtual P.Tree (virtual_spot f) (tree_spot g) h = alone_tree t x y l w (alone_virtual f) g x≢y right
  row_whole P.Tree P.Free (tree_spot f) (free_spot g) h = tree_alone t y x l w (alone_free g) f y≢x right
  row_whole P.Tree (P.Paired q) (tree_spot f) (paired_spot peer g) h = hang_whole t x (mirror l) y peer w f g back
  row_whole P.Tree P.Virtual (tree_spot f) (virtual_spot g) h = alone_tree t y x (mirror l) w (alone_virtual g) f y≢x back
  row_whole P.Tree P.Tree (tree_spot f) (tree_spot g) h = meet_whole f g (h refl refl f g)

  -- two outer nodes, neither −
  pub resolved-whole :
      T (outer t x)
      → T (outer t y)
      → (at t x).state ≢ S.Shrink
      → (at t y).state ≢ S.Shrink
      → (OneTree t x y l → Whole (blossom_in_tree x y l t).table)
      → Whole (resolved x y l t).table
  unfolding resolved look
  resolved-whole ox oy dx dy h =
      row_whole (place (at t x)) (place (at t y)) (spot t w x ox dx) (spot t w y oy dy)
      (λ p q gx gy e. h (record { whole = w; two = x≢y; right = right; grows_1 = gx; grows_2 = gy; place_1 = p; place_2 = q; same = e }))

-- ---- a virtual conflict

module _ (t : Table) (n touch vertex virtual : ℕ) (w : Whole t) (grows : (at t n).state ≡ S.Grow) (inside : DefectInside t n touch) (some : touch ≢ none) (has-vertex : vertex ≢ no_vertex) (has-virtual : virtual ≢ no_vertex) where
  pub freed_whole : (p : Place) → Spot t n p → Whole ((freed p n then temporary_match_virtual n touch vertex virtual) t).table
  unfolding skip ◌then◌
  freed_whole P.Free (free_spot f) = virtual_whole t n touch vertex virtual w (alone_free f) inside some has-vertex has-virtual
  freed_whole (P.Paired p) (paired_spot peer f) = absurd (stay_grow f.here.stays grows)
  freed_whole P.Virtual (virtual_spot f) = absurd (stay_grow f.stays grows)
  freed_whole P.Tree (tree_spot f) = tree-virtual t n touch vertex virtual w grows inside some has-vertex has-virtual
