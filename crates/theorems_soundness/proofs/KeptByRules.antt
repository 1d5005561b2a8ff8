-- A sound table is sound after each rule, each stated with what the rule asks for; and what augmenting leaves.
use mathlib.Core.Path.{◌≡◌}
use mathlib.Core.Logic.{◌≢◌}
use Prim.Native.Nat.{ℕ, ◌≤◌}
use lib.Dec.{T}
use Rattle.slot.specs.declared.state.State.TheVariants as S
use Rattle.slot.specs.Number.{none, no_vertex}
use Rattle.slot.specs.Slot.{Link}
use Rattle.table.specs.Table.{Table, at, Full}
use Rattle.table.specs.Nodes.{outer}
use Rattle.rules.specs.Trees.{is_unloaded, loaded, root}
use Rattle.rules.specs.Matching.{temporary_match, temporary_match_virtual, augment_whole_tree}
use Rattle.rules.specs.Blossom.{lacks_blossom_slot}
use Rattle.rules.specs.Expansion.{expansion}
use Rattle.rules.specs.Conflict.{grow_tree, hang_pair, blossom_in_tree}
use Rattle.theorems_soundness.specs.FactsOfNodes.{Free, Paired}
use Rattle.theorems_soundness.specs.FactsOfBlossoms.{DefectInside}
use Rattle.theorems_soundness.specs.Facts.{Sound}
use Rattle.theorems_soundness.specs.RuleFacts.{Single, Alone, Whole, RightLink, OneTree}
use Rattle.theorems_soundness.proofs.Matches.{match_whole, virtual_whole}
use Rattle.theorems_soundness.proofs.Loading.{load_does}
use Rattle.theorems_soundness.proofs.Hanging.{grow-whole, hang_whole}
use Rattle.theorems_soundness.proofs.TreesInPairs.{tree_paired, node_single, others_same}
use Rattle.theorems_soundness.proofs.Rows.{alone_tree, tree_alone, tree-virtual, two_trees}
use Rattle.theorems_soundness.proofs.Making.{blossom_keeps}
use Rattle.theorems_soundness.proofs.Expanding.{blossom_expanded}

whole : (t : Table) → Full t → Sound t → Whole t
whole t full s = record { full = full; core = s.core; rest = s.rest }

facts : (t : Table) → Whole t → Sound t
facts t w = record { core = w.core; rest = w.rest }

-- ---- the rules, on facts

module _ (t : Table) (full : Full t) (s : Sound t) where
  -- "Match a, b": two nodes, each free or matched to a virtual vertex
  pub match_keeps : (a : ℕ) (l : Link) (b : ℕ) → a ≢ b → Alone t a → Alone t b → RightLink t a l b → Sound (temporary_match a l b t).table
  match_keeps a l b d p q r = facts (temporary_match a l b t).table (match_whole t a l b (whole t full s) d p q r)

  pub match-virtual-keeps :
      (n touch vertex virtual : ℕ)
      → Alone t n
      → DefectInside t n touch
      → touch ≢ none
      → vertex ≢ no_vertex
      → virtual ≢ no_vertex
      → Sound (temporary_match_virtual n touch vertex virtual t).table
  match-virtual-keeps n touch vertex virtual a i d e f = facts (temporary_match_virtual n touch vertex virtual t).table (virtual_whole t n touch vertex virtual (whole t full s) a i d e f)

  -- loading, whether or not there is something to do
  pub load_keeps : (n : ℕ) → Sound (loaded n t)
  load_keeps n = facts (loaded n t) (load_does t n (whole t full s)).whole

  pub load_frees : (n : ℕ) → T (is_unloaded t n) → Free (at (loaded n t) n)
  load_frees n = (load_does t n (whole t full s)).free

  -- "free, matched to peer"
  pub grow_keeps : (root : ℕ) (l : Link) (matched peer : ℕ) → Free (at t root) → Paired t matched peer → RightLink t matched l root → Sound (grow_tree root l matched peer t).table
  grow_keeps root l matched peer f p r = facts (grow_tree root l matched peer t).table (grow-whole t root l matched peer (whole t full s) f p r)

  -- "tree +, matched to peer"
  pub hang_keeps : (plus : ℕ) (l : Link) (matched peer : ℕ) → (at t plus).state ≡ S.Grow → Paired t matched peer → RightLink t matched l plus → Sound (hang_pair plus l matched peer t).table
  hang_keeps plus l matched peer g p r = facts (hang_pair plus l matched peer t).table (hang_whole t plus l matched peer (whole t full s) g p r)

  -- "free, tree +" and "tree +, matched to virtual", the node without a peer first or second
  pub alone-tree-keeps :
      (f x : ℕ) (l : Link)
      → Alone t f
      → (at t x).state ≡ S.Grow
      → f ≢ x
      → RightLink t f l x
      → Sound (temporary_match f l x (augment_whole_tree x t).table).table
  alone-tree-keeps f x l a g d r = facts (temporary_match f l x (augment_whole_tree x t).table).table (alone_tree t f x l (whole t full s) a g d r)

  pub tree-alone-keeps :
      (f x : ℕ) (l : Link)
      → Alone t f
      → (at t x).state ≡ S.Grow
      → f ≢ x
      → RightLink t x l f
      → Sound (temporary_match x l f (augment_whole_tree x t).table).table
  tree-alone-keeps f x l a g d r = facts (temporary_match x l f (augment_whole_tree x t).table).table (tree_alone t f x l (whole t full s) a g d r)

  -- "two trees"
  pub two-trees-keeps :
      (x y : ℕ) (l : Link)
      → (at t x).state ≡ S.Grow
      → (at t y).state ≡ S.Grow
      → root t x ≢ root t y
      → RightLink t x l y
      → Sound (temporary_match x l y (augment_whole_tree y (augment_whole_tree x t).table).table).table
  two-trees-keeps x y l g h d r = facts (temporary_match x l y (augment_whole_tree y (augment_whole_tree x t).table).table).table (two_trees t x y (whole t full s) g h d l r)

  -- a virtual conflict at a tree's + node
  pub tree-virtual-keeps :
      (x touch vertex virtual : ℕ)
      → (at t x).state ≡ S.Grow
      → DefectInside t x touch
      → touch ≢ none
      → vertex ≢ no_vertex
      → virtual ≢ no_vertex
      → Sound (temporary_match_virtual x touch vertex virtual (augment_whole_tree x t).table).table
  tree-virtual-keeps x touch vertex virtual g i d e f = facts (temporary_match_virtual x touch vertex virtual (augment_whole_tree x t).table).table (tree-virtual t x touch vertex virtual (whole t full s) g i d e f)

  -- "one tree | make a blossom", where a slot is left
  pub making_keeps : (x y : ℕ) (l : Link) → OneTree t x y l → ¬ T (lacks_blossom_slot t) → Sound (blossom_in_tree x y l t).table
  making_keeps x y l o d = facts (blossom_in_tree x y l t).table (blossom_keeps x y l t o d)

  -- a − blossom taken apart
  pub taking_apart_keeps : (b : ℕ) → t.begin ≤ b → (at t b).state ≡ S.Shrink → Sound (expansion b t).table
  taking_apart_keeps b l e = facts (expansion b t).table (blossom_expanded t (whole t full s) b l e)

-- ---- augmenting at a Grow node: "each listed − node matches its subtree", up to the root

module _ (t : Table) (full : Full t) (s : Sound t) (x : ℕ) (grows : (at t x).state ≡ S.Grow) where
  -- every other node of the tree ends in a pair
  pub augmented_pairs : (j : ℕ) → T (outer t j) → root t j ≡ root t x → j ≢ x → (peer : ℕ) × Paired (augment_whole_tree x t).table j peer
  augmented_pairs = tree_paired t x (whole t full s) grows

  -- the node itself ends with neither parent nor child; its sibling and link are not cleared
  pub augmented_node : Single (augment_whole_tree x t).table x
  augmented_node = node_single t x (whole t full s) grows

  -- no node of another tree, no other pair and no other single node is touched
  pub augmented_others : (j : ℕ) → T (outer t j) → root t j ≢ root t x → at (augment_whole_tree x t).table j ≡ at t j
  augmented_others = others_same t x (whole t full s) grows
