-- On a sound table no budget is used up: with every larger one the rules do and say the same. So the rules, which have budgets to
-- end on any table, are 01's rules, which have none.
use mathlib.Core.Path.{◌≡◌}
use mathlib.Core.Logic.{◌≢◌}
use Prim.Native.Nat.{ℕ, ◌≤◌}
use lib.Dec.{T}
use Rattle.std.specs.Prelude.{Ok}
use Rattle.slot.specs.declared.state.State.TheVariants as S
use Rattle.slot.specs.Number.{none}
use Rattle.slot.specs.Slot.{Link}
use Rattle.table.specs.Table.{Table, at, Full}
use Rattle.table.specs.Nodes.{present, outer}
use Rattle.table.specs.Climb.{inside_within, inside, outer_blossom_within, outer_blossom, second_outer_within, second_outer_blossom}
use Rattle.record.specs.declared.request.Expansion.{Expansion}
use Rattle.record.specs.declared.request.Request.TheVariants as Q
use Rattle.rules.specs.Act.{alter}
use Rattle.rules.specs.Slots.{with_first_child, up, next}
use Rattle.rules.specs.Walk.{walk}
use Rattle.rules.specs.Sound.{sound, children, next_in_ring, ring_of}
use Rattle.rules.specs.Trees.{upward, root_within, root}
use Rattle.rules.specs.Matching.{match_siblings, match_subtree, augment_within, augment_whole_tree}
use Rattle.rules.specs.Expansion.{expansion}
use Rattle.rules.specs.Conflict.{blossom_in_tree}
use Rattle.rules.specs.Calls.{verdict}
use Rattle.theorems_soundness.specs.FactsOfBlossoms.{PresentBlossom}
use Rattle.theorems_soundness.specs.RuleFacts.{OneTree, Below}
use Rattle.theorems_soundness.specs.WithBudgets.{blossom_in_tree_by, expansion_within}
use Rattle.theorems_soundness.proofs.Wholes.{to_whole}
use Rattle.theorems_soundness.proofs.Rows.{second_enough}
use Rattle.theorems_soundness.proofs.TreesInPairs.{augment_budget, siblings_budget, subtree_budget}
use Rattle.theorems_soundness.proofs.MakingBudgets.{budgets_suffice}
use Rattle.theorems_soundness.proofs.ExpansionBudgets.{expansion-budget, second_outer_enough}
use Rattle.theorems_soundness.proofs.ClimbBudgets.{inside_enough, outer_blossom_enough, upward_enough, root_enough, children_enough, ring_enough}

module _ (t : Table) (full : Full t) (s : T (sound t)) where
  -- ---- climbs and walks

  -- "climbing through the parents of inner nodes, at most 256 steps"
  pub inside_budget : (k : ℕ) → 256 ≤ k → (x n : ℕ) → inside_within k t x n ≡ inside t x n
  inside_budget = inside_enough t (to_whole t full s)

  pub outer_blossom_budget : (k : ℕ) → 256 ≤ k → (n : ℕ) → outer_blossom_within k t n ≡ outer_blossom t n
  outer_blossom_budget = outer_blossom_enough t (to_whole t full s)

  pub second_outer_blossom_budget : (k n : ℕ) → 256 ≤ k → T (present t n) → second_outer_within k t n n ≡ second_outer_blossom t n
  second_outer_blossom_budget = second_outer_enough t (to_whole t full s)

  -- ways up, and their roots
  pub upward_budget : (k : ℕ) → 257 ≤ k → (n : ℕ) → T (outer t n) → walk k (up t) n ≡ upward t n
  upward_budget = upward_enough t (to_whole t full s)

  pub root_budget : (k : ℕ) → 256 ≤ k → (n : ℕ) → T (outer t n) → root_within k t n ≡ root t n
  root_budget = root_enough t (to_whole t full s)

  -- child lists and rings
  pub children_budget : (k : ℕ) → 256 ≤ k → (n : ℕ) → T (outer t n) → walk k (next t) (at t n).first_child ≡ children t n
  children_budget = children_enough t (to_whole t full s)

  pub ring_budget : (k : ℕ) → 256 ≤ k → (b : ℕ) → PresentBlossom t b → walk k (next_in_ring t (at t b).ring) (at t b).ring ≡ ring_of t b
  ring_budget = ring_enough t (to_whole t full s)

  -- ---- rules, commands included

  -- augmenting at a + node: k for the steps to the root, m for every list on the way
  pub augmenting_budget : (x : ℕ) → (at t x).state ≡ S.Grow → (k m : ℕ) → 256 ≤ k → 256 ≤ m → augment_within k m x t ≡ augment_within 256 256 x t
  augmenting_budget x g = augment_budget t x (to_whole t full s) g

  -- two trees, "augment at node_1, then node_2": the second, on the table that the first leaves
  pub augmenting-second-budget :
      (x y : ℕ)
      → (at t x).state ≡ S.Grow
      → (at t y).state ≡ S.Grow
      → root t x ≢ root t y
      → (k m : ℕ)
      → 256 ≤ k
      → 256 ≤ m
      → augment_within k m y (augment_whole_tree x t).table ≡ augment_within 256 256 y (augment_whole_tree x t).table
  augmenting-second-budget x y g h d = second_enough t x y (to_whole t full s) g h d

  -- matching the subtrees of a + node's child list
  pub matching-subtrees-budget :
      (x : ℕ)
      → (at t x).state ≡ S.Grow
      → (k : ℕ)
      → 256 ≤ k
      → match_siblings k (at t x).first_child (alter x (with_first_child none) t) ≡ match_siblings 256 (at t x).first_child (alter x (with_first_child none) t)
  matching-subtrees-budget x g = siblings_budget t x (to_whole t full s) g

  -- matching a − node's subtree, on every table u that has the node and all below it as t has them: so too when its turn comes and
  -- the subtrees of the nodes before it on its list are matched
  pub matching-subtree-budget :
      (n : ℕ)
      → (at t n).state ≡ S.Shrink
      → (u : Table)
      → Full u
      → at u n ≡ at t n
      → ((j : ℕ) → Below t n j → at u j ≡ at t j)
      → (k : ℕ)
      → 256 ≤ k
      → match_subtree k n u ≡ match_subtree 256 n u
  matching-subtree-budget n g = subtree_budget t n (to_whole t full s) g

  -- taking a blossom apart, k for every budget
  pub expansion_budget_suffices : (room : ℕ) (e : Expansion) → verdict (Q.Expansion e) t room ≡ Ok tt → (k : ℕ) → 256 ≤ k → expansion_within k e.node.0 t ≡ expansion e.node.0 t
  expansion_budget_suffices room e = expansion-budget t room e (to_whole t full s)

-- making a blossom, k for every budget
pub making_budget : (k : ℕ) → 256 ≤ k → (x y : ℕ) (l : Link) (t : Table) → OneTree t x y l → blossom_in_tree_by k x y l t ≡ blossom_in_tree x y l t
making_budget = budgets_suffice

-- The listing's budget is in EachEventOnce, `listing-budget`. The walks in the tests of soundness need no statement here: SoundFacts
-- has the tests to say the same as facts in which there is no budget.
