-- Augmenting at a + node of a sound table: which slots end how, and that the budget of 256 suffices.
use mathlib.Core.Path.{◌≡◌, refl, sym, ◌∙◌}
use mathlib.Core.Logic.{◌≢◌}
use Prim.Native.Nat.{ℕ, ◌≤◌}
use native.Mathlib.Omega.{arith}
use lib.Dec.{T}
use Rattle.slot.specs.declared.state.State.TheVariants as S
use Rattle.slot.specs.Number.{none}
use Rattle.table.specs.Table.{Table, at, put, Full}
use Rattle.table.proofs.TableLaws.{at-put_other, put_full}
use Rattle.table.specs.Nodes.{outer}
use Rattle.rules.specs.Act.{Act, ◌then◌, look, alter}
use Rattle.rules.specs.Slots.{with_first_child}
use Rattle.rules.specs.Trees.{root}
use Rattle.rules.specs.Matching.{temporary_match, subtree, match_siblings, match_subtree, augment_within, augment_whole_tree}
use Rattle.theorems_soundness.specs.FactsOfNodes.{Paired, OuterChild}
use Rattle.theorems_soundness.proofs.Reflect.{tests}
use Rattle.theorems_soundness.proofs.ReflectSlots.{stay_grow}
use Rattle.theorems_soundness.proofs.ChildLaws.{first_child_lem, child_of_shrink, shrink_is_minus}
use Rattle.theorems_soundness.specs.RuleFacts.{Single, Whole, Below}
use Rattle.theorems_soundness.proofs.Frames.{some_outer}
use Rattle.theorems_soundness.proofs.Matches.{match_other, match_full, paired_frame}
use Rattle.theorems_soundness.proofs.Below.{below_child, below_join, not_below_self, tied_most}
use Rattle.theorems_soundness.proofs.Subtrees.{then_same, siblings_alike}
use Rattle.theorems_soundness.proofs.Cleared.{Task}
use Rattle.theorems_soundness.proofs.Augmented.{Augmented}
use Rattle.theorems_soundness.proofs.WholeTrees.{augment_does, augment-enough, nothing_aside}
use Rattle.theorems_soundness.proofs.Rows.{agree_but, in_tree_of, tree_closed}

module _ (t : Table) (x : ℕ) (w : Whole t) (grows : (at t x).state ≡ S.Grow) where
  abbrev v : Table
  v = (augment_whole_tree x t).table

  q : Augmented t x t none v
  q = augment_does t x w grows

  outer_x : T (outer t x)
  outer_x = rw grows tt

  -- every other node of the tree ends in a pair
  pub tree_paired : (j : ℕ) → T (outer t j) → root t j ≡ root t x → j ≢ x → (peer : ℕ) × Paired v j peer
  tree_paired j o e d =
      let m = q.mates j o e d in
      let f : m.0 ≢ x = λ z. stay_grow m.1.there.stays (rw z q.free.grows) in
      (m.0, paired_frame q.table v j m.0 (agree_but t x v w grows q j d) (agree_but t x v w grows q m.0 f) m.1)

  -- the node itself has neither parent nor child
  pub node_single : Single v x
  node_single = q.single

  -- no other tree, pair or single node is touched
  pub others_same : (j : ℕ) → T (outer t j) → root t j ≢ root t x → at v j ≡ at t j
  others_same j o d =
      let f : j ≢ x = λ e. d (rw e) in
      agree_but t x v w grows q j f
      ∙ q.apart (in_tree_of t j) (tree_closed t w j) (λ h. let r = simp tests at h in d (sym r.1)) j (simp tests (o, refl))

  -- every budget of 256 or more does the same
  pub augment_budget : (k left : ℕ) → 256 ≤ k → 256 ≤ left → augment_within k left x t ≡ augment_within 256 256 x t
  augment_budget = augment-enough t x t none w grows (some_outer t w.full x outer_x) (nothing_aside t w.full)

  pub siblings_budget : (k : ℕ) → 256 ≤ k → match_siblings k (at t x).first_child (alter x (with_first_child none) t) ≡ match_siblings 256 (at t x).first_child (alter x (with_first_child none) t)
  unfolding alter
  siblings_budget k l =
      siblings_alike k 256 t x (alter x (with_first_child none) t) (record { whole = w; grows = grows; full = put_full t x (with_first_child none (at t x)) w.full; agree = agree }) (omega (arith, tied_most t)) (tied_most t)
    where
      agree : (j : ℕ) → Below t x j → at (put t x (with_first_child none (at t x))) j ≡ at t j
      agree j b = at-put_other t x j (with_first_child none (at t x)) (λ e. not_below_self t w.full w.core x (rw e at b))

-- a − node n with its child c, matched in a table u that has n and all below it as t has them
module _ (t : Table) (n : ℕ) (w : Whole t) (shrinks : (at t n).state ≡ S.Shrink) (u : Table) (full : Full u) (here : at u n ≡ at t n) (below : (j : ℕ) → Below t n j → at u j ≡ at t j) where
  abbrev c : ℕ
  c = (at t n).first_child

  outer_n : T (outer t n)
  outer_n = rw shrinks tt

  child : OuterChild t n c
  child = first_child_lem t w.full w.core n outer_n (shrink_is_minus t w.full w.core n shrinks).has_child

  abbrev pair : Act
  pair = temporary_match c (at t c).link n

  below_c : (j : ℕ) → Below t c j → at (pair u).table j ≡ at t j
  below_c j b =
      let under = below_join t n c j (below_child t n c child) b in
      match_other u c (at t c).link n j (λ e. not_below_self t w.full w.core c (rw e at b)) (λ e. not_below_self t w.full w.core n (rw e at under)) ∙ below j under

  task : Task t c (pair u).table
  task =
      record {
        whole = w;
        grows = (child_of_shrink t w.full w.core n c outer_n shrinks child).grows;
        full = match_full u c (at t c).link n full;
        agree = below_c;
      }

  subtree_rule : (k : ℕ) → match_subtree k n u ≡ (pair then match_siblings k (at t c).first_child) u
  unfolding match_subtree subtree look
  subtree_rule k = rw (here, below c (below_child t n c child))

  pub subtree_budget : (k : ℕ) → 256 ≤ k → match_subtree k n u ≡ match_subtree 256 n u
  subtree_budget k large =
      subtree_rule k
      ∙ then_same pair pair (match_siblings k (at t c).first_child) (match_siblings 256 (at t c).first_child) u refl (siblings_alike k 256 t c (pair u).table task (omega (arith, tied_most t)) (tied_most t))
      ∙ sym (subtree_rule 256)
