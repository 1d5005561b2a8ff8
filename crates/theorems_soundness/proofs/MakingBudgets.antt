-- The budgets of making a blossom suffice: with any larger one for all its walks the rule does the same.
use mathlib.Core.Path.{◌≡◌, refl, ap, ap₂, sym, ◌∙◌}
use mathlib.Core.Logic.{◌≢◌, inl, inr}
use mathlib.Core.List.{[], ◌∷◌}
use Prim.Native.Nat.{ℕ, suc, ◌+◌, ◌≤◌}
use native.Mathlib.Omega.{arith}
use lib.Dec.{T}
use Rattle.slot.specs.Number.{none}
use Rattle.slot.specs.Slot.{Link, Slot}
use Rattle.table.specs.Table.{Table, at, put}
use Rattle.table.specs.Nodes.{outer}
use Rattle.table.specs.Counts.{with_blossoms}
use Rattle.rules.specs.Act.{Did, say, change, ◌then◌, read, choose, create}
use Rattle.rules.specs.Slots.{up, next}
use Rattle.rules.specs.Walk.{walk, first_shared}
use Rattle.rules.specs.Trees.{upward, meeting}
use Rattle.rules.specs.Blossom.{lacks_blossom_slot, relisted, replace_child, gathered, ringed, new_blossom, blossom_placed, create_blossom}
use Rattle.rules.specs.Conflict.{blossom_in_tree}
use Rattle.theorems_soundness.proofs.Reflect.{eqb_yes, eqb_no, same_or_not, test_case, test_true, test_false, not↔}
use Rattle.theorems_soundness.proofs.Chains.{chain_walk}
use Rattle.theorems_soundness.specs.RuleFacts.{OneTree}
use Rattle.theorems_soundness.specs.WithBudgets.{moved_up_to_by, relisted_within, replace_child_within, meeting_by, blossom_placed_by, gathered_by, ringed_by, create_blossom_by, blossom_in_tree_by}
use Rattle.theorems_soundness.proofs.WaysUp.{upward_chain, upward_short}
use Rattle.theorems_soundness.proofs.Placing.{counted-at, stored_other}
use Rattle.theorems_soundness.proofs.MadeSlots.{grow_siblingless}
use Rattle.theorems_soundness.proofs.Gathering.{lists_of_256}
use Rattle.theorems_soundness.proofs.Making as M

-- ---- with the rule's own budget

relisted_256 : (p from to : ℕ) (t : Table) → relisted_within 256 p from to t ≡ relisted p from to t
unfolding relisted_within relisted
relisted_256 p from to t = refl

replaced_256 : (p from to : ℕ) (t : Table) → replace_child_within 256 p from to t ≡ replace_child p from to t
unfolding replace_child_within replace_child
replaced_256 p from to t = rw (relisted_256 p from to t)

placed_256 : (b m : ℕ) (t : Table) → blossom_placed_by 256 b m t ≡ blossom_placed b m t
unfolding blossom_placed_by blossom_placed choose
placed_256 b m t =
    elim (same_or_not (up t m) none) [
      | inl e ↦ rw (eqb_yes (up t m) none e)
      | inr d ↦ rw (eqb_no (up t m) none d) (replaced_256 (up t m) m b (put t b (new_blossom m (at t m))))
    ]

gathered_256 : (b m x y : ℕ) (t : Table) → gathered_by 256 b m x y t ≡ gathered b m x y t
unfolding gathered_by gathered
gathered_256 b m x y t = rw (lists_of_256 256 b m x x t, lists_of_256 256 b m y y (moved_up_to_by 256 256 b m x x t))

ringed_256 : (b m x y : ℕ) (l : Link) (t : Table) → ringed_by 256 b m x y l t ≡ ringed b m x y l t
unfolding ringed_by ringed
ringed_256 b m x y l t = refl

-- ---- what is done, and said

-- "One command: Create."
abbrev did : ℕ → Table → Did
did b u = record { table = u; said = create b ∷ [] }

abbrev counted : Table → Table
counted t = with_blossoms t (t.blossoms + 1)

-- the table that the rule makes, by the meeting node
abbrev result : ℕ → ℕ → Link → Table → ℕ → Table
result x y l t m = ringed (t.begin + t.blossoms) m x y l (gathered (t.begin + t.blossoms) m x y (blossom_placed (t.begin + t.blossoms) m (counted t)))

abbrev result_by : ℕ → ℕ → ℕ → Link → Table → ℕ → Table
result_by k x y l t m = ringed_by k (t.begin + t.blossoms) m x y l (gathered_by k (t.begin + t.blossoms) m x y (blossom_placed_by k (t.begin + t.blossoms) m (counted t)))

rule_does : (x y : ℕ) (l : Link) (t : Table) → ¬ T (lacks_blossom_slot t) → blossom_in_tree x y l t ≡ did (t.begin + t.blossoms) (result x y l t (meeting t x y))
unfolding blossom_in_tree read choose create_blossom change ◌then◌ say
rule_does x y l t slot = rw (test_false (lacks_blossom_slot t) slot)

by_does : (k x y : ℕ) (l : Link) (t : Table) → ¬ T (lacks_blossom_slot t) → blossom_in_tree_by k x y l t ≡ did (t.begin + t.blossoms) (result_by k x y l t (meeting_by k t x y))
unfolding blossom_in_tree_by read choose create_blossom_by change ◌then◌ say
by_does k x y l t slot = rw (test_false (lacks_blossom_slot t) slot)

-- where no slot is left both do nothing
both_skip : (k x y : ℕ) (l : Link) (t : Table) → T (lacks_blossom_slot t) → blossom_in_tree_by k x y l t ≡ blossom_in_tree x y l t
unfolding blossom_in_tree_by blossom_in_tree read choose
both_skip k x y l t h = rw (test_true (lacks_blossom_slot t) h)

by_slot : (k x y : ℕ) (l : Link) (t : Table) → (¬ T (lacks_blossom_slot t) → result_by k x y l t (meeting_by k t x y) ≡ result x y l t (meeting t x y)) → blossom_in_tree_by k x y l t ≡ blossom_in_tree x y l t
by_slot k x y l t h =
    elim (test_case (lacks_blossom_slot t)) [
      | inl a ↦ both_skip k x y l t a
      | inr a ↦ let d = (not↔ (lacks_blossom_slot t)).0 a in by_does k x y l t d ∙ ap (did (t.begin + t.blossoms)) (h d) ∙ sym (rule_does x y l t d)
    ]

-- the rule is the one with 256
pub own_budget : (x y : ℕ) (l : Link) (t : Table) → blossom_in_tree_by 256 x y l t ≡ blossom_in_tree x y l t
own_budget x y l t = by_slot 256 x y l t (λ _. same_result)
  where
    b : ℕ
    b = t.begin + t.blossoms

    m : ℕ
    m = meeting t x y

    same_result : result_by 256 x y l t m ≡ result x y l t m
    same_result =
        ringed_256 b m x y l (gathered_by 256 b m x y (blossom_placed_by 256 b m (counted t)))
        ∙ ap (ringed b m x y l) (gathered_256 b m x y (blossom_placed_by 256 b m (counted t)))
        ∙ ap (λ (u : Table). ringed b m x y l (gathered b m x y u)) (placed_256 b m (counted t))

-- ---- with any larger one

-- where the first child is replaced, no list is walked
relisted_first : (k p from to : ℕ) (t : Table) → (at t p).first_child ≡ from → relisted_within k p from to t ≡ relisted p from to t
unfolding relisted_within relisted choose
relisted_first k p from to t e = rw (eqb_yes (at t p).first_child from e)

replaced_first : (k p from to : ℕ) (t : Table) → (at t p).first_child ≡ from → replace_child_within k p from to t ≡ replace_child p from to t
unfolding replace_child_within replace_child
replaced_first k p from to t e = rw (relisted_first k p from to t e)

placed_first : (k b m : ℕ) (t : Table) → (up t m ≢ none → (at (put t b (new_blossom m (at t m))) (up t m)).first_child ≡ m) → blossom_placed_by k b m t ≡ blossom_placed b m t
unfolding blossom_placed_by blossom_placed choose
placed_first k b m t h =
    elim (same_or_not (up t m) none) [
      | inl e ↦ rw (eqb_yes (up t m) none e)
      | inr d ↦ rw (eqb_no (up t m) none d) (replaced_first k (up t m) m b (put t b (new_blossom m (at t m))) (h d))
    ]

module _ (k : ℕ) (large : 256 ≤ k) (x y : ℕ) (l : Link) (t : Table) (o : OneTree t x y l) (slot : ¬ T (lacks_blossom_slot t)) where
  abbrev b : ℕ
  b = t.begin + t.blossoms

  abbrev m : ℕ
  m = meeting t x y

  upward_by : (n : ℕ) → T (outer t n) → walk (suc k) (up t) n ≡ upward t n
  upward_by n q = (chain_walk (up t) (suc k) n (upward t n) (upward_chain t o.whole.full o.whole.core n q) (omega (arith, upward_short t o.whole.full o.whole.core n q))).1

  meeting_by_lem : meeting_by k t x y ≡ m
  meeting_by_lem = ap₂ first_shared (upward_by x (M.outer_1 o slot)) (upward_by y (M.outer_2 o slot))

  siblingless : next t m ≡ none
  siblingless = grow_siblingless t o.whole.core m (M.paths o slot).grows

  placed_by : blossom_placed_by k b m (counted t) ≡ M.v o slot
  placed_by = placed_first k b m (counted t) first
    where
      same_parent : up (counted t) m ≡ up t m
      same_parent = ap (λ (s : Slot). s.parent) (counted-at t b m o.whole.full (M.left o slot) siblingless m)

      first : up (counted t) m ≢ none → (at (put (counted t) b (new_blossom m (at (counted t) m))) (up (counted t) m)).first_child ≡ m
      first h =
          let p = M.parent_place o slot (λ z. h (same_parent ∙ z)) in
          ap (λ (j : ℕ). (at (put (counted t) b (new_blossom m (at (counted t) m))) j).first_child) same_parent
          ∙ ap (λ (s : Slot). s.first_child) (stored_other t b m o.whole.full (M.left o slot) siblingless (up t m) p.0)
          ∙ p.4

  gathered_by_lem : gathered_by k b m x y (M.v o slot) ≡ (M.at-meeting o slot).table
  unfolding gathered_by
  gathered_by_lem =
      rw ((M.along_1 o slot).reached k k large (omega (arith, M.short_1 o slot)), (M.along_2 o slot).reached k k large (omega (arith, M.short_2 o slot)), M.last_1 o slot k large, M.last_2 o slot k large)
      ((M.at-meeting o slot).reached k large)

  ringed_by_lem : ringed_by k b m x y l (M.at-meeting o slot).table ≡ M.u o slot
  unfolding ringed_by
  ringed_by_lem =
      rw ((M.side_up o slot).reached k (omega (arith, M.short_1 o slot))) ((M.side_down o slot).reached k (omega (arith, M.short_2 o slot)))

  same_result : result_by k x y l t (meeting_by k t x y) ≡ result x y l t m
  same_result =
      ap (result_by k x y l t) meeting_by_lem
      ∙ ap (λ (u : Table). ringed_by k b m x y l (gathered_by k b m x y u)) placed_by
      ∙ ap (ringed_by k b m x y l) gathered_by_lem
      ∙ ringed_by_lem
      ∙ sym (ap (ringed b m x y l) (M.is_gathered o slot) ∙ M.is_ringed o slot)

pub budgets_suffice : (k : ℕ) → 256 ≤ k → (x y : ℕ) (l : Link) (t : Table) → OneTree t x y l → blossom_in_tree_by k x y l t ≡ blossom_in_tree x y l t
budgets_suffice k large x y l t o = by_slot k x y l t (same_result k large x y l t o)

-- ---- the commands

pub blossom_says : (x y : ℕ) (l : Link) (t : Table) → ¬ T (lacks_blossom_slot t) → (blossom_in_tree x y l t).said ≡ create (t.begin + t.blossoms) ∷ []
blossom_says x y l t slot = ap (λ (r : Did). r.said) (rule_does x y l t slot)
