-- Matching the subtrees below a Grow node, as the rule does it: what it leaves, and that every budget that covers the nodes with a
-- parent, 256 at most, does the same.
use mathlib.Core.Path.{◌≡◌, refl, sym, ◌∙◌}
use mathlib.Core.Logic.{◌≢◌, ◌⊎◌, inl, inr}
use Prim.Native.Nat.{ℕ, zero, suc, ◌≤◌, ◌<◌}
use native.Mathlib.Omega.{arith}
use lib.Dec.{T}
use Rattle.slot.specs.Number.{none}
use Rattle.slot.specs.Slot.{Slot}
use Rattle.table.specs.Table.{Table, at}
use Rattle.table.specs.Nodes.{outer}
use Rattle.rules.specs.Act.{Act, skip, ◌then◌, look, choose}
use Rattle.rules.specs.Slots.{next}
use Rattle.rules.specs.Matching.{temporary_match, unless_none, subtree, match_siblings}
use Rattle.theorems_soundness.proofs.Reflect.{same_or_not, eqb_yes, eqb_no}
use Rattle.theorems_soundness.proofs.ChildLaws.{first_child_lem}
use Rattle.theorems_soundness.proofs.Frames.{some_outer}
use Rattle.theorems_soundness.proofs.Below.{below_child, tied, tied_some}
use Rattle.theorems_soundness.proofs.Splitting.{Branch, branch, split, branch_below}
use Rattle.theorems_soundness.proofs.Cleared.{Task, Cleared, cleared-none}
use Rattle.theorems_soundness.proofs.Clearing.{lower_task, child₁, fewer₁, rest_task, child₃, fewer₃, cleared_branch}

-- ---- the rule, a node at a time

pub siblings_none : (k n : ℕ) (t : Table) → n ≡ none → match_siblings k n t ≡ skip t
unfolding match_siblings unless_none choose
siblings_none zero n t e = refl
siblings_none (suc k) n t e = rw (eqb_yes n none e)

-- n and its child c, read from the table as they stand
pub siblings-some :
    (k n c : ℕ) (t : Table) (s r : Slot)
    → n ≢ none
    → at t n ≡ s
    → s.first_child ≡ c
    → at t c ≡ r
    → match_siblings (suc k) n t ≡ ((temporary_match c r.link n then match_siblings k r.first_child) then match_siblings k s.sibling) t
unfolding match_siblings unless_none choose look subtree ◌then◌
siblings-some k n c t s r d e f g = rw (eqb_no n none d, e, f, g)

pub then_same : (f f' g g' : Act) (t : Table) → f t ≡ f' t → g (f t).table ≡ g' (f t).table → (f then g) t ≡ (f' then g') t
unfolding ◌then◌
then_same f f' g g' t p q = rw (← p, ← q)

-- ---- what it leaves

abbrev Clears : ℕ → Type 0
Clears k = (t : Table) (y : ℕ) (u : Table) → Task t y u → tied t ≤ k → Cleared t y u (match_siblings k (at t y).first_child u).table

-- a budget is not spent where there is a child
unspent : (t : Table) (y : ℕ) (u : Table) → Task t y u → (at t y).first_child ≢ none → 0 < tied t
unspent t y u task d =
    let w = task.whole in
    let o : T (outer t y) = rw task.grows tt in
    let k = first_child_lem t w.full w.core y o d in
    tied_some t w.full (at t y).first_child k.0 (λ e. some_outer t w.full y o (sym k.1 ∙ e))

clears_none : (k : ℕ) (t : Table) (y : ℕ) (u : Table) → Task t y u → (at t y).first_child ≡ none → Cleared t y u (match_siblings k (at t y).first_child u).table
unfolding skip
clears_none k t y u task e = rw (siblings_none k (at t y).first_child u e) (cleared-none t y u task.whole (rw task.grows tt) task.full e)

-- one branch, and what hangs below it and beside it by a smaller budget
module _ (k : ℕ) (t : Table) (y n c : ℕ) (u : Table) (task : Task t y u) (b : Branch t y n c) where
  abbrev matched : Act
  matched = temporary_match c (at t c).link n

  abbrev between : Table
  between = (match_siblings k (at t c).first_child (matched u).table).table

  first_cleared : Clears k → tied t ≤ suc k → Cleared (split t y n c) c (matched u).table between
  first_cleared ih enough =
      rw (child₁ t y n c u task b) at (ih (split t y n c) c (matched u).table (lower_task t y n c u task b) (omega (arith, fewer₁ t y n c u task b)))

  branch_cleared : Clears k → tied t ≤ suc k → Cleared t y u (match_siblings k (next t n) between).table
  branch_cleared ih enough =
      let r = first_cleared ih enough in
      let rest = ih (matched r.table).table y between (rest_task t y n c u task b between r) (omega (arith, fewer₃ t y n c u task b between r)) in
      cleared_branch t y n c u task b between r (match_siblings k (next t n) between).table (rw (child₃ t y n c u task b between r) at rest)

  siblings_rule : match_siblings (suc k) n u ≡ ((matched then match_siblings k (at t c).first_child) then match_siblings k (next t n)) u
  siblings_rule =
      siblings-some k n c u (at t n) (at t c) (some_outer t task.whole.full n b.child.0) (task.agree n (below_child t y n b.child)) b.second (task.agree c (branch_below t y n c task.whole b))

  siblings_table : (match_siblings (suc k) n u).table ≡ (match_siblings k (next t n) between).table
  unfolding ◌then◌
  siblings_table = rw siblings_rule

clears_more : (k : ℕ) → Clears k → Clears (suc k)
clears_more k ih t y u task enough = go (same_or_not (at t y).first_child none)
  where
    go : ((at t y).first_child ≡ none) ⊎ ((at t y).first_child ≢ none) → Cleared t y u (match_siblings (suc k) (at t y).first_child u).table
    go (inl e) = clears_none (suc k) t y u task e
    go (inr d) =
        let n = (at t y).first_child in
        let c = (at t n).first_child in
        let b = branch t y task.whole task.grows d in
        rw (siblings_table k t y n c u task b) (branch_cleared k t y n c u task b ih enough)

clears_zero : Clears zero
clears_zero t y u task enough =
    elim (same_or_not (at t y).first_child none) [ inl e ↦ clears_none zero t y u task e | inr d ↦ absurd (omega (arith, unspent t y u task d)) ]

pub siblings_clear : (k : ℕ) → Clears k
siblings_clear zero = clears_zero
siblings_clear (suc k) = clears_more k (siblings_clear k)

-- ---- the budget

abbrev Alike : ℕ → ℕ → Type 0
Alike k m =
    (t : Table) (y : ℕ) (u : Table)
    → Task t y u
    → tied t ≤ k
    → tied t ≤ m
    → match_siblings k (at t y).first_child u ≡ match_siblings m (at t y).first_child u

alike_none : (k m : ℕ) (t : Table) (y : ℕ) (u : Table) → (at t y).first_child ≡ none → match_siblings k (at t y).first_child u ≡ match_siblings m (at t y).first_child u
alike_none k m t y u e = siblings_none k (at t y).first_child u e ∙ sym (siblings_none m (at t y).first_child u e)

module _ (k m : ℕ) (ih : Alike k m) (t : Table) (y n c : ℕ) (u : Table) (task : Task t y u) (b : Branch t y n c) (p : tied t ≤ suc k) (q : tied t ≤ suc m) where
  abbrev pair : Act
  pair = matched k t y n c u task b

  abbrev below : ℕ → Act
  below i = match_siblings i (at t c).first_child

  abbrev beside : ℕ → Act
  beside i = match_siblings i (next t n)

  below_alike : below k (pair u).table ≡ below m (pair u).table
  below_alike =
      let f = fewer₁ t y n c u task b in
      rw (child₁ t y n c u task b) at (ih (split t y n c) c (pair u).table (lower_task t y n c u task b) (omega arith) (omega arith))

  beside_alike : beside k (below k (pair u).table).table ≡ beside m (below k (pair u).table).table
  beside_alike =
      let v = (below k (pair u).table).table in
      let r = first_cleared k t y n c u task b (siblings_clear k) p in
      let f = fewer₃ t y n c u task b v r in
      rw (child₃ t y n c u task b v r) at (ih (pair r.table).table y v (rest_task t y n c u task b v r) (omega arith) (omega arith))

  branch_alike : match_siblings (suc k) n u ≡ match_siblings (suc m) n u
  unfolding ◌then◌
  branch_alike =
      siblings_rule k t y n c u task b
      ∙ then_same (pair then below k) (pair then below m) (beside k) (beside m) u (then_same pair pair (below k) (below m) u refl below_alike) beside_alike
      ∙ sym (siblings_rule m t y n c u task b)

alike_more : (k m : ℕ) → Alike k m → Alike (suc k) (suc m)
alike_more k m ih t y u task p q = go (same_or_not (at t y).first_child none)
  where
    go : ((at t y).first_child ≡ none) ⊎ ((at t y).first_child ≢ none) → match_siblings (suc k) (at t y).first_child u ≡ match_siblings (suc m) (at t y).first_child u
    go (inl e) = alike_none (suc k) (suc m) t y u e
    go (inr d) = branch_alike k m ih t y (at t y).first_child (at t (at t y).first_child).first_child u task (branch t y task.whole task.grows d) p q

alike_spent : (k m : ℕ) (t : Table) (y : ℕ) (u : Table) → Task t y u → tied t ≤ 0 → match_siblings k (at t y).first_child u ≡ match_siblings m (at t y).first_child u
alike_spent k m t y u task l =
    elim (same_or_not (at t y).first_child none) [ inl e ↦ alike_none k m t y u e | inr d ↦ absurd (omega (arith, unspent t y u task d)) ]

-- two budgets that both suffice do the same, commands included
pub siblings_alike : (k m : ℕ) → Alike k m
siblings_alike zero m t y u task p q = alike_spent zero m t y u task p
siblings_alike (suc k) zero t y u task p q = alike_spent (suc k) zero t y u task q
siblings_alike (suc k) (suc m) t y u task p q = alike_more k m (siblings_alike k m) t y u task p q
