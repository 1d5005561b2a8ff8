-- The walks, one turn at a time: what is left to do without a turn, and after one.
use mathlib.Core.Path.{◌≡◌, refl, ◌∙◌}
use Prim.Native.Nat.{ℕ, zero, suc, ◌-◌}
use Rattle.lists.proofs.Budget.{fewer}
use Rattle.slot.specs.Number.{none}
use Rattle.table.specs.Table.{at}
use Rattle.rules.specs.Act.{World, run}
use Rattle.rules.specs.Slots.{up}
use Rattle.rules.specs.Matching.{temporary_match, match_siblings, match_subtree, augment_subtree, augment_within}
use Rattle.rules.proofs.Runs.{run_none, run_some, run-skip, run_then, run_look}

module _ (w : World) where
  pub siblings_spent : (k n : ℕ) → k ≡ 0 → run w (match_siblings k n) ≡ w
  unfolding match_siblings
  siblings_spent k n e = rw (e, run-skip)

  pub siblings_end : (k n : ℕ) → n ≡ none → run w (match_siblings k n) ≡ w
  unfolding match_siblings
  siblings_end zero n e = run-skip w
  siblings_end (suc k) n e = run_none w n _ e

  pub siblings_turn :
      (k n : ℕ)
      → (k ≡ 0 → ⊥)
      → (n ≡ none → ⊥)
      → run w (match_siblings k n) ≡ run (run w (match_subtree (k - 1) n)) (match_siblings (k - 1) (at w.table n).sibling)
  unfolding match_siblings match_subtree
  siblings_turn zero n h q = absurd (h refl)
  siblings_turn (suc k) n h q = rw (run_some w n _ q, fewer k, run_look, run_then, run_look)

  pub within_spent : (k left n : ℕ) → k ≡ 0 → run w (augment_within k left n) ≡ w
  unfolding augment_within
  within_spent k left n e = rw (e, run-skip)

  pub within_root :
      (k left n : ℕ)
      → (k ≡ 0 → ⊥)
      → up (run w (augment_subtree left n)).table n ≡ none
      → run w (augment_within k left n) ≡ run w (augment_subtree left n)
  unfolding augment_within
  within_root zero left n h q = absurd (h refl)
  within_root (suc k) left n h q = rw (run_then, run_look) (run_none (run w (augment_subtree left n)) _ _ q)

  pub within_turn :
      (k left n : ℕ)
      → (k ≡ 0 → ⊥)
      → (up (run w (augment_subtree left n)).table n ≡ none → ⊥)
      → (let w₁ = run w (augment_subtree left n) in
      let parent = up w₁.table n in
      let above = up w₁.table parent in
      run w (augment_within k left n) ≡ run (run w₁ (augment_within (k - 1) left above)) (temporary_match parent (at w₁.table parent).link above))
  unfolding augment_within
  within_turn zero left n h q = absurd (h refl)
  within_turn (suc k) left n h q =
      rw (run_then, run_look, fewer k) (run_some (run w (augment_subtree left n)) _ _ q ∙ rw (run_look, run_then))

pub ruleset siblings = (siblings_spent, siblings_end, siblings_turn)

pub ruleset within = (within_spent, within_root, within_turn)
