-- The ring that is opened: its walks one turn at a time, and the whole by whether d is even.
use mathlib.Core.Path.{◌≡◌, refl}
use mathlib.Core.Bool.{false}
use Prim.Native.Nat.{ℕ, zero, suc, ◌+◌, ◌-◌, ◌%◌}
use borrow.Author.Tests.{eq-eqb, ne_eqb}
use Rattle.lists.proofs.Budget.{fewer}
use Rattle.slot.specs.Slot.{Link}
use Rattle.table.specs.Table.{Table, at}
use Rattle.rules.specs.Act.{World, run, choose}
use Rattle.rules.specs.Slots.{next}
use Rattle.rules.specs.Matching.{temporary_match}
use Rattle.rules.specs.Expansion.{steps_to, match_chain, attach_down, attach_up, ring_opened}
use Rattle.rules.proofs.Runs.{runs, run-skip}
use Rattle.request_expansion.proofs.AttachingSteps.{run_true, run_false}

-- ---- along the ring

pub steps_spent : (k c n : ℕ) (t : Table) → k ≡ 0 → steps_to k c n t ≡ 0
unfolding steps_to
steps_spent k c n t e = rw e

pub steps_there : (k c n : ℕ) (t : Table) → n ≡ c → steps_to k c n t ≡ 0
unfolding steps_to choose
steps_there zero c n t e = refl
steps_there (suc k) c n t e = rw (eq-eqb n c e)

pub steps_turn : (k c n : ℕ) (t : Table) → (k ≡ 0 → ⊥) → (n ≡ c → ⊥) → steps_to k c n t ≡ steps_to (k - 1) c (next t n) t + 1
unfolding steps_to choose
steps_turn zero c n t h q = absurd (h refl)
steps_turn (suc k) c n t h q = rw (fewer k, ne_eqb n c q)

pub ruleset steps = (steps_spent, steps_there, steps_turn)

module _ (w : World) where
  pub chain_spent : (k end n : ℕ) → k ≡ 0 → run w (match_chain k end n) ≡ w
  unfolding match_chain
  chain_spent k end n e = rw (e, run-skip)

  pub chain_there : (k end n : ℕ) → n ≡ end → run w (match_chain k end n) ≡ w
  unfolding match_chain
  chain_there zero end n e = run-skip w
  chain_there (suc k) end n e = simp (eq-eqb n end e, run_true, run-skip)

  pub chain_turn :
      (k end n : ℕ)
      → (k ≡ 0 → ⊥)
      → (n ≡ end → ⊥)
      → run w (match_chain k end n)
      ≡ run (run w (temporary_match n (at w.table n).link (next w.table n))) (match_chain (k - 1) end (next w.table (next w.table n)))
  unfolding match_chain
  chain_turn zero end n h q = absurd (h refl)
  chain_turn (suc k) end n h q = simp (runs, run_false, fewer k, ne_eqb n end q)

pub ruleset chains = (chain_spent, chain_there, chain_turn)

-- ---- the whole

module _ (w : World) (p c above below : ℕ) (l : Link) where
  pub opened_even :
      steps_to 256 c p w.table % 2 ≡ 0
      → run w (ring_opened p c above below l)
      ≡ run (run w (match_chain 256 p (next w.table c))) (attach_down 256 c below false above l p)
  unfolding ring_opened
  opened_even q = simp (runs, run_true, eq-eqb (steps_to 256 c p w.table % 2) 0 q)

  pub opened_odd :
      (steps_to 256 c p w.table % 2 ≡ 0 → ⊥)
      → run w (ring_opened p c above below l)
      ≡ run (run w (match_chain 256 c (next w.table p))) (attach_up 256 p above l false below c)
  unfolding ring_opened
  opened_odd q = simp (runs, run_false, ne_eqb (steps_to 256 c p w.table % 2) 0 q)

pub ruleset openings = (opened_even, opened_odd)
