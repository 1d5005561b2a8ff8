-- The walks that attach ring nodes, one turn at a time: what is left to do without a turn, and after one.
use mathlib.Core.Path.{◌≡◌, refl}
use mathlib.Core.Bool.{Bool, true, false, not}
use Prim.Native.Nat.{ℕ, zero, suc, ◌-◌}
use borrow.Author.Tests.{eq-eqb, ne_eqb}
use Rattle.lists.proofs.Budget.{fewer}
use Rattle.slot.specs.Slot.{Link, mirror}
use Rattle.table.specs.Table.{at}
use Rattle.rules.specs.Act.{Act, World, run, choose}
use Rattle.rules.specs.Expansion.{attach, attach_down, attach_up}
use Rattle.rules.proofs.Runs.{runs, run-skip, run_yes, run_no}

-- a choice that is made
module _ (w : World) (f g : Act) where
  pub run_true : run w (choose true f g) ≡ run w f
  run_true = run_yes w true f g refl

  pub run_false : run w (choose false f g) ≡ run w g
  run_false = run_no w false f g refl

module _ (w : World) where
  pub down_spent :
      (k c below : ℕ) (grow : Bool) (parent : ℕ) (l : Link) (n : ℕ)
      → k ≡ 0
      → run w (attach_down k c below grow parent l n) ≡ w
  unfolding attach_down
  down_spent k c below grow parent l n e = rw (e, run-skip)

  pub down_there :
      (k c below : ℕ) (grow : Bool) (parent : ℕ) (l : Link) (n : ℕ)
      → (k ≡ 0 → ⊥)
      → n ≡ c
      → run w (attach_down k c below grow parent l n) ≡ run w (attach n grow parent below l)
  unfolding attach_down
  down_there zero c below grow parent l n h q = absurd (h refl)
  down_there (suc k) c below grow parent l n h q = simp (runs, run_true, eq-eqb n c q)

  pub down_turn :
      (k c below : ℕ) (grow : Bool) (parent : ℕ) (l : Link) (n : ℕ)
      → (k ≡ 0 → ⊥)
      → (n ≡ c → ⊥)
      → run w (attach_down k c below grow parent l n)
      ≡ run (run w (attach n grow parent (at w.table n).sibling l)) (attach_down (k - 1) c below (not grow) n (mirror (at w.table n).link) (at w.table n).sibling)
  unfolding attach_down
  down_turn zero c below grow parent l n h q = absurd (h refl)
  down_turn (suc k) c below grow parent l n h q = simp (runs, run_false, fewer k, ne_eqb n c q)

  pub up_spent :
      (k p above : ℕ) (l : Link) (grow : Bool) (child n : ℕ)
      → k ≡ 0
      → run w (attach_up k p above l grow child n) ≡ w
  unfolding attach_up
  up_spent k p above l grow child n e = rw (e, run-skip)

  pub up_there :
      (k p above : ℕ) (l : Link) (grow : Bool) (child n : ℕ)
      → (k ≡ 0 → ⊥)
      → n ≡ p
      → run w (attach_up k p above l grow child n) ≡ run w (attach n grow above child l)
  unfolding attach_up
  up_there zero p above l grow child n h q = absurd (h refl)
  up_there (suc k) p above l grow child n h q = simp (runs, run_true, eq-eqb n p q)

  pub up_turn :
      (k p above : ℕ) (l : Link) (grow : Bool) (child n : ℕ)
      → (k ≡ 0 → ⊥)
      → (n ≡ p → ⊥)
      → run w (attach_up k p above l grow child n)
      ≡ run (run w (attach n grow (at w.table n).sibling child (at w.table n).link)) (attach_up (k - 1) p above l (not grow) n (at w.table n).sibling)
  unfolding attach_up
  up_turn zero p above l grow child n h q = absurd (h refl)
  up_turn (suc k) p above l grow child n h q = simp (runs, run_false, fewer k, ne_eqb n p q)

pub ruleset downs = (down_spent, down_there, down_turn)

pub ruleset ups = (up_spent, up_there, up_turn)
