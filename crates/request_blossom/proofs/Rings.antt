-- The walks that make the ring, one turn at a time: what is left to do without a turn, and after one.
use mathlib.Core.Path.{◌≡◌, refl}
use Prim.Native.Nat.{ℕ, zero, suc, ◌-◌}
use borrow.Author.Tests.{eq-eqb, ne_eqb}
use Rattle.lists.proofs.Budget.{fewer}
use Rattle.slot.specs.Slot.{Link, mirror}
use Rattle.table.specs.Table.{Table, at, put}
use Rattle.rules.specs.Act.{choose, alter}
use Rattle.rules.specs.Slots.{up}
use Rattle.rules.specs.Blossom.{enclosed, ring_up, ring_down}

pub up_spent : (k b m n : ℕ) (t : Table) → k ≡ 0 → ring_up k b m n t ≡ t
unfolding ring_up
up_spent k b m n t e = rw e

pub up_there : (k b m n : ℕ) (t : Table) → n ≡ m → ring_up k b m n t ≡ t
unfolding ring_up choose
up_there zero b m n t e = refl
up_there (suc k) b m n t e = rw (eq-eqb n m e)

pub up_turn :
    (k b m n : ℕ) (t : Table)
    → (k ≡ 0 → ⊥)
    → (n ≡ m → ⊥)
    → ring_up k b m n t ≡ ring_up (k - 1) b m (up t n) (put t n (enclosed b (up t n) (at t n).link (at t n)))
unfolding ring_up choose alter
up_turn zero b m n t h q = absurd (h refl)
up_turn (suc k) b m n t h q = rw (fewer k, ne_eqb n m q)

pub ruleset ups = (up_spent, up_there, up_turn)

module _ (k b m after : ℕ) (l : Link) (n : ℕ) (t : Table) where
  pub down_spent : k ≡ 0 → ring_down k b m after l n t ≡ t
  unfolding ring_down
  down_spent e = rw e

pub down_there :
    (k b m after : ℕ) (l : Link) (n : ℕ) (t : Table)
    → (k ≡ 0 → ⊥)
    → n ≡ m
    → ring_down k b m after l n t ≡ put t n (enclosed b after (mirror l) (at t n))
unfolding ring_down choose alter
down_there zero b m after l n t h q = absurd (h refl)
down_there (suc k) b m after l n t h q = rw (eq-eqb n m q)

pub down_turn :
    (k b m after : ℕ) (l : Link) (n : ℕ) (t : Table)
    → (k ≡ 0 → ⊥)
    → (n ≡ m → ⊥)
    → ring_down k b m after l n t
    ≡ ring_down (k - 1) b m n (at t n).link (up t n) (put t n (enclosed b after (mirror l) (at t n)))
unfolding ring_down choose alter
down_turn zero b m after l n t h q = absurd (h refl)
down_turn (suc k) b m after l n t h q = rw (fewer k, ne_eqb n m q)

pub ruleset downs = (down_spent, down_there, down_turn)
