-- The climb to a root one step at a time, as the code's loop takes it: after i tests 257 - i are left.
use mathlib.Core.Path.{◌≡◌}
use mathlib.Core.Bool.{true, false}
use Prim.Native.Nat.{ℕ, zero, suc, ◌+◌, ◌-◌, ◌≤◌, ◌<◌}
use native.Mathlib.Numerals.{add-one}
use lib.Dec.{eqb}
use Rattle.lists.proofs.Budget.{one_left, none_left}
use Rattle.slot.specs.Number.{none}
use Rattle.table.specs.Table.{Table, at}
use Rattle.rules.specs.Trees.{root_within}

-- the root that so many tests come to: k steps make suc k tests
abbrev pub root_tested : ℕ → Table → ℕ → ℕ
root_tested zero t n = none
root_tested (suc k) t n = root_within k t n

module _ (t : Table) (n : ℕ) where
  there : (k : ℕ) → eqb (at t n).parent none ≡ true → root_within k t n ≡ n
  unfolding root_within
  there zero q = rw q
  there (suc k) q = rw q

  more : (k : ℕ) → eqb (at t n).parent none ≡ false → root_within k t n ≡ root_tested k t (at t n).parent
  unfolding root_within
  more zero q = rw q
  more (suc k) q = rw q

  pub root_spent : (i : ℕ) → 257 ≤ i → root_tested (257 - i) t n ≡ none
  root_spent i h = rw (none_left i 257 h)

  module _ (i : ℕ) (h : i < 257) where
    pub root_there : eqb (at t n).parent none ≡ true → root_tested (257 - i) t n ≡ n
    root_there q = rw (one_left i 257 h) (there (257 - suc i) q)

    pub root_more : eqb (at t n).parent none ≡ false → root_tested (257 - i) t n ≡ root_tested (257 - (i + 1)) t (at t n).parent
    root_more q = rw (one_left i 257 h, add-one) (more (257 - suc i) q)

pub ruleset climbs = (root_spent, root_there, root_more)
