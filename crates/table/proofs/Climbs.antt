-- Each climb, one step at a time, as the code's loops take it: after i steps 256 - i are left; and the climbs to the outer node and to
-- the ring node by the number of steps that are left.
use mathlib.Core.Path.{◌≡◌, refl}
use mathlib.Core.Bool.{true, false}
use Prim.Native.Nat.{ℕ, zero, suc, ◌+◌, ◌-◌, ◌≤◌, ◌<◌}
use native.Mathlib.Numerals.{add-one}
use native.Mathlib.Omega.{arith}
use borrow.Author.Tests.{eq-eqb, ne_eqb}
use lib.Dec.{eqb}
use Rattle.lists.proofs.Budget.{fewer, one_left, none_left}
use Rattle.table.specs.Table.{Table, at}
use Rattle.table.specs.Nodes.{inner}
use Rattle.table.specs.Climb.{inside_within, outer_blossom_within, second_outer_within}

module _ (t : Table) (x n : ℕ) where
  pub inside_here : (k : ℕ) → n ≡ x → inside_within k t x n ≡ true
  unfolding inside_within
  inside_here zero e = eq-eqb n x e
  inside_here (suc k) e = rw (eq-eqb n x e)

  pub inside_stop : (k : ℕ) → (n ≡ x → ⊥) → inner t n ≡ false → inside_within k t x n ≡ false
  unfolding inside_within
  inside_stop zero d q = ne_eqb n x d
  inside_stop (suc k) d q = rw (ne_eqb n x d, q)

module _ (i : ℕ) (t : Table) where
  pub inside_end : (x n : ℕ) → 256 ≤ i → inside_within (256 - i) t x n ≡ eqb n x
  unfolding inside_within
  inside_end x n h = rw (none_left i 256 h)

  pub inside_up : (x n : ℕ) → i < 256 → (n ≡ x → ⊥) → inner t n ≡ true → inside_within (256 - i) t x n ≡ inside_within (256 - (i + 1)) t x (at t n).parent
  unfolding inside_within
  inside_up x n h d q = rw (one_left i 256 h, ne_eqb n x d, q, add-one)

  pub outer_end : (n : ℕ) → 256 ≤ i → outer_blossom_within (256 - i) t n ≡ n
  unfolding outer_blossom_within
  outer_end n h = rw (none_left i 256 h)

  pub outer_up : (n : ℕ) → i < 256 → inner t n ≡ true → outer_blossom_within (256 - i) t n ≡ outer_blossom_within (256 - (i + 1)) t (at t n).parent
  unfolding outer_blossom_within
  outer_up n h q = rw (one_left i 256 h, q, add-one)

pub outer_stop : (t : Table) (n k : ℕ) → inner t n ≡ false → outer_blossom_within k t n ≡ n
unfolding outer_blossom_within
outer_stop t n zero q = refl
outer_stop t n (suc k) q = rw q

pub second_stop : (t : Table) (below n k : ℕ) → inner t n ≡ false → second_outer_within k t below n ≡ below
unfolding second_outer_within
second_stop t below n zero q = refl
second_stop t below n (suc k) q = rw q

-- a budget that is not used up
pub some_left : (k : ℕ) → (k ≡ 0 → ⊥) → 0 < k
some_left zero h = absurd (h refl)
some_left (suc k) h = omega arith

module _ (t : Table) (n : ℕ) where
  pub outer_spent : (k : ℕ) → k ≡ 0 → outer_blossom_within k t n ≡ n
  unfolding outer_blossom_within
  outer_spent k e = rw e

  pub outer-more :
      (k m : ℕ)
      → 0 < k
      → inner t n ≡ true
      → m ≡ (at t n).parent
      → outer_blossom_within (k - 1) t m ≡ outer_blossom_within k t n
  unfolding outer_blossom_within
  outer-more zero m h q e = absurd (omega arith)
  outer-more (suc k) m h q e = rw (q, fewer k, e)

  module _ (below : ℕ) where
    pub second_spent : (k : ℕ) → k ≡ 0 → second_outer_within k t below n ≡ below
    unfolding second_outer_within
    second_spent k e = rw e

    pub second_more :
        (k m : ℕ)
        → 0 < k
        → inner t n ≡ true
        → m ≡ (at t n).parent
        → second_outer_within (k - 1) t n m ≡ second_outer_within k t below n
    unfolding second_outer_within
    second_more zero m h q e = absurd (omega arith)
    second_more (suc k) m h q e = rw (q, fewer k, e)
