-- The laws of steps, and climbing out of blossoms: the test of 01 with its budget, and the number of steps.
use mathlib.Core.Path.{◌≡◌}
use mathlib.Core.Logic.{◌⊎◌, inl, inr}
use mathlib.Core.Bool.{Bool, ◌&&◌}
use Prim.Native.Nat.{ℕ, zero, suc, ◌+◌, ◌≤◌, ◌<◌}
use native.Mathlib.Nat.{suc-add, zero-add}
use native.Mathlib.Omega.{arith}
use lib.Dec.{T, eqb, eqb→eq}
use Rattle.table.specs.Table.{Table, Full}
use Rattle.table.specs.Nodes.{inner}
use Rattle.table.specs.Climb.{inside, inside_within}
use Rattle.rules.specs.Slots.{up}
use Rattle.theorems_soundness.specs.Chain.{Steps}
use Rattle.theorems_soundness.specs.FactsOfBlossoms.{InBlossom, Inside}
use Rattle.theorems_soundness.proofs.Reflect.{and→, →and, or→, →or, eq→eqb}
use Rattle.theorems_soundness.proofs.Past.{present_below}

module _ (leaves : ℕ → Bool) (next : ℕ → ℕ) where
  -- steps to b, and steps from there
  pub steps_join : (j k a b c : ℕ) → Steps leaves next j a b → Steps leaves next k b c → Steps leaves next (j + k) a c
  steps_join zero k a b c p q = rw (zero-add, p) q
  steps_join (suc j) k a b c p q = rw suc-add (p.0, steps_join j k (next a) b c p.1 q)

  -- where each step leads to a larger number, the number grows by one a step at least
  pub steps_grow : ((j : ℕ) → T (leaves j) → j < next j) → (k a b : ℕ) → Steps leaves next k a b → k + a ≤ b
  steps_grow h zero a b p = omega arith
  steps_grow h (suc k) a b p = omega (arith, steps_grow h k (next a) b p.1, h a p.0)

  -- where each step leads to a number below n, so do all
  pub steps_below : (n : ℕ) → ((j : ℕ) → T (leaves j) → next j < n) → (k a b : ℕ) → Steps leaves next (suc k) a b → b < n
  steps_below n h zero a b p = rw p.1 at (h a p.0)
  steps_below n h (suc k) a b p = steps_below n h k (next a) b p.1

-- steps that two tables take alike
pub steps-frame :
    (leaves also : ℕ → Bool) (next then : ℕ → ℕ)
    → ((j : ℕ) → T (leaves j) → T (also j) × (then j ≡ next j))
    → (k a b : ℕ)
    → Steps leaves next k a b
    → Steps also then k a b
steps-frame leaves also next then h zero a b p = p
steps-frame leaves also next then h (suc k) a b p =
    let r = h a p.0 in
    (r.0, rw r.1 (steps-frame leaves also next then h k (next a) b p.1))

module _ (t : Table) (x : ℕ) where
  within→steps : (k n : ℕ) → T (inside_within k t x n) → Inside t x n
  unfolding inside_within
  within→steps zero n h = record { steps = 0; climb = eqb→eq n x h }
  within→steps (suc k) n h = go (or→ (eqb n x) (inner t n && inside_within k t x (up t n)) h) (within→steps k (up t n))
    where
      go : T (eqb n x) ⊎ T (inner t n && inside_within k t x (up t n)) → (T (inside_within k t x (up t n)) → Inside t x (up t n)) → Inside t x n
      go (inl e) ih = record { steps = 0; climb = eqb→eq n x e }
      go (inr m) ih =
          let r = and→ (inner t n) (inside_within k t x (up t n)) m in
          let q = ih r.1 in
          record { steps = suc q.steps; climb = (r.0, q.climb) }

  steps→within : (k j n : ℕ) → j ≤ k → Steps (inner t) (up t) j n x → T (inside_within k t x n)
  unfolding inside_within
  steps→within zero zero n l p = eq→eqb n x p
  steps→within zero (suc j) n l p = absurd (omega arith)
  steps→within (suc k) zero n l p = →or (eqb n x) (inner t n && inside_within k t x (up t n)) (inl (eq→eqb n x p))
  steps→within (suc k) (suc j) n l p =
      →or (eqb n x) (inner t n && inside_within k t x (up t n)) (inr (→and (inner t n) (inside_within k t x (up t n)) p.0 (steps→within k j (up t n) (omega arith) p.1)))

  pub inside→ : (n : ℕ) → T (inside t x n) → Inside t x n
  inside→ n h = within→steps 256 n h

  -- 256 steps are enough, since numbers grow on the way
  module _ (full : Full t) (inners : (n : ℕ) → T (inner t n) → InBlossom t n) where
    steps_fit : (j n : ℕ) → Steps (inner t) (up t) j n x → j ≤ 256
    steps_fit zero n p = omega arith
    steps_fit (suc j) n p =
        omega (arith, steps_grow (inner t) (up t) (λ i q. (inners i q).larger) (suc j) n x p, steps_below (inner t) (up t) 256 (λ i q. present_below t full (up t i) (inners i q).parent.there) j n x p)

    pub →inside : (n : ℕ) → Inside t x n → T (inside t x n)
    →inside n i = steps→within 256 i.steps n (steps_fit i.steps n i.climb) i.climb
