-- Blossoms inside one another: what the numbers of insides rely on, and what follows for "inside" from that alone.
use mathlib.Core.Path.{◌≡◌, refl, sym, ap, ◌∙◌}
use mathlib.Core.Logic.{◌≢◌, ◌⊎◌, inl, inr}
use Prim.Native.Nat.{ℕ, zero, suc, ◌+◌, ◌≤◌, ◌<◌}
use native.Mathlib.Omega.{arith}
use lib.Dec.{T}
use lib.ListN.{length}
use Rattle.slot.specs.declared.state.State.{State}
use Rattle.slot.specs.declared.state.State.TheVariants as S
use Rattle.slot.specs.Number.{none}
use Rattle.slot.specs.State.{is_outer, is_inner, is_present}
use Rattle.table.specs.Table.{Table, at, Full}
use Rattle.table.specs.Nodes.{present, outer, inner}
use Rattle.rules.specs.Slots.{up, next}
use Rattle.rules.specs.Sound.{next_in_ring}
use Rattle.theorems_soundness.specs.Chain.{Steps}
use Rattle.theorems_soundness.specs.FactsOfBlossoms.{PresentBlossom, InnerChild, Ring, Inside}
use Rattle.theorems_soundness.proofs.Reflect.{same_or_not}
use Rattle.theorems_soundness.proofs.Past.{inner_below}
use Rattle.theorems_soundness.proofs.Chains.{chain_fits}
use Rattle.theorems_soundness.proofs.RingLaws.{ring_goes_on, ring_comes_back}
use Rattle.theorems_soundness.proofs.InsideLaws.{inside_self, inside_ring_node, inside-join, inside_case, inside_ring, inside_compare}

-- S6, S7 of inner nodes, and of S1 what concerns blossoms. Every climb ends since a number, the rank, grows with each step; no order
-- of slots is used.
pub record Nest (t : Table) : Type 0 where
  pub rings : (b : ℕ) → PresentBlossom t b → Ring t b
  pub parents : (n : ℕ) → T (inner t n) → PresentBlossom t (up t n)
  pub undamaged : (n : ℕ) → (at t n).state ≢ S.Damaged
  pub given : (b : ℕ) → PresentBlossom t b → b < t.begin + t.blossoms
  pub rank : ℕ → ℕ
  pub rises : (n : ℕ) → T (inner t n) → rank n < rank (up t n)
  pub low : (n : ℕ) → T (present t n) → rank n ≤ 256

pub state_case : (x : State) → x ≢ S.Damaged → T (is_present x) → T (is_outer x) ⊎ T (is_inner x)
state_case S.Empty d p = absurd p
state_case S.Inner d p = inr tt
state_case S.Stay d p = inl tt
state_case S.Grow d p = inl tt
state_case S.Shrink d p = inl tt
state_case S.Damaged d p = absurd (d refl)

module _ (t : Table) (nest : Nest t) where
  steps_rise : (k a b : ℕ) → Steps (inner t) (up t) k a b → k + nest.rank a ≤ nest.rank b
  steps_rise zero a b p = omega (arith, ap nest.rank p)
  steps_rise (suc k) a b p = omega (arith, steps_rise k (up t a) b p.1, nest.rises a p.0)

  inside_rises : (x n : ℕ) → Inside t x n → nest.rank n ≤ nest.rank x
  inside_rises x n i = omega (arith, steps_rise i.steps n x i.climb)

  pub ring_node_lower : (b y : ℕ) → InnerChild t b y → nest.rank y < nest.rank b
  ring_node_lower b y c = omega (arith, nest.rises y c.0, ap nest.rank c.1)

  -- a ring node does not hold its blossom
  pub not_above : (b y : ℕ) → InnerChild t b y → ¬ Inside t y b
  not_above b y c i = omega (arith, inside_rises y b i, ring_node_lower b y c)

  -- a node is inside one node of a ring
  apart : (b y z : ℕ) → InnerChild t b y → InnerChild t b z → Inside t z y → y ≡ z
  apart b y z p q h = elim (inside_case t z y h) [ inl e ↦ e | inr r ↦ absurd (not_above b z q (rw p.1 at r.1)) ]

  pub one_ring_node : (b y z n : ℕ) → InnerChild t b y → InnerChild t b z → Inside t y n → Inside t z n → y ≡ z
  one_ring_node b y z n p q h k = elim (inside_compare t y z n h k) [ inl c ↦ apart b y z p q c | inr c ↦ sym (apart b z y q p c) ]

  -- a defect holds itself alone
  pub defect_alone : (x n : ℕ) → x < t.begin → Inside t x n → n ≡ x
  defect_alone x n l i = elim (inside_ring t x n i) [ inl e ↦ e | inr r ↦ absurd (childless r.0 r.1) ]
    where
      childless : (y : ℕ) → InnerChild t x y → ⊥
      childless y c = omega (arith, (nest.parents y c.0).blossom, c.1)

  -- what holds another node is a blossom
  pub holder_blossom : (x n : ℕ) → n ≢ x → Inside t x n → PresentBlossom t x
  holder_blossom x n d i = elim (inside_ring t x n i) [ inl e ↦ absurd (d e) | inr r ↦ rw r.1.1 at (nest.parents r.0 r.1.0) ]

  -- every present node is inside an outer one
  climb_out : (k n : ℕ) → 257 ≤ k + nest.rank n → T (present t n) → (o : ℕ) × T (outer t o) × Inside t o n
  climb_out zero n l h = absurd (omega (arith, nest.low n h))
  climb_out (suc k) n l h = go (state_case (at t n).state (nest.undamaged n) h) (climb_out k (up t n))
    where
      go :
          T (outer t n) ⊎ T (inner t n)
          → (257 ≤ k + nest.rank (up t n) → T (present t (up t n)) → (o : ℕ) × T (outer t o) × Inside t o (up t n))
          → (o : ℕ) × T (outer t o) × Inside t o n
      go (inl o) ih = (n, o, inside_self t n)
      go (inr i) ih =
          let r = ih (omega (arith, nest.rises n i)) (nest.parents n i).there in
          (r.0, r.1, inside-join t r.0 (up t n) n (inside_ring_node t (up t n) n (i, refl)) r.2)

  pub home : (n : ℕ) → T (present t n) → (o : ℕ) × T (outer t o) × Inside t o n
  home n h = climb_out 257 n (omega arith) h

-- ---- around a ring

module _ (t : Table) (b : ℕ) (r : Ring t b) where
  pub ring_short : Full t → length r.list ≤ 256
  ring_short full = chain_fits (next_in_ring t (at t b).ring) 256 (at t b).ring r.list r.chain (λ j m. inner_below t full j ((r.exact j).0 m).0)

-- the last node comes back to the first, and another does not
module _ (t : Table) (first d : ℕ) where
  pub comes_back : next t d ≢ none → next_in_ring t first d ≡ none → next t d ≡ first
  comes_back s e = elim (same_or_not (next t d) first) [ inl q ↦ q | inr n ↦ absurd (s (sym (ring_goes_on t first d n) ∙ e)) ]

  pub goes_on : next_in_ring t first d ≢ none → next t d ≢ first
  goes_on s e = s (ring_comes_back t first d e)
