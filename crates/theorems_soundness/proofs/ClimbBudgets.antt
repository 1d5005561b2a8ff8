-- Climbs and walks on a sound table: a larger budget finds the same.
use mathlib.Core.Path.{◌≡◌, refl, ap, sym, ◌∙◌}
use mathlib.Core.Bool.{Bool, true, false, ◌&&◌, ◌||◌}
use mathlib.Core.List.{List}
use Prim.Native.Nat.{ℕ, zero, suc, ◌+◌, ◌≤◌, ◌<◌}
use native.Mathlib.Omega.{arith}
use lib.Dec.{T, eqb}
use Rattle.lists.specs.Choice.{pick}
use Rattle.table.specs.Table.{Table, at}
use Rattle.table.specs.Nodes.{outer, inner}
use Rattle.table.specs.Climb.{inside_within, inside, outer_blossom_within, outer_blossom}
use Rattle.rules.specs.Slots.{up, next}
use Rattle.rules.specs.Walk.{walk}
use Rattle.rules.specs.Sound.{children, next_in_ring, ring_of}
use Rattle.rules.specs.Trees.{upward, root_within, root}
use Rattle.theorems_soundness.specs.Chain.{◌∈◌, Chain}
use Rattle.theorems_soundness.specs.FactsOfBlossoms.{PresentBlossom}
use Rattle.theorems_soundness.proofs.Reflect.{pick_no}
use Rattle.theorems_soundness.proofs.Chains.{chain_walk, chain_fits}
use Rattle.theorems_soundness.proofs.Past.{inner_below, outer_below}
use Rattle.theorems_soundness.specs.RuleFacts.{Whole}
use Rattle.theorems_soundness.proofs.WaysUp.{upward_chain, upward_short, root_end, root_is_end}
use Rattle.theorems_soundness.proofs.ChildLaws.{outer_some}

climb_on : (e b u v : Bool) → (T b → u ≡ v) → (e || (b && u)) ≡ (e || (b && v))
climb_on e true u v h = ap (λ (x : Bool). e || x) (h tt)
climb_on e false u v h = refl

climb_ends : (e b u : Bool) → ¬ T b → e ≡ (e || (b && u))
climb_ends true b u d = refl
climb_ends false true u d = absurd (d tt)
climb_ends false false u d = refl

climb_to : (b : Bool) (u v n : ℕ) → (T b → u ≡ v) → pick b u n ≡ pick b v n
climb_to true u v n h = h tt
climb_to false u v n h = refl

module _ (t : Table) (w : Whole t) where
  -- ---- climbs through the parents of inner nodes: each step leads to a larger number below 256

  past_not_inner : (n : ℕ) → 256 ≤ n → ¬ T (inner t n)
  past_not_inner n l i = absurd (omega (arith, inner_below t w.full n i))

  inside-same : (x j k n : ℕ) → 256 ≤ j + n → 256 ≤ k + n → inside_within j t x n ≡ inside_within k t x n
  unfolding inside_within
  inside-same x zero zero n p q = refl
  inside-same x zero (suc k) n p q = climb_ends (eqb n x) (inner t n) (inside_within k t x (up t n)) (past_not_inner n (omega arith))
  inside-same x (suc j) zero n p q = sym (climb_ends (eqb n x) (inner t n) (inside_within j t x (up t n)) (past_not_inner n (omega arith)))
  inside-same x (suc j) (suc k) n p q =
      climb_on (eqb n x) (inner t n) (inside_within j t x (up t n)) (inside_within k t x (up t n))
      (λ i. inside-same x j k (up t n) (omega (arith, (w.rest.inners n i).larger)) (omega (arith, (w.rest.inners n i).larger)))

  outer_blossom_same : (j k n : ℕ) → 256 ≤ j + n → 256 ≤ k + n → outer_blossom_within j t n ≡ outer_blossom_within k t n
  unfolding outer_blossom_within
  outer_blossom_same zero zero n p q = refl
  outer_blossom_same zero (suc k) n p q = sym (pick_no (inner t n) (outer_blossom_within k t (up t n)) n (past_not_inner n (omega arith)))
  outer_blossom_same (suc j) zero n p q = pick_no (inner t n) (outer_blossom_within j t (up t n)) n (past_not_inner n (omega arith))
  outer_blossom_same (suc j) (suc k) n p q =
      climb_to (inner t n) (outer_blossom_within j t (up t n)) (outer_blossom_within k t (up t n)) n
      (λ i. outer_blossom_same j k (up t n) (omega (arith, (w.rest.inners n i).larger)) (omega (arith, (w.rest.inners n i).larger)))

  pub inside_enough : (k : ℕ) → 256 ≤ k → (x n : ℕ) → inside_within k t x n ≡ inside t x n
  inside_enough k l x n = inside-same x k 256 n (omega arith) (omega arith)

  pub outer_blossom_enough : (k : ℕ) → 256 ≤ k → (n : ℕ) → outer_blossom_within k t n ≡ outer_blossom t n
  outer_blossom_enough k l n = outer_blossom_same k 256 n (omega arith) (omega arith)

  -- ---- ways up, child lists and rings

  pub upward_enough : (k : ℕ) → 257 ≤ k → (n : ℕ) → T (outer t n) → walk k (up t) n ≡ upward t n
  upward_enough k l n o =
      (chain_walk (up t) k n (upward t n) (upward_chain t w.full w.core n o) (omega (arith, upward_short t w.full w.core n o))).1

  pub root_enough : (k : ℕ) → 256 ≤ k → (n : ℕ) → T (outer t n) → root_within k t n ≡ root t n
  root_enough k l n o =
      root_end t k n (upward t n) (upward_chain t w.full w.core n o) (outer_some t w.full w.core n o) (omega (arith, upward_short t w.full w.core n o))
      ∙ sym (root_is_end t w.full w.core n o)

  short_walk : (follow : ℕ → ℕ) (a : ℕ) (cs : List ℕ) → Chain follow a cs → ((j : ℕ) → j ∈ cs → j < 256) → (k : ℕ) → 256 ≤ k → walk k follow a ≡ walk 256 follow a
  short_walk follow a cs c h k l =
      let fits = chain_fits follow 256 a cs c h in
      (chain_walk follow k a cs c (omega (arith, fits))).1 ∙ sym (chain_walk follow 256 a cs c fits).1

  pub children_enough : (k : ℕ) → 256 ≤ k → (n : ℕ) → T (outer t n) → walk k (next t) (at t n).first_child ≡ children t n
  children_enough k l n o =
      let c = w.core.children n o in
      short_walk (next t) (at t n).first_child c.list c.chain (λ j m. outer_below t w.full j ((c.exact j).0 m).0) k l

  pub ring_enough : (k : ℕ) → 256 ≤ k → (b : ℕ) → PresentBlossom t b → walk k (next_in_ring t (at t b).ring) (at t b).ring ≡ ring_of t b
  ring_enough k l b p =
      let r = w.rest.rings b p in
      short_walk (next_in_ring t (at t b).ring) (at t b).ring r.list r.chain (λ j m. inner_below t w.full j ((r.exact j).0 m).0) k l
