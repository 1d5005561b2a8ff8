-- S5 and S7 of outer nodes: the child list as an exact list, and the way up as a list that ends.
use mathlib.Core.Path.{◌≡◌}
use mathlib.Core.Logic.{◌≢◌, ◌↔◌}
use mathlib.Core.List.{List}
use Prim.Native.Nat.{ℕ, ◌≤◌, ◌<◌}
use native.Mathlib.Omega.{arith}
use lib.Dec.{T}
use lib.ListN.{length}
use Rattle.slot.specs.Number.{none}
use Rattle.table.specs.Table.{Table, at, Full}
use Rattle.table.specs.Nodes.{outer}
use Rattle.rules.specs.Slots.{up, next}
use Rattle.rules.specs.Walk.{walk, ends}
use Rattle.rules.specs.Sound.{children, s5, s7}
use Rattle.theorems_soundness.specs.Chain.{◌∈◌, Chain}
use Rattle.theorems_soundness.specs.FactsOfNodes.{Kind, free_node, virtual_node, paired_node, root_node, minus_node, plus_node, OuterChild, Children, Upward}
use Rattle.theorems_soundness.proofs.Reflect.{tests}
use Rattle.theorems_soundness.proofs.Chains.{walk_chain, chain_fits, chain_walk, chain_walk_below, chain-all}
use Rattle.theorems_soundness.proofs.Past.{outer_below}

-- ---- S5

-- what S5's test says, in facts about the walk
abbrev ChildWalk : Table → ℕ → Type 0
ChildWalk t n =
    (T (ends 256 (next t) (at t n).first_child) × ((j : ℕ) → j ∈ children t n → OuterChild t n j))
    × ((j : ℕ) → j < 256 → OuterChild t n j → j ∈ children t n)

child_walk↔ : (t : Table) (n : ℕ) → T (s5 t n) ↔ (T (outer t n) → ChildWalk t n)
unfolding s5
child_walk↔ t n = (λ h. simp tests at h, λ f. simp tests f)

module _ (t : Table) (full : Full t) where
  pub s5→children : (n : ℕ) → T (s5 t n) → T (outer t n) → Children t n
  s5→children n h o =
      let r = (child_walk↔ t n).0 h o in
      record {
        list = children t n;
        chain = walk_chain (next t) 256 (at t n).first_child r.0.0;
        exact = λ j. (r.0.1 j, λ p. r.1 j (outer_below t full j p.0) p);
      }

  -- "once each", so the walk of 256 finds them all
  children_found : (n : ℕ) (c : Children t n) → T (ends 256 (next t) (at t n).first_child) × (children t n ≡ c.list)
  children_found n c = chain_walk_below (next t) 256 (at t n).first_child c.list c.chain (λ j m. outer_below t full j ((c.exact j).0 m).0)

  children→walk : (n : ℕ) → Children t n → ChildWalk t n
  children→walk n c =
      let f = children_found n c in
      ((f.0, λ j m. (c.exact j).0 (rw f.1 at m)), λ j l p. rw f.1 ((c.exact j).1 p))

  pub children→s5 : (n : ℕ) → (T (outer t n) → Children t n) → T (s5 t n)
  children→s5 n k = (child_walk↔ t n).1 (λ o. children→walk n (k o))

  -- ---- S7

  pub s7→upward : (n : ℕ) → T (s7 t n) → T (outer t n) → Upward t n
  unfolding s7
  s7→upward n h o = let r = simp tests at h in record { list = walk 257 (up t) n; chain = walk_chain (up t) 257 n (r.0 o) }

  module _ (kind : (n : ℕ) → T (outer t n) → Kind t n) where
    -- the parent of an outer node, if it has one, is outer
    outer_above : (n : ℕ) → Kind t n → up t n ≢ none → T (outer t (up t n))
    outer_above n (free_node f) d = absurd (d f.parentless)
    outer_above n (virtual_node v) d = absurd (d v.parentless)
    outer_above n (paired_node p) d = absurd (d p.here.parentless)
    outer_above n (root_node r) d = absurd (d r.parentless)
    outer_above n (minus_node m) d = rw m.parent_grows tt
    outer_above n (plus_node p) d = rw p.parent_shrinks tt

    pub parent_outer : (n : ℕ) → T (outer t n) → up t n ≢ none → T (outer t (up t n))
    parent_outer n o = outer_above n (kind n o)

    pub upward-outer : (n : ℕ) → T (outer t n) → (cs : List ℕ) → Chain (up t) n cs → (j : ℕ) → j ∈ cs → T (outer t j)
    upward-outer n o cs c = chain-all (up t) (λ j. T (outer t j)) n cs parent_outer (λ _. o) c

    pub upward_fits : (n : ℕ) → T (outer t n) → (cs : List ℕ) → Chain (up t) n cs → length cs ≤ 256
    upward_fits n o cs c = chain_fits (up t) 256 n cs c (λ j m. outer_below t full j (upward-outer n o cs c j m))

    pub upward→ends : (n : ℕ) → T (outer t n) → Upward t n → T (ends 257 (up t) n)
    upward→ends n o u = (chain_walk (up t) 257 n u.list u.chain (omega (arith, upward_fits n o u.list u.chain))).0
