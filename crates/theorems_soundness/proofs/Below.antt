-- Nodes below a node in its tree: no node is below itself, and cutting nodes off brings none below another. And how many nodes
-- have a parent, which bounds every walk down a tree.
use mathlib.Core.Path.{◌≡◌, ap, sym, ◌∙◌}
use mathlib.Core.Logic.{◌≢◌, ◌⊎◌, inl, inr}
use mathlib.Core.Bool.{Bool, true, false, ◌&&◌}
use mathlib.Core.List.{List, [], ◌∷◌}
use Prim.Native.Nat.{ℕ, zero, suc, ◌+◌, ◌≤◌, ◌<◌}
use native.Mathlib.Omega.{arith}
use lib.Dec.{T}
use lib.ListN.{length}
use Rattle.lists.specs.Choice.{pick}
use Rattle.slot.specs.Number.{none}
use Rattle.table.specs.Table.{Table, Full}
use Rattle.table.specs.Nodes.{outer}
use Rattle.rules.specs.Slots.{is_some, up}
use Rattle.rules.proofs.DefectCounts.{bit_most}
use Rattle.theorems_soundness.specs.Chain.{Chain, Steps}
use Rattle.theorems_soundness.specs.FactsOfNodes.{OuterChild}
use Rattle.theorems_soundness.specs.Facts.{Core}
use Rattle.theorems_soundness.proofs.Reflect.{same_or_not, tests}
use Rattle.theorems_soundness.proofs.Chains.{chain_unique}
use Rattle.theorems_soundness.proofs.Climbing.{steps_join}
use Rattle.theorems_soundness.proofs.Past.{outer_below}
use Rattle.theorems_soundness.specs.RuleFacts.{Below}
use Rattle.theorems_soundness.proofs.Frames.{some_outer, Pruned}

pub below_child : (t : Table) (y j : ℕ) → OuterChild t y j → Below t y j
below_child t y j c = (0, c)

pub below_join : (t : Table) (y i j : ℕ) → Below t y i → Below t i j → Below t y j
below_join t y i j p q = (q.0 + suc p.0, (q.1.0, steps_join (outer t) (up t) q.0 (suc p.0) (up t j) i y q.1.1 p.1))

-- the first step
pub below_step : (t : Table) (y j : ℕ) → Below t y j → (up t j ≡ y) ⊎ Below t y (up t j)
below_step t y j (zero, s) = inl s.1
below_step t y j (suc k, s) = inr (k, s.1)

module _ (t : Table) (full : Full t) where
  outer_not_none : (n : ℕ) → T (outer t n) → n ≢ none
  outer_not_none = some_outer t full

  -- a node without a parent is below none
  pub top_not_below : (y j : ℕ) → y ≢ none → up t j ≡ none → ¬ Below t y j
  top_not_below y j d e (zero, s) = d (sym s.1 ∙ e)
  top_not_below y j d e (suc k, s) = outer_not_none (up t j) s.1.0 e

  -- a way up is longer by the steps between
  steps-longer :
      (k a b : ℕ) (cs ds : List ℕ)
      → Steps (outer t) (up t) k a b
      → Chain (up t) a cs
      → Chain (up t) b ds
      → length cs ≡ k + length ds
  steps-longer zero a b cs ds s c d = ap length (chain_unique (up t) b cs ds (rw s at c) d) ∙ omega arith
  steps-longer (suc k) a b [] ds s c d = absurd (outer_not_none a s.0 c)
  steps-longer (suc k) a b (x ∷ cs) ds s c d = omega (arith, steps-longer k (up t a) b cs ds s.1 (rw (← c.0) at c.2) d)

  pub below_longer : (y j : ℕ) (cs ds : List ℕ) → Below t y j → Chain (up t) j cs → Chain (up t) y ds → length ds < length cs
  below_longer y j cs ds b c d = omega (arith, steps-longer (suc b.0) j y cs ds b.1 c d)

  pub not_below_self : Core t → (n : ℕ) → ¬ Below t n n
  not_below_self core n b =
      let w = core.upward n b.1.0 in
      omega (arith, below_longer n n w.list w.list b w.chain w.chain)

-- cutting off
module _ (t u : Table) (full : Full u) (pruned : Pruned t u) (was : (j : ℕ) → T (outer u j) → T (outer t j)) where
  pruned_steps : (y : ℕ) → y ≢ none → (k j : ℕ) → Steps (outer u) (up u) k j y → Steps (outer t) (up t) k j y
  pruned_steps y d zero j s = s
  pruned_steps y d (suc k) j s = go (pruned j) (pruned_steps y d k (up u j) s.1)
    where
      go : (up u j ≡ up t j) ⊎ (up u j ≡ none) → Steps (outer t) (up t) k (up u j) y → Steps (outer t) (up t) (suc k) j y
      go (inl e) r = (was j s.0, rw e at r)
      go (inr e) r = absurd (top_not_below u full y j d e (k, s))

  pub pruned_below : (y j : ℕ) → y ≢ none → Below u y j → Below t y j
  pruned_below y j d b = (b.0, pruned_steps y d (suc b.0) j b.1)

-- ---- how many nodes have a parent

unfoldable how_many : (ℕ → Bool) → ℕ → ℕ
how_many test zero = 0
how_many test (suc n) = pick (test n) 1 0 + how_many test n

bit_fewer : (a b : Bool) → (T a → T b) → pick {A = ℕ} a 1 0 ≤ pick b 1 0
bit_fewer true true h = omega arith
bit_fewer true false h = absurd (h tt)
bit_fewer false b h = omega arith

bit_less : (a b : Bool) → ¬ T a → T b → pick {A = ℕ} a 1 0 < pick b 1 0
bit_less true b h p = absurd (h tt)
bit_less false true h p = omega arith
bit_less false false h p = absurd p

how_many_most : (f : ℕ → Bool) (n : ℕ) → how_many f n ≤ n
unfolding how_many
how_many_most f zero = omega arith
how_many_most f (suc n) = omega (arith, how_many_most f n, bit_most (f n))

module _ (f g : ℕ → Bool) (h : (j : ℕ) → T (f j) → T (g j)) where
  how_many_fewer : (n : ℕ) → how_many f n ≤ how_many g n
  unfolding how_many
  how_many_fewer zero = omega arith
  how_many_fewer (suc n) = omega (arith, how_many_fewer n, bit_fewer (f n) (g n) (h n))

  how_many_less : (n j : ℕ) → j < n → ¬ T (f j) → T (g j) → how_many f n < how_many g n
  unfolding how_many
  how_many_less zero j l d p = absurd (omega arith)
  how_many_less (suc n) j l d p = go (same_or_not j n) (how_many_less n j)
    where
      go : (j ≡ n) ⊎ (j ≢ n) → (j < n → ¬ T (f j) → T (g j) → how_many f n < how_many g n) → pick (f n) 1 0 + how_many f n < pick (g n) 1 0 + how_many g n
      go (inl e) ih = omega (arith, how_many_fewer n, bit_less (f n) (g n) (λ q. d (rw e q)) (rw e at p))
      go (inr e) ih = omega (arith, ih (omega arith) d p, bit_fewer (f n) (g n) (h n))

-- an outer node with a parent
abbrev is_tied : Table → ℕ → Bool
is_tied t n = outer t n && is_some (up t n)

pub tied : Table → ℕ
tied t = how_many (is_tied t) 256

pub tied_most : (t : Table) → tied t ≤ 256
unfolding tied
tied_most t = how_many_most (is_tied t) 256

pub tied_some : (t : Table) → Full t → (n : ℕ) → T (outer t n) → up t n ≢ none → 0 < tied t
unfolding tied
tied_some t full n o d = omega (arith, how_many_less (λ _. false) (is_tied t) (λ j z. absurd z) 256 n (outer_below t full n o) (λ z. z) (simp tests (o, d)))

module _ (t u : Table) (pruned : Pruned t u) (was : (j : ℕ) → T (outer u j) → T (outer t j)) where
  still_tied : (j : ℕ) → T (is_tied u j) → T (is_tied t j)
  still_tied j h = let r = simp tests at h in simp tests (was j r.0, elim (pruned j) [ inl e ↦ rw e at r.1 | inr e ↦ absurd (r.1 e) ])

  pub tied_less : Full t → (n : ℕ) → T (outer t n) → up t n ≢ none → up u n ≡ none → tied u < tied t
  unfolding tied
  tied_less full n o d e =
      how_many_less (is_tied u) (is_tied t) still_tied 256 n (outer_below t full n o) (λ h. let r = simp tests at h in r.1 e) (simp tests (o, d))
