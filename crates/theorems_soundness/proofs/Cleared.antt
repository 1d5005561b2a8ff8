-- What matching the list below a Grow node leaves. The rule works on a table u in which that node itself may already be changed;
-- beside it goes a sound table in which the node has lost what hung below it, and which is the rule's in every slot that the rule
-- changes.
use mathlib.Core.Path.{◌≡◌, refl, ◌∙◌}
use mathlib.Core.Logic.{◌≢◌, ◌⊎◌, inl, inr}
use Prim.Native.Nat.{ℕ}
use lib.Dec.{T}
use Rattle.slot.specs.declared.state.State.TheVariants as S
use Rattle.slot.specs.Number.{none}
use Rattle.slot.specs.Slot.{Link}
use Rattle.table.specs.Table.{Table, at, put, Full}
use Rattle.table.specs.Nodes.{outer}
use Rattle.rules.specs.Act.{say, change, ◌then◌, alter}
use Rattle.rules.specs.Slots.{with_first_child, up}
use Rattle.rules.specs.Matching.{temporary_match}
use Rattle.theorems_soundness.specs.FactsOfNodes.{Paired, OuterChild}
use Rattle.theorems_soundness.proofs.Reflect.{same_or_not}
use Rattle.theorems_soundness.proofs.ChildLaws.{no_child}
use Rattle.theorems_soundness.specs.RuleFacts.{Whole, Below}
use Rattle.theorems_soundness.proofs.Frames.{Pruned}
use Rattle.theorems_soundness.proofs.Renewing.{Kept, SameCounts, kept_self}

-- the list below the Grow node y of t is to be cleared, in u, which is t below y
pub record Task (t : Table) (y : ℕ) (u : Table) : Type 0 where
  pub whole : Whole t
  pub grows : (at t y).state ≡ S.Grow
  pub full : Full u
  pub agree : (j : ℕ) → Below t y j → at u j ≡ at t j

-- j ends in a pair of nodes that were below y
pub record Mated (t : Table) (y : ℕ) (x : Table) (j : ℕ) : Type 0 where
  pub peer : ℕ
  pub below : Below t y peer
  pub pair : Paired x j peer

-- slot j of v, which the rule made of u, and of x, the sound table made of t: below y, the same and in a pair; or neither has
-- changed
pub data Ended (t : Table) (y : ℕ) (u v x : Table) (j : ℕ) : Type 0 where
  touched : Below t y j → at v j ≡ at x j → Mated t y x j → Ended t y u v x j
  untouched : at v j ≡ at u j → (j ≢ y → at x j ≡ at t j) → Ended t y u v x j

-- what hung below y is cleared away
pub record Cleared (t : Table) (y : ℕ) (u v : Table) : Type 0 where
  pub table : Table
  pub whole : Whole table
  pub kept : Kept t table
  pub same : SameCounts t table
  pub here : at table y ≡ with_first_child none (at t y)
  pub each : (j : ℕ) → Ended t y u v table j
  pub pairs : (p : ℕ) → OuterChild t y p → Paired table p (at t p).first_child
  pub full : Full v
  pub counts : SameCounts u v

module _ (t : Table) (y : ℕ) (u v : Table) (r : Cleared t y u v) (outer_y : T (outer t y)) where
  ended_was : (j : ℕ) → (j ≡ y) ⊎ (j ≢ y) → Ended t y u v r.table j → T (outer r.table j) → T (outer t j)
  ended_was j h (touched b e p) o = b.1.0
  ended_was j (inl q) (untouched e h) o = rw q outer_y
  ended_was j (inr d) (untouched e h) o = rw (h d) at o

  pub cleared_was : (j : ℕ) → T (outer r.table j) → T (outer t j)
  cleared_was j = ended_was j (same_or_not j y) (r.each j)

  ended_pruned : (j : ℕ) → (j ≡ y) ⊎ (j ≢ y) → Ended t y u v r.table j → (up r.table j ≡ up t j) ⊎ (up r.table j ≡ none)
  ended_pruned j h (touched b e p) = inr p.pair.here.parentless
  ended_pruned j (inl q) (untouched e h) = inl (rw (q, up, r.here))
  ended_pruned j (inr d) (untouched e h) = inl (rw (up, h d))

  pub cleared_pruned : Pruned t r.table
  cleared_pruned j = ended_pruned j (same_or_not j y) (r.each j)

  -- what is not below y and is not y is as it was
  pub cleared_other : (j : ℕ) → ¬ Below t y j → j ≢ y → at r.table j ≡ at t j
  cleared_other j d q = go (r.each j)
    where
      go : Ended t y u v r.table j → at r.table j ≡ at t j
      go (touched b e p) = absurd (d b)
      go (untouched e h) = h q

  pub cleared_left : (j : ℕ) → ¬ Below t y j → at v j ≡ at u j
  cleared_left j d = go (r.each j)
    where
      go : Ended t y u v r.table j → at v j ≡ at u j
      go (touched b e p) = absurd (d b)
      go (untouched e h) = e

pub pruned_then : (t u v : Table) → Pruned t u → Pruned u v → Pruned t v
pruned_then t u v p q j = go (p j) (q j)
  where
    go : (up u j ≡ up t j) ⊎ (up u j ≡ none) → (up v j ≡ up u j) ⊎ (up v j ≡ none) → (up v j ≡ up t j) ⊎ (up v j ≡ none)
    go a (inr e) = inr e
    go (inl d) (inl e) = inl (e ∙ d)
    go (inr d) (inl e) = inr (e ∙ d)

pub counts_then : (t u v : Table) → SameCounts t u → SameCounts u v → SameCounts t v
counts_then t u v p q = record { begin = q.begin ∙ p.begin; defects = q.defects ∙ p.defects; blossoms = q.blossoms ∙ p.blossoms }

pub match_counts : (t : Table) (a : ℕ) (l : Link) (b : ℕ) → SameCounts t (temporary_match a l b t).table
unfolding temporary_match ◌then◌ say change alter put
match_counts t a l b = record { begin = refl; defects = refl; blossoms = refl }

-- nothing hangs below y
pub cleared-none : (t : Table) (y : ℕ) (u : Table) → Whole t → T (outer t y) → Full u → (at t y).first_child ≡ none → Cleared t y u u
cleared-none t y u w o full e =
    record {
      table = t;
      whole = w;
      kept = kept_self t w.full w.rest;
      same = record { begin = refl; defects = refl; blossoms = refl };
      here = let s = at t y in λ i. record { state = s.state; parent = s.parent; first_child = e i; sibling = s.sibling; ring = s.ring; link = s.link };
      each = λ j. untouched refl (λ _. refl);
      pairs = λ p k. absurd (no_child t w.full w.core y o e p k);
      full = full;
      counts = record { begin = refl; defects = refl; blossoms = refl };
    }
