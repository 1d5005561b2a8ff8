-- Single nodes: free, matched to a virtual vertex, or one of a pair. Where every touched slot ends so, and nothing elsewhere
-- pointed into the touched slots, the outer nodes hang together as before.
use mathlib.Core.Path.{◌≡◌, refl, sym, ◌∙◌}
use mathlib.Core.Logic.{◌≢◌, inl, inr}
use mathlib.Core.List.{List}
use Prim.Native.Nat.{ℕ}
use lib.Dec.{T}
use Rattle.slot.specs.Number.{none}
use Rattle.table.specs.Table.{Table, at, Full}
use Rattle.table.specs.Nodes.{outer}
use Rattle.rules.specs.Slots.{up, next}
use Rattle.theorems_soundness.specs.Chain.{◌∈◌}
use Rattle.theorems_soundness.specs.FactsOfNodes.{Free, Virtual, Paired, Minus, Kind, free_node, virtual_node, paired_node, root_node, minus_node, plus_node, OuterChild, Children}
use Rattle.theorems_soundness.specs.Facts.{Core}
use Rattle.theorems_soundness.proofs.ReflectSlots.{stay_grow}
use Rattle.theorems_soundness.proofs.KindLaws.{paired_kind}
use Rattle.theorems_soundness.proofs.ChildLaws.{no_child, first_child_lem, next_child}
use Rattle.theorems_soundness.specs.RuleFacts.{Single, Alone, alone_free, alone_virtual}
use Rattle.theorems_soundness.proofs.Frames.{in_or_not, some_outer, Apart, core-apart, no_children, top_upward}

-- what a single node is by S3
pub data Lone (t : Table) (n : ℕ) : Type 0 where
  lone_free : Free (at t n) → Lone t n
  lone_virtual : Virtual (at t n) → Lone t n
  lone_paired : (peer : ℕ) → Paired t n peer → Lone t n

module _ {t : Table} {n : ℕ} where
  pub lone_kind : Lone t n → Kind t n
  lone_kind (lone_free f) = free_node f
  lone_kind (lone_virtual v) = virtual_node v
  lone_kind (lone_paired peer p) = paired_kind t n peer p

  pub lone_single : Lone t n → Single t n
  lone_single (lone_free f) = record { outer = rw f.grows tt; parentless = f.parentless; childless = f.childless }
  lone_single (lone_virtual v) = record { outer = rw v.stays tt; parentless = v.parentless; childless = v.childless }
  lone_single (lone_paired peer p) = record { outer = rw p.here.stays tt; parentless = p.here.parentless; childless = p.here.childless }

pub alone_lone : {t : Table} {n : ℕ} → Alone t n → Lone t n
alone_lone (alone_free f) = lone_free f
alone_lone (alone_virtual v) = lone_virtual v

pub alone_single : {t : Table} {n : ℕ} → Alone t n → Single t n
alone_single a = lone_single (alone_lone a)

pub no_peer : (t : Table) → Full t → (w : ℕ) → Alone t w → (n : ℕ) → ¬ Paired t n w
no_peer t full w (alone_free f) n p = stay_grow p.there.stays f.grows
no_peer t full w (alone_virtual v) n p = some_outer t full n (rw p.here.stays tt) (sym p.points_back ∙ v.siblingless)

-- ---- who points to a single node: no one but its peer

module _ (t : Table) (full : Full t) (core : Core t) (w : ℕ) (single : Single t w) where
  some_single : w ≢ none
  some_single = some_outer t full w single.outer

  pub no_parent_of : (n : ℕ) → T (outer t n) → up t n ≢ w
  no_parent_of n o e = no_child t full core w single.outer single.childless n (o, e)

  pub no_first_child : (n : ℕ) → T (outer t n) → (at t n).first_child ≢ w
  no_first_child n o e =
      let k = first_child_lem t full core n o (λ z. some_single (sym e ∙ z)) in
      some_outer t full n o (sym k.1 ∙ rw (← e) at single.parentless)

  beside_minus : (n : ℕ) → T (outer t n) → Minus t (at t n) → next t n ≢ w
  beside_minus n o m e =
      let q : T (outer t (up t n)) = rw m.parent_grows tt in
      let k = next_child t full core (up t n) q n (o, refl) (λ z. some_single (sym e ∙ z)) in
      some_outer t full (up t n) q (sym k.1 ∙ rw (← e) at single.parentless)

  pub only_peer : (n : ℕ) → T (outer t n) → next t n ≡ w → Paired t n w
  only_peer n o e = go (core.kind n o)
    where
      go : Kind t n → Paired t n w
      go (free_node f) = absurd (some_single (sym e ∙ f.siblingless))
      go (virtual_node v) = absurd (some_single (sym e ∙ v.siblingless))
      go (paired_node p) = rw e at p
      go (root_node r) = absurd (some_single (sym e ∙ r.siblingless))
      go (minus_node m) = absurd (beside_minus n o m e)
      go (plus_node p) = absurd (some_single (sym e ∙ p.siblingless))

-- so single nodes, each with its peer, stand apart
pub singles-apart :
    (t : Table) (ws : List ℕ)
    → Full t
    → Core t
    → ((w : ℕ) → w ∈ ws → Single t w)
    → ((w n : ℕ) → w ∈ ws → Paired t n w → n ∈ ws)
    → Apart t ws
singles-apart t ws full core singles peers =
    record {
      parent = λ n o d m. no_parent_of t full core (up t n) (singles (up t n) m) n o refl;
      child = λ n o d m. no_first_child t full core (at t n).first_child (singles (at t n).first_child m) n o refl;
      sibling = λ n o d m. d (peers (next t n) n m (only_peer t full core (next t n) (singles (next t n) m) n o refl));
    }

-- "An outer node with neither parent nor child is free [..] or matched": a list of slots that ends so
pub ends-lone :
    (t u : Table) (ws : List ℕ)
    → Full t
    → Full u
    → Core t
    → ((n : ℕ) → ¬ (n ∈ ws) → at u n ≡ at t n)
    → Apart t ws
    → ((w : ℕ) → T (outer t w) → w ∈ ws → up t w ≡ none)
    → ((w : ℕ) → w ∈ ws → Lone u w)
    → Core u
ends-lone t u ws full also core agree apart parentless lones =
    core-apart t u ws full agree apart core (λ n o m. inl (parentless n o m)) (λ n o m. inl (ends n m).parentless) (λ n m o. lone_kind (lones n m)) lists (λ n m o. top_upward u n (some_outer u also n o) (ends n m).parentless)
  where
    ends : (n : ℕ) → n ∈ ws → Single u n
    ends n m = lone_single (lones n m)

    childless : (n : ℕ) → n ∈ ws → T (outer u n) → (c : ℕ) → ¬ OuterChild u n c
    childless n m o c k =
        elim (in_or_not c ws) [
          | inl w ↦ some_outer u also n o (sym k.1 ∙ (ends c w).parentless)
          | inr d ↦ apart.parent c (rw (agree c d) at k.0) d (rw (rw (agree c d, up) at k.1) m)
        ]

    lists : (n : ℕ) → n ∈ ws → T (outer u n) → Children u n
    lists n m o = no_children u n (ends n m).childless (childless n m o)
