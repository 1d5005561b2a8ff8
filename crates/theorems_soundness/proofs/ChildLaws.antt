-- What follows from S3 to S5 for parents and children: children of + nodes are − nodes and the other way round, a − node has
-- one child, every outer node is on its parent's list.
use mathlib.Core.Path.{◌≡◌, refl, sym, ◌∙◌}
use mathlib.Core.Logic.{◌≢◌, ◌⊎◌, inl, inr}
use mathlib.Core.List.{List, [], ◌∷◌}
use Prim.Native.Nat.{ℕ}
use native.Mathlib.Omega.{arith}
use lib.Dec.{T}
use Rattle.slot.specs.declared.state.State.TheVariants as S
use Rattle.slot.specs.Number.{none}
use Rattle.table.specs.Table.{Table, at, Full}
use Rattle.table.specs.Nodes.{outer}
use Rattle.rules.specs.Slots.{up, next}
use Rattle.theorems_soundness.specs.Chain.{◌∈◌, NoDup, Chain}
use Rattle.theorems_soundness.specs.FactsOfNodes.{Root, Minus, Plus, Kind, free_node, virtual_node, paired_node, root_node, minus_node, plus_node, OuterChild}
use Rattle.theorems_soundness.specs.Facts.{Core}
use Rattle.theorems_soundness.proofs.ReflectSlots.{grow_shrink, stay_shrink}
use Rattle.theorems_soundness.proofs.Chains.{chain_nodup, chain_start, chain_next, chain_unique, chain_before}
use Rattle.theorems_soundness.proofs.Past.{outer_below}
use Rattle.theorems_soundness.proofs.OuterLists.{parent_outer}

module _ (t : Table) (full : Full t) (core : Core t) where
  -- n is outer, and its parent, if it has one
  pub above_outer : (n : ℕ) → T (outer t n) → up t n ≢ none → T (outer t (up t n))
  above_outer = parent_outer t full core.kind

  pub outer_some : (n : ℕ) → T (outer t n) → n ≢ none
  outer_some n o = omega (arith, outer_below t full n o)

  -- ---- the list

  pub first_child_lem : (n : ℕ) → T (outer t n) → (at t n).first_child ≢ none → OuterChild t n (at t n).first_child
  first_child_lem n o d = let k = core.children n o in (k.exact (at t n).first_child).0 (chain_start (next t) (at t n).first_child k.list k.chain d)

  pub next_child : (n : ℕ) → T (outer t n) → (c : ℕ) → OuterChild t n c → next t c ≢ none → OuterChild t n (next t c)
  next_child n o c h d =
      let k = core.children n o in
      (k.exact (next t c)).0 (chain_next (next t) (at t n).first_child k.list k.chain c ((k.exact c).1 h) d)

  -- a child is first on the list, or next after another
  pub child_place : (n : ℕ) → T (outer t n) → (c : ℕ) → OuterChild t n c → (c ≡ (at t n).first_child) ⊎ ((b : ℕ) × OuterChild t n b × (next t b ≡ c))
  child_place n o c h =
      let k = core.children n o in
      elim (chain_before (next t) (at t n).first_child k.list k.chain c ((k.exact c).1 h))
      [ inl e ↦ inl e | inr r ↦ inr (r.0, (k.exact r.0).0 r.1, r.2) ]

  pub children_once : (n : ℕ) (o : T (outer t n)) → NoDup (core.children n o).list
  children_once n o = chain_nodup (next t) (at t n).first_child (core.children n o).list (core.children n o).chain

  -- a node without a first child is nobody's parent
  pub no_child : (n : ℕ) → T (outer t n) → (at t n).first_child ≡ none → (c : ℕ) → ¬ OuterChild t n c
  no_child n o e c h = let k = core.children n o in go k.list k.chain ((k.exact c).1 h)
    where
      go : (cs : List ℕ) → Chain (next t) (at t n).first_child cs → ¬ (c ∈ cs)
      go [] p m = m
      go (x ∷ cs) p m = p.1 e

  pub has_child : (n : ℕ) → T (outer t n) → (c : ℕ) → OuterChild t n c → (at t n).first_child ≢ none
  has_child n o c h e = no_child n o e c h

  -- ---- kinds along the tree

  below_grow : (c : ℕ) → up t c ≢ none → (at t (up t c)).state ≡ S.Grow → Kind t c → Minus t (at t c)
  below_grow c d g (free_node f) = absurd (d f.parentless)
  below_grow c d g (virtual_node v) = absurd (d v.parentless)
  below_grow c d g (paired_node p) = absurd (d p.here.parentless)
  below_grow c d g (root_node r) = absurd (d r.parentless)
  below_grow c d g (minus_node m) = m
  below_grow c d g (plus_node p) = absurd (grow_shrink g p.parent_shrinks)

  below_shrink : (c : ℕ) → up t c ≢ none → (at t (up t c)).state ≡ S.Shrink → Kind t c → Plus t (at t c)
  below_shrink c d g (free_node f) = absurd (d f.parentless)
  below_shrink c d g (virtual_node v) = absurd (d v.parentless)
  below_shrink c d g (paired_node p) = absurd (d p.here.parentless)
  below_shrink c d g (root_node r) = absurd (d r.parentless)
  below_shrink c d g (minus_node m) = absurd (grow_shrink m.parent_grows g)
  below_shrink c d g (plus_node p) = p

  -- a child of a Grow node is a − node, a child of a Shrink node a + node
  pub child_of_grow : (n c : ℕ) → T (outer t n) → (at t n).state ≡ S.Grow → OuterChild t n c → Minus t (at t c)
  child_of_grow n c o g h = below_grow c (λ e. outer_some n o (sym h.1 ∙ e)) (rw h.1 g) (core.kind c h.0)

  pub child_of_shrink : (n c : ℕ) → T (outer t n) → (at t n).state ≡ S.Shrink → OuterChild t n c → Plus t (at t c)
  child_of_shrink n c o g h = below_shrink c (λ e. outer_some n o (sym h.1 ∙ e)) (rw h.1 g) (core.kind c h.0)

  -- a Shrink node is a − node
  shrink_minus : (n : ℕ) → (at t n).state ≡ S.Shrink → Kind t n → Minus t (at t n)
  shrink_minus n g (free_node f) = absurd (grow_shrink f.grows g)
  shrink_minus n g (virtual_node v) = absurd (stay_shrink v.stays g)
  shrink_minus n g (paired_node p) = absurd (stay_shrink p.here.stays g)
  shrink_minus n g (root_node r) = absurd (grow_shrink r.grows g)
  shrink_minus n g (minus_node m) = m
  shrink_minus n g (plus_node p) = absurd (grow_shrink p.grows g)

  pub shrink_is_minus : (n : ℕ) → (at t n).state ≡ S.Shrink → Minus t (at t n)
  shrink_is_minus n g = shrink_minus n g (core.kind n (rw g tt))

  -- a Grow node with a child is a root or another + node
  grow_kind : (n : ℕ) → (at t n).state ≡ S.Grow → (at t n).first_child ≢ none → Kind t n → Root (at t n) ⊎ Plus t (at t n)
  grow_kind n g d (free_node f) = absurd (d f.childless)
  grow_kind n g d (virtual_node v) = absurd (d v.childless)
  grow_kind n g d (paired_node p) = absurd (d p.here.childless)
  grow_kind n g d (root_node r) = inl r
  grow_kind n g d (minus_node m) = absurd (grow_shrink g m.shrinks)
  grow_kind n g d (plus_node p) = inr p

  -- so the parent of a + node is a − node, and the parent of a − node a root or a + node
  pub plus_below_minus : (n : ℕ) → Plus t (at t n) → Minus t (at t (up t n))
  plus_below_minus n p = shrink_is_minus (up t n) p.parent_shrinks

  pub minus_below_plus : (n : ℕ) → Minus t (at t n) → Root (at t (up t n)) ⊎ Plus t (at t (up t n))
  minus_below_plus n m =
      let o : T (outer t n) = rw m.shrinks tt in
      let a : T (outer t (up t n)) = rw m.parent_grows tt in
      grow_kind (up t n) m.parent_grows (has_child (up t n) a n (o, refl)) (core.kind (up t n) a)

  -- "exactly one child"
  pub minus_child : (n : ℕ) (o : T (outer t n)) → Minus t (at t n) → (core.children n o).list ≡ (at t n).first_child ∷ []
  minus_child n o m =
      let k = core.children n o in
      chain_unique (next t) (at t n).first_child k.list ((at t n).first_child ∷ []) k.chain (refl, m.has_child, m.only_child)

  pub minus_only : (n c : ℕ) → T (outer t n) → Minus t (at t n) → OuterChild t n c → c ≡ (at t n).first_child
  minus_only n c o m h = go (rw (minus_child n o m) at (((core.children n o).exact c).1 h))
    where
      go : c ∈ ((at t n).first_child ∷ []) → c ≡ (at t n).first_child
      go (inl e) = e
      go (inr z) = absurd z
