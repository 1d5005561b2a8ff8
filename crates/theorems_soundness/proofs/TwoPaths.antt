-- The two upward paths of a blossom that is to be made, as facts: each is a part of its own, the meeting node, and what both
-- share above it. The meeting node is a + node, and so each own part has an even number of nodes.
use mathlib.Core.Path.{◌≡◌, refl, sym, subst, ◌∙◌}
use mathlib.Core.Logic.{◌≢◌, ◌⊎◌, inl, inr}
use mathlib.Core.List.{List, [], ◌∷◌, ◌++◌}
use Prim.Native.Nat.{ℕ, suc, ◌+◌}
use native.Mathlib.Omega.{arith}
use lib.Dec.{T}
use lib.ListN.{length}
use Rattle.slot.specs.declared.state.State.TheVariants as S
use Rattle.slot.specs.Number.{none}
use Rattle.table.specs.Table.{Table, at, Full}
use Rattle.table.specs.Nodes.{outer}
use Rattle.rules.specs.Slots.{up}
use Rattle.rules.specs.Trees.{upward}
use Rattle.theorems_soundness.specs.Chain.{◌∈◌, Chain}
use Rattle.theorems_soundness.specs.FactsOfNodes.{FullLink, Kind, free_node, virtual_node, paired_node, root_node, minus_node, plus_node, OuterChild}
use Rattle.theorems_soundness.specs.Facts.{Core}
use Rattle.theorems_soundness.proofs.ReflectSlots.{grow_shrink}
use Rattle.theorems_soundness.proofs.Members.{in_left, in_right, Split, in_split}
use Rattle.theorems_soundness.proofs.Chains.{chain_split, chain_unique}
use Rattle.theorems_soundness.proofs.ChildLaws.{no_child, minus_only}
use Rattle.theorems_soundness.proofs.WaysUp.{FirstShared, upward_chain, upward_all_outer}

-- ---- a chain with a mark on it

module _ (f : ℕ → ℕ) where
  -- from a node before the mark the chain goes on to another such, or to the mark
  pub mark_next : (a : ℕ) (xs : List ℕ) (m : ℕ) (ys : List ℕ) → Chain f a (xs ++ (m ∷ ys)) → (j : ℕ) → j ∈ xs → (f j ∈ xs) ⊎ (f j ≡ m)
  mark_next a [] m ys c j i = absurd i
  mark_next a (x ∷ []) m ys c j (inl e) = inr (rw e c.2.0)
  mark_next a (x ∷ []) m ys c j (inr i) = absurd i
  mark_next a (x ∷ (z ∷ xs)) m ys c j (inl e) = inl (inr (inl (rw e c.2.0)))
  mark_next a (x ∷ (z ∷ xs)) m ys c j (inr i) = elim (mark_next (f x) (z ∷ xs) m ys c.2 j i) [ inl q ↦ inl (inr q) | inr q ↦ inr q ]

  -- a node before the mark, and the mark, is the first or stands after another
  pub mark_before : (a : ℕ) (xs : List ℕ) (m : ℕ) (ys : List ℕ) → Chain f a (xs ++ (m ∷ ys)) → (j : ℕ) → (j ∈ xs) ⊎ (j ≡ m) → (j ≡ a) ⊎ ((i : ℕ) × (i ∈ xs) × (f i ≡ j))
  mark_before a [] m ys c j (inl i) = absurd i
  mark_before a [] m ys c j (inr e) = inl (e ∙ sym c.0)
  mark_before a (x ∷ xs) m ys c j (inl (inl e)) = inl (e ∙ sym c.0)
  mark_before a (x ∷ xs) m ys c j (inl (inr i)) =
      elim (mark_before (f x) xs m ys c.2 j (inl i)) [ inl e ↦ inr (x, inl refl, sym e) | inr q ↦ inr (q.0, inr q.1, q.2) ]
  mark_before a (x ∷ xs) m ys c j (inr e) =
      elim (mark_before (f x) xs m ys c.2 j (inr e)) [ inl e ↦ inr (x, inl refl, sym e) | inr q ↦ inr (q.0, inr q.1, q.2) ]

  -- the first is not none
  pub mark_some : (a : ℕ) (xs : List ℕ) (m : ℕ) (ys : List ℕ) → Chain f a (xs ++ (m ∷ ys)) → a ≢ none
  mark_some a [] m ys c = c.1
  mark_some a (x ∷ xs) m ys c = c.1

-- ---- states along a tree

-- a node with a parent has a full link, and its parent the other state
pub record Limb (t : Table) (n : ℕ) : Type 0 where
  pub linked : FullLink (at t n).link
  pub turns : (((at t n).state ≡ S.Grow) × ((at t (up t n)).state ≡ S.Shrink)) ⊎ (((at t n).state ≡ S.Shrink) × ((at t (up t n)).state ≡ S.Grow))

-- the paths from x and y up to m: their own parts, and what they share above m
pub record TwoPaths (t : Table) (x y m : ℕ) : Type 0 where
  pub xs : List ℕ
  pub ys : List ℕ
  pub above : List ℕ
  pub way_1 : Chain (up t) x (xs ++ (m ∷ above))
  pub way_2 : Chain (up t) y (ys ++ (m ∷ above))
  pub apart : (j : ℕ) → j ∈ xs → ¬ (j ∈ ys)
  pub grows : (at t m).state ≡ S.Grow

module _ (t : Table) (full : Full t) (core : Core t) where
  limb_of : (n : ℕ) → up t n ≢ none → Kind t n → Limb t n
  limb_of n d (free_node f) = absurd (d f.parentless)
  limb_of n d (virtual_node v) = absurd (d v.parentless)
  limb_of n d (paired_node p) = absurd (d p.here.parentless)
  limb_of n d (root_node r) = absurd (d r.parentless)
  limb_of n d (minus_node m) = record { linked = m.linked; turns = inr (m.shrinks, m.parent_grows) }
  limb_of n d (plus_node p) = record { linked = p.linked; turns = inl (p.grows, p.parent_shrinks) }

  pub limb : (n : ℕ) → T (outer t n) → up t n ≢ none → Limb t n
  limb n o d = limb_of n d (core.kind n o)

  pub above_grow : (n : ℕ) → (at t n).state ≡ S.Grow → up t n ≢ none → (at t (up t n)).state ≡ S.Shrink
  above_grow n g d = elim (limb n (rw g tt) d).turns [ inl q ↦ q.1 | inr q ↦ absurd (grow_shrink g q.0) ]

  pub above_shrink : (n : ℕ) → (at t n).state ≡ S.Shrink → up t n ≢ none → (at t (up t n)).state ≡ S.Grow
  above_shrink n g d = elim (limb n (rw g tt) d).turns [ inl q ↦ absurd (grow_shrink q.0 g) | inr q ↦ q.1 ]

  -- from a + node up to before a + node there is an even number of nodes
  pub even-part :
      (a : ℕ) (xs : List ℕ) (m : ℕ) (ys : List ℕ)
      → (at t a).state ≡ S.Grow
      → (at t m).state ≡ S.Grow
      → Chain (up t) a (xs ++ (m ∷ ys))
      → (h : ℕ) × (length xs ≡ h + h)
  even-part a [] m ys g gm c = (0, refl)
  even-part a (x ∷ []) m ys g gm c = absurd (grow_shrink gm (rw c.2.0 at (above_grow x (rw c.0 at g) c.2.1)))
  even-part a (x ∷ (z ∷ xs)) m ys g gm c =
      let sz : (at t z).state ≡ S.Shrink = rw c.2.0 at (above_grow x (rw c.0 at g) c.2.1) in
      let gz : (at t (up t z)).state ≡ S.Grow = above_shrink z sz (mark_some (up t) (up t z) xs m ys c.2.2) in
      two_more (even-part (up t z) xs m ys gz gm c.2.2)
    where
      two_more : (h : ℕ) × (length xs ≡ h + h) → (h : ℕ) × (suc (suc (length xs)) ≡ h + h)
      two_more r = (suc r.0, omega (arith, r.1))

  -- ---- the two paths

  module _ (x y m : ℕ) (grows_1 : (at t x).state ≡ S.Grow) (grows_2 : (at t y).state ≡ S.Grow) (found : FirstShared (upward t x) (upward t y) m) where
    outer_1 : T (outer t x)
    outer_1 = rw grows_1 tt

    outer_2 : T (outer t y)
    outer_2 = rw grows_2 tt

    cut : Split m (upward t y)
    cut = in_split m (upward t y) found.on_other

    first_way : Chain (up t) x (found.before ++ (m ∷ found.after))
    first_way = subst (λ (l : List ℕ). Chain (up t) x l) found.split (upward_chain t full core x outer_1)

    second_way : Chain (up t) y (cut.before ++ (m ∷ cut.after))
    second_way = subst (λ (l : List ℕ). Chain (up t) y l) cut.split (upward_chain t full core y outer_2)

    -- above the meeting node both are one
    one_above : cut.after ≡ found.after
    one_above =
        chain_unique (up t) (up t m) cut.after found.after (chain_split (up t) y cut.before m cut.after second_way).2
        (chain_split (up t) x found.before m found.after first_way).2

    on_first : (j : ℕ) → j ∈ found.before → j ∈ upward t x
    on_first j i = rw found.split (in_left found.before (m ∷ found.after) j i)

    on_second : (j : ℕ) → j ∈ cut.before → j ∈ upward t y
    on_second j i = rw cut.split (in_left cut.before (m ∷ cut.after) j i)

    own_parts : (j : ℕ) → j ∈ found.before → ¬ (j ∈ cut.before)
    own_parts j i k = found.none_before j i (on_second j k)

    meeting-outer : T (outer t m)
    meeting-outer = upward_all_outer t full core x outer_1 m (rw found.split (in_right found.before (m ∷ found.after) m (inl refl)))

    abbrev Child : ℕ → Type 0
    Child j = OuterChild t m j

    -- with a child on each path: "a − node's one child would stand on both"
    between : (i j : ℕ) → i ∈ found.before → j ∈ cut.before → Child i → Child j → Kind t m → (at t m).state ≡ S.Grow
    between i j p q c d (free_node f) = f.grows
    between i j p q c d (virtual_node v) = absurd (no_child t full core m meeting-outer v.childless i c)
    between i j p q c d (paired_node v) = absurd (no_child t full core m meeting-outer v.here.childless i c)
    between i j p q c d (root_node r) = r.grows
    between i j p q c d (minus_node n) =
        let e : i ≡ j = minus_only t full core m i meeting-outer n c ∙ sym (minus_only t full core m j meeting-outer n d) in
        absurd (own_parts i p (rw e q))
    between i j p q c d (plus_node n) = n.grows

    meeting-grows : (at t m).state ≡ S.Grow
    meeting-grows = go (mark_before (up t) x found.before m found.after first_way m (inr refl)) (mark_before (up t) y cut.before m cut.after second_way m (inr refl))
      where
        go : (m ≡ x) ⊎ ((i : ℕ) × (i ∈ found.before) × (up t i ≡ m)) → (m ≡ y) ⊎ ((i : ℕ) × (i ∈ cut.before) × (up t i ≡ m)) → (at t m).state ≡ S.Grow
        go (inl e) q = rw e grows_1
        go (inr p) (inl e) = rw e grows_2
        go (inr p) (inr q) =
            between p.0 q.0 p.1 q.1 (upward_all_outer t full core x outer_1 p.0 (on_first p.0 p.1), p.2)
            (upward_all_outer t full core y outer_2 q.0 (on_second q.0 q.1), q.2) (core.kind m meeting-outer)

    pub two_paths : TwoPaths t x y m
    two_paths =
        record {
          xs = found.before;
          ys = cut.before;
          above = found.after;
          way_1 = first_way;
          way_2 = subst (λ (l : List ℕ). Chain (up t) y (cut.before ++ (m ∷ l))) one_above second_way;
          apart = own_parts;
          grows = meeting-grows;
        }
