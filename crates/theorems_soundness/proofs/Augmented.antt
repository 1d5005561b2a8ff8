-- What augmenting at a + node of a sound table leaves: every node of its tree but the node itself in a pair, the node with neither
-- parent nor child, and a table that is sound once the node is read as free. Here, where the node has no parent.
use mathlib.Core.Path.{◌≡◌, refl, sym, ◌∙◌}
use mathlib.Core.Logic.{◌≢◌}
use mathlib.Core.Bool.{Bool}
use Prim.Native.Nat.{ℕ, zero, suc}
use lib.Dec.{T, eqb, eqb→eq}
use Rattle.slot.specs.declared.state.State.TheVariants as S
use Rattle.slot.specs.Number.{none}
use Rattle.table.specs.Table.{Table, at, Full}
use Rattle.table.specs.Nodes.{outer}
use Rattle.rules.specs.Slots.{up}
use Rattle.rules.specs.Trees.{root}
use Rattle.theorems_soundness.specs.Chain.{Steps}
use Rattle.theorems_soundness.specs.FactsOfNodes.{Free, Paired, Minus, Plus, Kind, free_node, virtual_node, paired_node, root_node, minus_node, plus_node, OuterChild}
use Rattle.theorems_soundness.proofs.ReflectSlots.{stay_grow, grow_shrink}
use Rattle.theorems_soundness.proofs.ChildLaws.{no_child, has_child, plus_below_minus, minus_only}
use Rattle.theorems_soundness.proofs.TouchLaws.{peer_touch_tree}
use Rattle.theorems_soundness.specs.RuleFacts.{Single, Whole, RightLink, Below}
use Rattle.theorems_soundness.proofs.Frames.{some_outer}
use Rattle.theorems_soundness.proofs.Renewing.{Kept, SameCounts}
use Rattle.theorems_soundness.proofs.Below.{below_child, below_join, top_not_below, not_below_self}
use Rattle.theorems_soundness.proofs.Cleared.{counts_then}
use Rattle.theorems_soundness.proofs.Trimming.{Aside, Trimmed, below_root}

-- a set of nodes that holds the parent and the children of each of its nodes: other trees, pairs and single nodes
pub record Closed (t : Table) (D : ℕ → Bool) : Type 0 where
  pub some : (j : ℕ) → T (D j) → j ≢ none
  pub parent : (j : ℕ) → T (D j) → up t j ≢ none → T (D (up t j))
  pub child : (j c : ℕ) → T (D j) → OuterChild t j c → T (D c)

pub single_closed : (t : Table) → Whole t → (n : ℕ) → Single t n → Closed t (λ i. eqb i n)
single_closed t w n s =
    record {
      some = λ i h. rw (eqb→eq i n h) (some_outer t w.full n s.outer);
      parent = λ i h d. absurd (d (rw (eqb→eq i n h) s.parentless));
      child = λ i c h k. absurd (no_child t w.full w.core n s.outer s.childless c (rw (eqb→eq i n h) at k));
    }

-- v is what the rule makes of u, which is t but at z; the table, of t, is sound and v but at x and z
pub record Augmented (t : Table) (x : ℕ) (u : Table) (z : ℕ) (v : Table) : Type 0 where
  pub table : Table
  pub whole : Whole table
  pub kept : Kept t table
  pub same : SameCounts t table
  pub free : Free (at table x)
  pub agree : (j : ℕ) → j ≢ x → j ≢ z → at v j ≡ at table j
  pub ring : (at v x).ring ≡ (at table x).ring
  pub single : Single v x
  pub left : at v z ≡ at u z
  pub beside : at table z ≡ at t z
  pub apart : (D : ℕ → Bool) → Closed t D → ¬ T (D x) → (j : ℕ) → T (D j) → at table j ≡ at t j
  pub pairs : (p : ℕ) → OuterChild t x p → Paired table p (at t p).first_child
  pub mates : (j : ℕ) → T (outer t j) → root t j ≡ root t x → j ≢ x → (peer : ℕ) × Paired table j peer
  pub full : Full v
  pub counts : SameCounts t v

-- who is below x is in no closed set without x
module _ (t : Table) (full : Full t) (D : ℕ → Bool) (closed : Closed t D) (x : ℕ) (some_x : x ≢ none) where
  climb_in : (k j : ℕ) → T (D j) → Steps (outer t) (up t) k j x → T (D x)
  climb_in zero j d s = rw s at d
  climb_in (suc zero) j d s = rw s.1 at (closed.parent j d (λ e. some_x (sym s.1 ∙ e)))
  climb_in (suc (suc k)) j d s = climb_in (suc k) (up t j) (closed.parent j d (some_outer t full (up t j) s.1.0)) s.1

  pub below_in : (j : ℕ) → T (D j) → Below t x j → T (D x)
  below_in j d b = climb_in (suc b.0) j d b.1

-- ---- the node has no parent

module _ (t : Table) (x : ℕ) (u : Table) (z : ℕ) (v : Table) (w : Whole t) (grows : (at t x).state ≡ S.Grow) (x≢z : x ≢ z) (aside : Aside t u z) (r : Trimmed t x u z v) where
  some_x : x ≢ none
  some_x = some_outer t w.full x (rw grows tt)

  still_grows : (at r.table x).state ≡ S.Grow
  still_grows = rw r.here grows

  pub still_beside : at r.table z ≡ at t z
  still_beside = r.other z (top_not_below t w.full x z some_x aside.parentless) (λ e. x≢z (sym e))

  pub trimmed_apart : (D : ℕ → Bool) → Closed t D → ¬ T (D x) → (j : ℕ) → T (D j) → at r.table j ≡ at t j
  trimmed_apart D closed out j d = r.other j (λ b. out (below_in t w.full D closed x some_x j d b)) (λ e. out (rw e at d))

  single_free : up r.table x ≡ none → Kind r.table x → Free (at r.table x)
  single_free e (free_node f) = f
  single_free e (virtual_node q) = absurd (stay_grow q.stays still_grows)
  single_free e (paired_node p) = absurd (stay_grow p.here.stays still_grows)
  single_free e (root_node q) = absurd (q.has_child (rw r.here))
  single_free e (minus_node m) = absurd (grow_shrink still_grows m.shrinks)
  single_free e (plus_node p) = absurd (some_outer r.table r.whole.full (up r.table x) (rw p.parent_shrinks tt) e)

  pub augmented_top : up r.table x ≡ none → Augmented t x u z v
  augmented_top e =
      record {
        table = r.table;
        whole = r.whole;
        kept = r.kept;
        same = r.same;
        free = single_free e (r.whole.core.kind x (rw still_grows tt));
        agree = λ j _ d. r.aside.agree j d;
        ring = rw (r.aside.agree x x≢z);
        single = record { outer = rw (r.aside.agree x x≢z) (rw still_grows tt); parentless = rw (up, r.aside.agree x x≢z) e; childless = rw (r.aside.agree x x≢z, r.here) };
        left = r.left;
        beside = still_beside;
        apart = trimmed_apart;
        pairs = r.pairs;
        mates = λ j o q d. r.mates j (below_root t w x j (rw grows tt) (rw (up, r.here) at e) o q d);
        full = r.aside.full;
        counts = counts_then t r.table v r.same r.aside.counts;
      }

-- ---- the node has a parent p, with parent a: the tree is augmented at a, then p and a are matched by p's link

-- x, its parent and the parent of that, in a sound table
pub record Stem (t : Table) (x p a : ℕ) : Type 0 where
  pub plus : Plus t (at t x)
  pub parent : up t x ≡ p
  pub minus : Minus t (at t p)
  pub grandparent : up t p ≡ a
  pub grows : (at t a).state ≡ S.Grow
  pub only : (at t p).first_child ≡ x

stem_plus : (t : Table) (x : ℕ) → (at t x).state ≡ S.Grow → up t x ≢ none → Kind t x → Plus t (at t x)
stem_plus t x g d (free_node f) = absurd (d f.parentless)
stem_plus t x g d (virtual_node v) = absurd (d v.parentless)
stem_plus t x g d (paired_node p) = absurd (d p.here.parentless)
stem_plus t x g d (root_node r) = absurd (d r.parentless)
stem_plus t x g d (minus_node m) = absurd (grow_shrink g m.shrinks)
stem_plus t x g d (plus_node p) = p

pub stem : (t : Table) (x : ℕ) → Whole t → (at t x).state ≡ S.Grow → up t x ≢ none → Stem t x (up t x) (up t (up t x))
stem t x w g d =
    let o : T (outer t x) = rw g tt in
    let plus = stem_plus t x g d (w.core.kind x o) in
    let minus = plus_below_minus t w.full w.core x plus in
    record {
      plus = plus;
      parent = refl;
      minus = minus;
      grandparent = refl;
      grows = minus.parent_grows;
      only = sym (minus_only t w.full w.core (up t x) x (rw minus.shrinks tt) minus (o, refl));
    }

module _ (t : Table) (x p a : ℕ) (w : Whole t) (s : Stem t x p a) where
  pub outer_x : T (outer t x)
  outer_x = rw s.plus.grows tt

  pub outer_p : T (outer t p)
  outer_p = rw s.minus.shrinks tt

  pub outer_a : T (outer t a)
  outer_a = rw s.grows tt

  pub stem_child : OuterChild t a p
  stem_child = (outer_p, s.grandparent)

  pub p≢x : p ≢ x
  p≢x e = grow_shrink s.plus.grows (rw e at s.minus.shrinks)

  pub p≢a : p ≢ a
  p≢a e = grow_shrink s.grows (rw e at s.minus.shrinks)

  pub x≢a : x ≢ a
  x≢a e = not_below_self t w.full w.core a (below_join t a p a (below_child t a p stem_child) (below_child t p a (outer_a, rw e at s.parent)))

  pub a_has_child : (at t a).first_child ≢ none
  a_has_child = has_child t w.full w.core a outer_a p stem_child

  pub stem_right : RightLink t p (at t p).link a
  stem_right =
      let d : up t p ≢ none = λ e. some_outer t w.full a outer_a (sym s.grandparent ∙ e) in
      record {
        linked = s.minus.linked;
        touch = (w.rest.touches p).touch s.minus.linked.has_touch;
        peer_touch = rw s.grandparent at (peer_touch_tree t w.full w.rest p outer_p d s.minus.linked.has_peer_touch);
      }
