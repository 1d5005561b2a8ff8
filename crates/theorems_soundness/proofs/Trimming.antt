-- `augment_subtree`: "t's child list is cut off and each listed − node matches its subtree in list order". What is left is a sound
-- table in which the node has lost all below it. One slot may stand aside, changed already: the node that another tree was
-- augmented at.
use mathlib.Core.Path.{◌≡◌, refl, ap, sym, ◌∙◌}
use mathlib.Core.Logic.{◌≢◌, ◌⊎◌, inl, inr}
use mathlib.Core.List.{List, [], ◌∷◌}
use Prim.Native.Nat.{ℕ, zero, suc, ◌≤◌}
use native.Mathlib.Omega.{arith}
use lib.Dec.{T}
use lib.ListN.{length, length-append}
use Rattle.slot.specs.declared.state.State.TheVariants as S
use Rattle.slot.specs.Number.{none}
use Rattle.slot.specs.Slot.{Slot}
use Rattle.table.specs.Table.{Table, at, put, Full}
use Rattle.table.proofs.TableLaws.{at-put-same, at-put_other, put_full}
use Rattle.table.specs.Nodes.{outer}
use Rattle.rules.specs.Act.{change, ◌then◌, look, alter}
use Rattle.rules.specs.Slots.{with_first_child, up}
use Rattle.rules.specs.Trees.{upward, root}
use Rattle.rules.specs.Matching.{match_siblings, augment_subtree}
use Rattle.theorems_soundness.specs.Chain.{◌∈◌, Chain, Steps}
use Rattle.theorems_soundness.specs.FactsOfNodes.{Paired, OuterChild}
use Rattle.theorems_soundness.proofs.Reflect.{same_or_not}
use Rattle.theorems_soundness.proofs.Members.{in_split, split_length}
use Rattle.theorems_soundness.proofs.Chains.{end_of, chain_frame, chain_split, chain_start}
use Rattle.theorems_soundness.proofs.ChildLaws.{no_child, above_outer}
use Rattle.theorems_soundness.specs.RuleFacts.{Whole, Below}
use Rattle.theorems_soundness.proofs.WaysUp.{upward_chain, upward_step, upward_top, upward_is, root_is_end, root_above_lem, root_shared}
use Rattle.theorems_soundness.proofs.Past.{outer_below}
use Rattle.theorems_soundness.proofs.Frames.{in_or_not, some_outer, Pruned}
use Rattle.theorems_soundness.proofs.Renewing.{Kept, SameCounts, put_counts}
use Rattle.theorems_soundness.proofs.Below.{below_join, top_not_below, not_below_self, below_longer, tied_most}
use Rattle.theorems_soundness.proofs.Cleared.{Task, Ended, touched, untouched, Cleared, cleared_was, cleared_pruned, cleared_other, cleared_left, counts_then}
use Rattle.theorems_soundness.proofs.Subtrees.{siblings_clear, siblings_alike}

-- z has neither parent nor child in t, and u is t but at z
pub record Aside (t u : Table) (z : ℕ) : Type 0 where
  pub full : Full u
  pub counts : SameCounts t u
  pub agree : (j : ℕ) → j ≢ z → at u j ≡ at t j
  pub parentless : up t z ≡ none
  pub childless : (at t z).first_child ≡ none

-- v is what the rule makes of u, the table what goes with it of t
pub record Trimmed (t : Table) (y : ℕ) (u : Table) (z : ℕ) (v : Table) : Type 0 where
  pub table : Table
  pub whole : Whole table
  pub kept : Kept t table
  pub here : at table y ≡ with_first_child none (at t y)
  pub other : (j : ℕ) → ¬ Below t y j → j ≢ y → at table j ≡ at t j
  pub pruned : Pruned t table
  pub was : (j : ℕ) → T (outer table j) → T (outer t j)
  pub pairs : (p : ℕ) → OuterChild t y p → Paired table p (at t p).first_child
  pub mates : (j : ℕ) → Below t y j → (peer : ℕ) × Paired table j peer
  pub aside : Aside table v z
  pub left : at v z ≡ at u z
  pub same : SameCounts t table

pub subtree_rule : (left y : ℕ) (u : Table) → augment_subtree left y u ≡ match_siblings left (at u y).first_child (put u y (with_first_child none (at u y)))
unfolding augment_subtree look change ◌then◌ alter
subtree_rule left y u = refl

-- counts the other way round
pub counts_back : (t u : Table) → SameCounts t u → SameCounts u t
counts_back t u c = record { begin = sym c.begin; defects = sym c.defects; blossoms = sym c.blossoms }

module _ (t : Table) (y : ℕ) (u : Table) (z : ℕ) (w : Whole t) (grows : (at t y).state ≡ S.Grow) (aside : Aside t u z) (y≢z : y ≢ z) where
  outer_y : T (outer t y)
  outer_y = rw grows tt

  some_y : y ≢ none
  some_y = some_outer t w.full y outer_y

  here_u : at u y ≡ at t y
  here_u = aside.agree y y≢z

  abbrev cut : Table
  cut = put u y (with_first_child none (at u y))

  full_cut : Full cut
  full_cut = put_full u y (with_first_child none (at u y)) aside.full

  cut_other : (j : ℕ) → j ≢ y → at cut j ≡ at u j
  cut_other j d = at-put_other u y j (with_first_child none (at u y)) d

  cut_here : at cut y ≡ with_first_child none (at t y)
  cut_here = at-put-same u y (with_first_child none (at u y)) aside.full (outer_below t w.full y outer_y) ∙ ap (with_first_child none) here_u

  z_not_below : ¬ Below t y z
  z_not_below = top_not_below t w.full y z some_y aside.parentless

  agree_cut : (j : ℕ) → Below t y j → at cut j ≡ at t j
  agree_cut j b =
      let d : j ≢ y = λ e. not_below_self t w.full w.core y (rw e at b) in
      let f : j ≢ z = λ e. z_not_below (rw e at b) in
      cut_other j d ∙ aside.agree j f

  task : Task t y cut
  task = record { whole = w; grows = grows; full = full_cut; agree = agree_cut }

  child_u : (at u y).first_child ≡ (at t y).first_child
  child_u = ap (λ (s : Slot). s.first_child) here_u

  -- every larger budget of the list does the same, commands included
  pub subtree_alike : (left : ℕ) → 256 ≤ left → augment_subtree left y u ≡ augment_subtree 256 y u
  subtree_alike left large =
      rw (subtree_rule left y u, subtree_rule 256 y u, child_u) (siblings_alike left 256 t y cut task (omega (arith, tied_most t)) (tied_most t))

  abbrev v : Table
  v = (augment_subtree 256 y u).table

  cleared : Cleared t y cut (augment_subtree 256 y u).table
  cleared = rw (subtree_rule 256 y u, child_u) (siblings_clear 256 t y cut task (tied_most t))

  abbrev x : Table
  x = cleared.table

  z≢y : z ≢ y
  z≢y e = y≢z (sym e)

  x_z : at x z ≡ at t z
  x_z = cleared_other t y cut v cleared outer_y z z_not_below z≢y

  x_agree : (j : ℕ) → j ≢ z → at v j ≡ at x j
  x_agree j d = go (same_or_not j y) (cleared.each j)
    where
      go : (j ≡ y) ⊎ (j ≢ y) → Ended t y cut v x j → at v j ≡ at x j
      go h (touched b e p) = e
      go (inl q) (untouched e h) = e ∙ rw q (cut_here ∙ sym cleared.here)
      go (inr q) (untouched e h) = e ∙ cut_other j q ∙ aside.agree j d ∙ sym (h q)

  not_y : (j : ℕ) → Below t y j → j ≢ y
  not_y j b e = not_below_self t w.full w.core y (rw e at b)

  -- all below y is in pairs: a node that were not would still be a child, of y, which has none left, or of one of a pair
  childless_parent : (j i : ℕ) → Below t y j → up t j ≡ i → T (outer x i) → (at x i).first_child ≡ none → Ended t y cut v x j → (peer : ℕ) × Paired x j peer
  childless_parent j i b p o e (touched c f m) = (m.peer, m.pair)
  childless_parent j i b p o e (untouched f h) =
      let same = h (not_y j b) in
      absurd (no_child x cleared.whole.full cleared.whole.core i o e j (rw same b.1.0, rw (up, same) p))

  mated : (k j : ℕ) → Steps (outer t) (up t) (suc k) j y → (peer : ℕ) × Paired x j peer
  mated zero j s = childless_parent j y (0, s) s.1 (cleared.kept.outers y outer_y) (rw cleared.here) (cleared.each j)
  mated (suc k) j s = below_pair (mated k (up t j) s.1)
    where
      below_pair : (peer : ℕ) × Paired x (up t j) peer → (peer : ℕ) × Paired x j peer
      below_pair p = childless_parent j (up t j) (suc k, s) refl (rw p.1.here.stays tt) p.1.here.childless (cleared.each j)

  pub trimmed : Trimmed t y u z (augment_subtree 256 y u).table
  trimmed =
      record {
        table = x;
        whole = cleared.whole;
        kept = cleared.kept;
        here = cleared.here;
        other = cleared_other t y cut v cleared outer_y;
        pruned = cleared_pruned t y cut v cleared outer_y;
        was = cleared_was t y cut v cleared outer_y;
        pairs = cleared.pairs;
        mates = λ j b. mated b.0 j b.1;
        aside =
            record {
              full = cleared.full;
              counts = counts_then x t v (counts_back t x cleared.same) (counts_then t u v aside.counts (counts_then u cut v (put_counts u y (with_first_child none (at u y))) cleared.counts));
              agree = x_agree;
              parentless = rw (up, x_z) aside.parentless;
              childless = rw x_z aside.childless;
            };
        left = cleared_left t y cut v cleared outer_y z z_not_below ∙ cut_other z z≢y;
        same = cleared.same;
      }

-- ---- the way up from y is as it was

chain_suffix : (f : ℕ → ℕ) (a : ℕ) (cs : List ℕ) → Chain f a cs → (j : ℕ) → j ∈ cs → (ds : List ℕ) × (Chain f j ds × (length ds ≤ length cs))
chain_suffix f a cs c j m =
    let s = in_split j cs m in
    (j ∷ s.after, (chain_split f a s.before j s.after (rw s.split at c), omega (arith, split_length j cs s, length-append s.before s.after)))

-- nothing above y is below it
pub above_not_below : (t : Table) → Full t → (y : ℕ) (cs : List ℕ) → Chain (up t) y cs → (j : ℕ) → j ∈ cs → ¬ Below t y j
above_not_below t full y cs c j m b =
    let s = chain_suffix (up t) y cs c j m in
    omega (arith, below_longer t full y j s.0 cs b s.1.0 c, s.1.1)

pub trimmed_way : (t : Table) (y : ℕ) (u : Table) (z : ℕ) (v : Table) → Full t → (r : Trimmed t y u z v) (cs : List ℕ) → Chain (up t) y cs → Chain (up r.table) y cs
trimmed_way t y u z v full r cs c = chain_frame (up t) (up r.table) y cs same c
  where
    same : (j : ℕ) → j ∈ cs → up t j ≡ up r.table j
    same j m = elim (same_or_not j y) [ inl e ↦ rw (e, up, r.here) | inr d ↦ rw (up, r.other j (above_not_below t full y cs c j m) d) ]

-- ---- trees

module _ (t : Table) (w : Whole t) where
  -- the nodes on the way up from j are j and those that it is below
  pub above_or_same : (x j : ℕ) (cs : List ℕ) → T (outer t j) → Chain (up t) j cs → x ∈ cs → (j ≡ x) ⊎ Below t x j
  above_or_same x j [] o c m = absurd m
  above_or_same x j (i ∷ cs) o c (inl e) = inl (c.0 ∙ sym e)
  above_or_same x j (i ∷ []) o c (inr m) = absurd m
  above_or_same x j (i ∷ (k ∷ cs)) o c (inr m) =
      let rest : Chain (up t) (up t j) (k ∷ cs) = rw c.0 c.2 in
      further (above_or_same x (up t j) (k ∷ cs) (above_outer t w.full w.core j o rest.1) rest m)
    where
      further : (up t j ≡ x) ⊎ Below t x (up t j) → (j ≡ x) ⊎ Below t x j
      further (inl e) = inr (0, (o, e))
      further (inr b) = inr (suc b.0, (o, b.1))

  steps_in : (x k j : ℕ) (cs : List ℕ) → x ≢ none → Steps (outer t) (up t) k j x → Chain (up t) j cs → x ∈ cs
  steps_in x zero j cs d s c = rw s at (chain_start (up t) j cs c (λ e. d (sym s ∙ e)))
  steps_in x (suc k) j [] d s c = absurd (some_outer t w.full j s.0 c)
  steps_in x (suc k) j (i ∷ cs) d s c = inr (steps_in x k (up t j) cs d s.1 (rw c.0 c.2))

  pub below_or_not : (x j : ℕ) → x ≢ none → T (outer t j) → Below t x j ⊎ ((j ≡ x) ⊎ ¬ Below t x j)
  below_or_not x j d o = go (in_or_not x (upward t j))
    where
      c : Chain (up t) j (upward t j)
      c = upward_chain t w.full w.core j o

      go : (x ∈ upward t j) ⊎ ¬ (x ∈ upward t j) → Below t x j ⊎ ((j ≡ x) ⊎ ¬ Below t x j)
      go (inl m) = elim (above_or_same x j (upward t j) o c m) [ inl e ↦ inr (inl e) | inr b ↦ inl b ]
      go (inr n) = inr (inr (λ b. n (steps_in x (suc b.0) j (upward t j) d b.1 c)))

  -- the parent is in the same tree
  pub root-up : (n : ℕ) → T (outer t n) → up t n ≢ none → root t (up t n) ≡ root t n
  root-up n o d =
      let above = above_outer t w.full w.core n o d in
      root_shared t w.full w.core n o (up t n) (rw (upward_step t w.full w.core n o d) (inr (chain_start (up t) (up t n) (upward t (up t n)) (upward_chain t w.full w.core (up t n) above) d)))

  -- who is in the tree of a root is below it
  pub below_root : (x j : ℕ) → T (outer t x) → up t x ≡ none → T (outer t j) → root t j ≡ root t x → j ≢ x → Below t x j
  below_root x j ox e o r d =
      let top : root t x ≡ x = root_is_end t w.full w.core x ox ∙ ap end_of (upward_top t w.full w.core x ox e) in
      let m : x ∈ upward t j = rw (r ∙ top) at (root_above_lem t w.full w.core j o) in
      elim (above_or_same x j (upward t j) o (upward_chain t w.full w.core j o) m) [ inl q ↦ absurd (d q) | inr b ↦ b ]

-- a root is found again where the way up is the same
same_way : (t x : Table) → Whole t → Whole x → (j : ℕ) → T (outer t j) → T (outer x j) → Chain (up x) j (upward t j) → root x j ≡ root t j
same_way t x w v j o p c =
    root_is_end x v.full v.core j p ∙ ap end_of (upward_is x v.full v.core j p (upward t j) c) ∙ sym (root_is_end t w.full w.core j o)

module _ (t : Table) (y : ℕ) (u : Table) (z : ℕ) (v : Table) (w : Whole t) (outer_y : T (outer t y)) (r : Trimmed t y u z v) where
  pub root_here : root r.table y ≡ root t y
  root_here =
      same_way t r.table w r.whole y outer_y (r.kept.outers y outer_y) (trimmed_way t y u z v w.full r (upward t y) (upward_chain t w.full w.core y outer_y))

  pub root_other : (j : ℕ) → T (outer t j) → ¬ Below t y j → j ≢ y → root r.table j ≡ root t j
  root_other j o d f =
      same_way t r.table w r.whole j o (r.kept.outers j o) (chain_frame (up t) (up r.table) j (upward t j) same (upward_chain t w.full w.core j o))
    where
      off : (i : ℕ) → i ∈ upward t j → Below t y i → ⊥
      off i m b = elim (above_or_same t w i j (upward t j) o (upward_chain t w.full w.core j o) m) [ inl e ↦ d (rw e b) | inr k ↦ d (below_join t y i j b k) ]

      not_it : (i : ℕ) → i ∈ upward t j → i ≢ y
      not_it i m e = elim (above_or_same t w i j (upward t j) o (upward_chain t w.full w.core j o) m) [ inl q ↦ f (q ∙ e) | inr k ↦ d (rw e at k) ]

      same : (i : ℕ) → i ∈ upward t j → up t i ≡ up r.table i
      same i m = rw (up, r.other i (off i m) (not_it i m))
