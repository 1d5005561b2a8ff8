-- `augment_within`: what augmenting a whole tree leaves, and that it does the same with every budget of 256 and more, for the way up
-- to the root and for the lists on it.
use mathlib.Core.Path.{◌≡◌, refl, ap, sym, ◌∙◌}
use mathlib.Core.Logic.{◌≢◌, ◌⊎◌, inl, inr}
use mathlib.Core.List.{List, [], ◌∷◌}
use Prim.Native.Nat.{ℕ, zero, suc, ◌≤◌}
use native.Mathlib.Omega.{arith}
use lib.Dec.{T}
use lib.ListN.{length}
use Rattle.slot.specs.declared.state.State.TheVariants as S
use Rattle.slot.specs.Number.{none}
use Rattle.slot.specs.Slot.{Slot}
use Rattle.table.specs.Table.{Table, at, Full}
use Rattle.table.specs.Nodes.{outer}
use Rattle.rules.specs.Act.{skip, ◌then◌, look, choose}
use Rattle.rules.specs.Slots.{up}
use Rattle.rules.specs.Trees.{upward}
use Rattle.rules.specs.Matching.{temporary_match, unless_none, augment_subtree, augment_within, augment_whole_tree}
use Rattle.theorems_soundness.specs.Chain.{Chain}
use Rattle.theorems_soundness.proofs.Reflect.{same_or_not, eqb_yes, eqb_no}
use Rattle.theorems_soundness.proofs.Past.{at_none}
use Rattle.theorems_soundness.specs.RuleFacts.{Whole}
use Rattle.theorems_soundness.proofs.WaysUp.{upward_chain, upward_short}
use Rattle.theorems_soundness.proofs.Frames.{some_outer}
use Rattle.theorems_soundness.proofs.Subtrees.{then_same}
use Rattle.theorems_soundness.proofs.Trimming.{Aside, Trimmed, subtree_alike, trimmed, trimmed_way}
use Rattle.theorems_soundness.proofs.Augmented.{Augmented, augmented_top, Stem, stem, a_has_child}
use Rattle.theorems_soundness.proofs.Augmenting.{augmented_more}

-- ---- the rule, a step at a time

pub augment_top : (k left x : ℕ) (u : Table) → (at (augment_subtree left x u).table x).parent ≡ none → augment_within (suc k) left x u ≡ (augment_subtree left x then skip) u
unfolding augment_within look unless_none choose ◌then◌
augment_top k left x u e = rw (eqb_yes (at (augment_subtree left x u).table x).parent none e)

pub augment-more :
    (k left x p : ℕ) (u : Table) (r : Slot)
    → (at (augment_subtree left x u).table x).parent ≡ p
    → p ≢ none
    → at (augment_subtree left x u).table p ≡ r
    → augment_within (suc k) left x u ≡ (augment_subtree left x then (augment_within k left r.parent then temporary_match p r.link r.parent)) u
unfolding augment_within look unless_none choose ◌then◌
augment-more k left x p u r e d f = rw (e, eqb_no p none d, f)

-- ---- what it leaves

abbrev Augments : ℕ → Type 0
Augments k =
    (t : Table) (x : ℕ) (u : Table) (z : ℕ)
    → Whole t
    → (at t x).state ≡ S.Grow
    → x ≢ z
    → Aside t u z
    → (cs : List ℕ)
    → Chain (up t) x cs
    → length cs ≤ k
    → Augmented t x u z (augment_within k 256 x u).table

-- a way up, two steps on
pub two_steps : (f : ℕ → ℕ) (x : ℕ) (cs : List ℕ) → x ≢ none → f x ≢ none → Chain f x cs → (ds : List ℕ) × (Chain f (f (f x)) ds × (suc (suc (length ds)) ≡ length cs))
two_steps f x [] d e c = absurd (d c)
two_steps f x (y ∷ []) d e c = absurd (e (ap f c.0 ∙ c.2))
two_steps f x (y ∷ (p ∷ cs)) d e c = (cs, (rw (c.0, c.2.0) c.2.2, refl))

module _ (t : Table) (x : ℕ) (u : Table) (z : ℕ) (w : Whole t) (grows : (at t x).state ≡ S.Grow) (x≢z : x ≢ z) (aside : Aside t u z) where
  abbrev v₁ : Table
  v₁ = (augment_subtree 256 x u).table

  r : Trimmed t x u z v₁
  r = trimmed t x u z w grows aside x≢z

  abbrev x₁ : Table
  x₁ = r.table

  v₁_x : at v₁ x ≡ at x₁ x
  v₁_x = r.aside.agree x x≢z

  grows₁ : (at x₁ x).state ≡ S.Grow
  grows₁ = rw r.here grows

  some_x : x ≢ none
  some_x = some_outer t w.full x (rw grows tt)

  -- the list below x by a larger budget
  list_alike : (left : ℕ) → 256 ≤ left → augment_subtree left x u ≡ augment_subtree 256 x u
  list_alike = subtree_alike t x u z w grows aside x≢z

  top_rule : (k left : ℕ) → 256 ≤ left → up x₁ x ≡ none → augment_within (suc k) left x u ≡ (augment_subtree 256 x then skip) u
  top_rule k left large e =
      augment_top k left x u (rw (list_alike left large, v₁_x) e)
      ∙ then_same (augment_subtree left x) (augment_subtree 256 x) skip skip u (list_alike left large) refl

  top_augmented : (k : ℕ) → up x₁ x ≡ none → Augmented t x u z (augment_within (suc k) 256 x u).table
  unfolding ◌then◌ skip
  top_augmented k e = rw (top_rule k 256 (omega arith) e) (augmented_top t x u z v₁ w grows x≢z aside r e)

  module _ (d : up x₁ x ≢ none) where
    abbrev p : ℕ
    p = up x₁ x

    abbrev a : ℕ
    a = up x₁ p

    s : Stem x₁ x p a
    s = stem x₁ x r.whole grows₁ d

    p≢z : p ≢ z
    p≢z e = s.minus.has_child (ap (λ (j : ℕ). (at x₁ j).first_child) e ∙ r.aside.childless)

    a≢z : a ≢ z
    a≢z e = a_has_child x₁ x p a r.whole s (ap (λ (j : ℕ). (at x₁ j).first_child) e ∙ r.aside.childless)

    more_rule : (k left : ℕ) → 256 ≤ left → augment_within (suc k) left x u ≡ (augment_subtree 256 x then (augment_within k left a then temporary_match p (at x₁ p).link a)) u
    more_rule k left large =
        let above = augment_within k left a then temporary_match p (at x₁ p).link a in
        augment-more k left x p u (at x₁ p) (rw (list_alike left large, v₁_x)) d (rw (list_alike left large) (r.aside.agree p p≢z))
        ∙ then_same (augment_subtree left x) (augment_subtree 256 x) above above u (list_alike left large) refl

    more_augmented : (k : ℕ) → Augmented x₁ a v₁ z (augment_within k 256 a v₁).table → Augmented t x u z (augment_within (suc k) 256 x u).table
    unfolding ◌then◌
    more_augmented k q = rw (more_rule k 256 (omega arith)) (augmented_more t x u z v₁ w grows x≢z aside r p a s (augment_within k 256 a v₁).table q)

augments_more : (k : ℕ) → Augments k → Augments (suc k)
augments_more k ih t x u z w g d aside cs c l = go (same_or_not (up (r t x u z w g d aside).table x) none)
  where
    go : (up (r t x u z w g d aside).table x ≡ none) ⊎ (up (r t x u z w g d aside).table x ≢ none) → Augmented t x u z (augment_within (suc k) 256 x u).table
    go (inl e) = top_augmented t x u z w g d aside k e
    go (inr f) =
        let m = r t x u z w g d aside in
        let ds = two_steps (up m.table) x cs (some_x t x u z w g d aside) f (trimmed_way t x u z (augment_subtree 256 x u).table w.full m cs c) in
        more_augmented t x u z w g d aside f k
        (ih m.table (up m.table (up m.table x)) (augment_subtree 256 x u).table z m.whole (s t x u z w g d aside f).grows (a≢z t x u z w g d aside f) m.aside ds.0 ds.1.0 (omega (arith, ds.1.1)))

augments_zero : Augments zero
augments_zero t x u z w g d aside [] c l = absurd (some_outer t w.full x (rw g tt) c)
augments_zero t x u z w g d aside (y ∷ cs) c l = absurd (omega arith)

pub augments : (k : ℕ) → Augments k
augments zero = augments_zero
augments (suc k) = augments_more k (augments k)

-- the whole tree, with one slot aside
pub augment_aside : (t : Table) (x : ℕ) (u : Table) (z : ℕ) → Whole t → (at t x).state ≡ S.Grow → x ≢ z → Aside t u z → Augmented t x u z (augment_whole_tree x u).table
augment_aside t x u z w g d aside =
    let o : T (outer t x) = rw g tt in
    augments 256 t x u z w g d aside (upward t x) (upward_chain t w.full w.core x o) (upward_short t w.full w.core x o)

-- .. and with none
pub nothing_aside : (t : Table) → Full t → Aside t t none
nothing_aside t full =
    record { full = full; counts = record { begin = refl; defects = refl; blossoms = refl }; agree = λ j d. refl; parentless = rw (up, at_none t full); childless = rw (at_none t full) }

pub augment_does : (t : Table) (x : ℕ) → Whole t → (at t x).state ≡ S.Grow → Augmented t x t none (augment_whole_tree x t).table
augment_does t x w g = augment_aside t x t none w g (some_outer t w.full x (rw g tt)) (nothing_aside t w.full)

-- ---- the budget

-- the steps to the root by k or by m, the lists on the way by left or by 256
abbrev Alike : ℕ → ℕ → ℕ → Type 0
Alike left k m =
    (t : Table) (x : ℕ) (u : Table) (z : ℕ)
    → Whole t
    → (at t x).state ≡ S.Grow
    → x ≢ z
    → Aside t u z
    → (cs : List ℕ)
    → Chain (up t) x cs
    → length cs ≤ k
    → length cs ≤ m
    → augment_within k left x u ≡ augment_within m 256 x u

alike_more : (left : ℕ) → 256 ≤ left → (k m : ℕ) → Alike left k m → Alike left (suc k) (suc m)
alike_more left large k m ih t x u z w g d aside cs c l n = go (same_or_not (up (r t x u z w g d aside).table x) none)
  where
    go : (up (r t x u z w g d aside).table x ≡ none) ⊎ (up (r t x u z w g d aside).table x ≢ none) → augment_within (suc k) left x u ≡ augment_within (suc m) 256 x u
    go (inl e) = top_rule t x u z w g d aside k left large e ∙ sym (top_rule t x u z w g d aside m 256 (omega arith) e)
    go (inr f) =
        let q = r t x u z w g d aside in
        let p = up q.table x in
        let a = up q.table p in
        let v = (augment_subtree 256 x u).table in
        let match = temporary_match p (at q.table p).link a in
        let ds = two_steps (up q.table) x cs (some_x t x u z w g d aside) f (trimmed_way t x u z v w.full q cs c) in
        let e : augment_within k left a v ≡ augment_within m 256 a v =
        ih q.table a v z q.whole (s t x u z w g d aside f).grows (a≢z t x u z w g d aside f) q.aside ds.0 ds.1.0 (omega (arith, ds.1.1)) (omega (arith, ds.1.1)) in
        more_rule t x u z w g d aside f k left large
        ∙ then_same (augment_subtree 256 x) (augment_subtree 256 x) (augment_within k left a then match) (augment_within m 256 a then match) u refl (then_same (augment_within k left a) (augment_within m 256 a) match match v e refl)
        ∙ sym (more_rule t x u z w g d aside f m 256 (omega arith))

no_way : (t : Table) (x : ℕ) (cs : List ℕ) → Whole t → (at t x).state ≡ S.Grow → Chain (up t) x cs → ¬ (length cs ≤ 0)
no_way t x [] w g c l = some_outer t w.full x (rw g tt) c
no_way t x (y ∷ cs) w g c l = omega arith

-- budgets that both suffice do the same, commands included
augment_alike : (left : ℕ) → 256 ≤ left → (k m : ℕ) → Alike left k m
augment_alike left large zero m t x u z w g d aside cs c l n = absurd (no_way t x cs w g c l)
augment_alike left large (suc k) zero t x u z w g d aside cs c l n = absurd (no_way t x cs w g c n)
augment_alike left large (suc k) (suc m) t x u z w g d aside cs c l n = alike_more left large k m (augment_alike left large k m) t x u z w g d aside cs c l n

pub augment-enough :
    (t : Table) (x : ℕ) (u : Table) (z : ℕ)
    → Whole t
    → (at t x).state ≡ S.Grow
    → x ≢ z
    → Aside t u z
    → (k left : ℕ)
    → 256 ≤ k
    → 256 ≤ left
    → augment_within k left x u ≡ augment_within 256 256 x u
augment-enough t x u z w g d aside k left long large =
    let o : T (outer t x) = rw g tt in
    let s = upward_short t w.full w.core x o in
    augment_alike left large k 256 t x u z w g d aside (upward t x) (upward_chain t w.full w.core x o) (omega (arith, s)) s
