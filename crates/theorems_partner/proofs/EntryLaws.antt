-- The rule of `rules/specs/Partner` on a sound table, without its budgets: what pairs an outer node, and what pairs a ring node where the
-- blossom around it is paired at one of them.
use mathlib.Core.Path.{◌≡◌, refl, sym, ap, ◌∙◌}
use mathlib.Core.Logic.{◌≢◌, inl, inr}
use Prim.Native.Nat.{ℕ, zero, suc, ◌+◌, ◌≤◌, ◌<◌}
use native.Mathlib.Omega.{arith}
use lib.Dec.{T}
use Rattle.slot.specs.declared.state.State.TheVariants as S
use Rattle.slot.specs.Number.{none}
use Rattle.slot.specs.Slot.{Link, no_link}
use Rattle.table.specs.Table.{Table, at, Full}
use Rattle.table.specs.Nodes.{present, outer, inner}
use Rattle.table.specs.Climb.{outer_blossom}
use Rattle.rules.specs.Slots.{is_stay, up, next}
use Rattle.rules.specs.Partner.{holder, link_in_twos, inside_paired, paired_within, entry}
use Rattle.theorems_soundness.specs.Chain.{Steps}
use Rattle.theorems_soundness.specs.FactsOfBlossoms.{InnerChild, Inside}
use Rattle.theorems_soundness.specs.Facts.{Rest}
use Rattle.theorems_soundness.proofs.Reflect.{test_true, test_false, eqb_yes, eqb_no, same_or_not}
use Rattle.theorems_soundness.proofs.ReflectSlots.{outer_not_inner, stay↔}
use Rattle.theorems_soundness.proofs.Past.{outer_below, inner_below}
use Rattle.theorems_soundness.proofs.Climbing.{steps_grow}
use Rattle.theorems_soundness.proofs.RingLaws.{inner_parent_present}
use Rattle.theorems_soundness.proofs.InsideLaws.{inside_self, one_ring_node, outer_blossom_outer, outer_blossom_holds}

-- ---- one level of the rule, with any budget

module _ (t : Table) (k x : ℕ) where
  level_inner : T (inner t x) → paired_within (suc k) t x ≡ inside_paired t (paired_within k t (up t x)) x
  unfolding paired_within
  level_inner i = rw (test_true (inner t x) i)

  level_matched : (at t x).state ≡ S.Stay → paired_within (suc k) t x ≡ (at t x).link
  unfolding paired_within
  level_matched s = rw s

  level_unmatched : T (outer t x) → (at t x).state ≢ S.Stay → paired_within (suc k) t x ≡ no_link
  unfolding paired_within
  level_unmatched o d =
      rw (test_false (inner t x) (λ i. outer_not_inner (at t x).state o i), test_false (is_stay (at t x).state) (λ h. d ((stay↔ (at t x).state).0 h)))

  -- an outer node is paired without a look at any other
  level_outer : (m : ℕ) → T (outer t x) → paired_within (suc k) t x ≡ paired_within (suc m) t x
  unfolding paired_within
  level_outer m o = rw (test_false (inner t x) (λ i. outer_not_inner (at t x).state o i))

pub matched_entry : (t : Table) (x : ℕ) → (at t x).state ≡ S.Stay → entry t x ≡ (at t x).link
matched_entry t x = level_matched t 255 x

pub unmatched_entry : (t : Table) (x : ℕ) → T (outer t x) → (at t x).state ≢ S.Stay → entry t x ≡ no_link
unmatched_entry t x = level_unmatched t 255 x

module _ (t : Table) (full : Full t) (rest : Rest t) where
  -- ---- any two budgets that reach the outer node agree

  agree : (j k m x h : ℕ) → Steps (inner t) (up t) j x h → T (outer t h) → j < k → j < m → paired_within k t x ≡ paired_within m t x
  agree j zero m x h p o l n = absurd (omega arith)
  agree j (suc k) zero x h p o l n = absurd (omega arith)
  agree zero (suc k) (suc m) x h p o l n = level_outer t k x m (rw p o)
  agree (suc j) (suc k) (suc m) x h p o l n =
      level_inner t k x p.0
      ∙ ap (λ (l : Link). inside_paired t l x) (agree j k m (up t x) h p.1 o (omega arith) (omega arith))
      ∙ sym (level_inner t m x p.0)

  -- no way up has more steps than there are slots above its start
  pub steps_few : (j a b : ℕ) → Steps (inner t) (up t) j a b → j + a ≤ b
  steps_few = steps_grow (inner t) (up t) (λ n i. (rest.inners n i).larger)

  -- 256 reach it from every node
  pub budget_enough : (k x : ℕ) → T (present t x) → 256 ≤ k → paired_within k t x ≡ entry t x
  budget_enough k x there l =
      let h = outer_blossom t x in
      let o = outer_blossom_outer t full rest x there in
      let i = outer_blossom_holds t full rest x there in
      let few = steps_few i.steps x h i.climb in
      let top = outer_below t full h o in
      agree i.steps k 256 x h i.climb o (omega arith) (omega arith)

  -- .. and 255 from a blossom, which is above another node
  pub inner-entry : (x : ℕ) → T (inner t x) → entry t x ≡ inside_paired t (entry t (up t x)) x
  inner-entry x i =
      let there = inner_parent_present t full rest x i in
      let h = outer_blossom t (up t x) in
      let o = outer_blossom_outer t full rest (up t x) there in
      let w = outer_blossom_holds t full rest (up t x) there in
      let few = steps_few (suc w.steps) x h (i, w.climb) in
      let top = outer_below t full h o in
      level_inner t 255 x i
      ∙ ap (λ (l : Link). inside_paired t l x) (agree w.steps 255 256 (up t x) h w.climb o (omega arith) (omega arith))

  -- ---- which ring node holds a node

  holder_here : (k b n : ℕ) → up t n ≡ b → holder (suc k) t b n ≡ n
  unfolding holder
  holder_here k b n e = rw (eqb_yes (up t n) b e)

  holder_higher : (k b n : ℕ) → up t n ≢ b → holder (suc k) t b n ≡ holder k t b (up t n)
  unfolding holder
  holder_higher k b n d = rw (eqb_no (up t n) b d)

  holder_spent : (b n : ℕ) → holder zero t b n ≡ n
  unfolding holder
  holder_spent b n = refl

  pub holder_is : (j k b y n : ℕ) → InnerChild t b y → Steps (inner t) (up t) j n y → j ≤ k → holder k t b n ≡ y
  holder_is zero zero b y n c p l = holder_spent b n ∙ p
  holder_is (suc j) zero b y n c p l = absurd (omega arith)
  holder_is zero (suc k) b y n c p l = holder_here k b n (ap (up t) p ∙ c.1) ∙ p
  holder_is (suc j) (suc k) b y n c p l =
      elim (same_or_not (up t n) b) [
        | inl e ↦ holder_here k b n e ∙ one_ring_node t full rest b n y n (p.0, e) c (inside_self t n) (record { steps = suc j; climb = p })
        | inr d ↦ holder_higher k b n d ∙ holder_is j k b y (up t n) c p.1 (omega arith)
      ]

  -- within the budget of the rule
  pub holder_found : (k b y n : ℕ) → 256 ≤ k → InnerChild t b y → Inside t y n → holder k t b n ≡ y
  holder_found k b y n l c i =
      let few = steps_few i.steps n y i.climb in
      let below = inner_below t full y c.0 in
      holder_is i.steps k b y n c i.climb (omega arith)

  -- ---- a ring node x, where the blossom around it is paired at the ring node y

  module _ (x y : ℕ) (i : T (inner t x)) (c : InnerChild t (up t x) y) (some : (entry t (up t x)).touch ≢ none) (held : Inside t y (entry t (up t x)).touch) where
    y_found : holder 256 t (up t x) (entry t (up t x)).touch ≡ y
    y_found = holder_found 256 (up t x) y (entry t (up t x)).touch (omega arith) c held

    pub touched_entry : x ≡ y → entry t x ≡ entry t (up t x)
    touched_entry e = inner-entry x i ∙ rw (eqb_no (entry t (up t x)).touch none some, y_found, eqb_yes x y e)

    pub beside_entry : x ≢ y → entry t x ≡ link_in_twos 128 t (next t y) x
    beside_entry d = inner-entry x i ∙ rw (eqb_no (entry t (up t x)).touch none some, y_found, eqb_no x y d)

  -- .. and where it is paired with nobody
  pub nobody_inside : (x : ℕ) → T (inner t x) → entry t (up t x) ≡ no_link → entry t x ≡ no_link
  nobody_inside x i e = inner-entry x i ∙ ap (λ (l : Link). inside_paired t l x) e
