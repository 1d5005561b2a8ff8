-- How many commands augmenting at a Grow node gives: at most four for each − node of the table that is one no more.
use mathlib.Core.Path.{◌≡◌, ap, ◌∙◌}
use mathlib.Core.Logic.{◌≢◌, inl, inr}
use mathlib.Core.List.{List, [], ◌∷◌}
use Prim.Native.Nat.{ℕ, zero, suc, ◌+◌, ◌*◌, ◌≤◌}
use native.Mathlib.Omega.{arith}
use lib.Dec.{T}
use lib.ListN.{length}
use Rattle.slot.specs.declared.state.State.TheVariants as S
use Rattle.slot.specs.Number.{none}
use Rattle.slot.specs.Slot.{Link, Slot}
use Rattle.table.specs.Table.{Table, at, put}
use Rattle.table.proofs.TableLaws.{at-put-same, at-put_other, put_full}
use Rattle.table.specs.Nodes.{outer}
use Rattle.rules.specs.Act.{skip, ◌then◌}
use Rattle.rules.specs.Slots.{with_first_child, up}
use Rattle.rules.specs.Trees.{upward}
use Rattle.theorems_soundness.specs.Chain.{Chain}
use Rattle.rules.specs.Matching.{temporary_match, augment_subtree, augment_within, augment_whole_tree}
use Rattle.theorems_soundness.proofs.Reflect.{same_or_not}
use Rattle.theorems_soundness.proofs.Past.{outer_below}
use Rattle.theorems_soundness.specs.RuleFacts.{Whole, Below}
use Rattle.theorems_soundness.proofs.WaysUp.{upward_chain, upward_short}
use Rattle.theorems_soundness.proofs.Frames.{some_outer}
use Rattle.theorems_soundness.proofs.Below.{top_not_below, not_below_self, tied_most}
use Rattle.theorems_soundness.proofs.Cleared.{Task}
use Rattle.theorems_soundness.proofs.Trimming.{Aside, Trimmed, subtree_rule, trimmed, trimmed_way}
use Rattle.theorems_soundness.proofs.Augmented.{Augmented, Stem, stem, a_has_child}
use Rattle.theorems_soundness.proofs.WholeTrees.{augment_top, augment-more, two_steps, augments}
use Rattle.theorems_requests.proofs.MinusNodes.{shrinks, minuses, minuses_fewer}
use Rattle.theorems_requests.proofs.SubtreeCommands.{commands, then_commands, match_commands, match_fewer, siblings_pay, some_commands}

-- ---- the list below one node

module _ (t : Table) (y : ℕ) (u : Table) (z : ℕ) (w : Whole t) (grows : (at t y).state ≡ S.Grow) (aside : Aside t u z) (y≢z : y ≢ z) where
  abbrev cut : Table
  cut = put u y (with_first_child none (at u y))

  below_y : (j : ℕ) → Below t y j → at cut j ≡ at t j
  below_y j b =
      let o : T (outer t y) = rw grows tt in
      let d : j ≢ y = λ e. not_below_self t w.full w.core y (rw e at b) in
      let f : j ≢ z = λ e. top_not_below t w.full y z (some_outer t w.full y o) aside.parentless (rw e at b) in
      at-put_other u y j (with_first_child none (at u y)) d ∙ aside.agree j f

  task : Task t y cut
  task = record { whole = w; grows = grows; full = put_full u y (with_first_child none (at u y)) aside.full; agree = below_y }

  here : (at u y).first_child ≡ (at t y).first_child
  here = ap (λ (s : Slot). s.first_child) (aside.agree y y≢z)

  -- cutting off a list makes no − node
  cut_shrinks : (j : ℕ) → T (shrinks cut j) → T (shrinks u j)
  cut_shrinks j h =
      elim (same_or_not j y) [
        | inl e ↦ rw e (rw (e, at-put-same u y (with_first_child none (at u y)) aside.full (outer_below t w.full y (rw grows tt))) at h)
        | inr d ↦ rw (at-put_other u y j (with_first_child none (at u y)) d) at h
      ]

  pub subtree_pays : commands (augment_subtree 256 y) u + 2 * minuses (augment_subtree 256 y u).table ≤ 2 * minuses u
  subtree_pays =
      rw (subtree_rule 256 y u, here) (omega (arith, siblings_pay 256 t y cut task (tied_most t), minuses_fewer u cut cut_shrinks))

  pub subtree_some : (at t y).first_child ≢ none → 2 ≤ commands (augment_subtree 256 y) u
  subtree_some d = rw (subtree_rule 256 y u, here) (some_commands 255 t y cut task d)

-- ---- up to the root

-- the list below x counts twice: where x is above the node that was augmented at, that pays for the match of the node between
abbrev Pays : ℕ → Type 0
Pays k =
    (t : Table) (x : ℕ) (u : Table) (z : ℕ)
    → Whole t
    → (at t x).state ≡ S.Grow
    → x ≢ z
    → Aside t u z
    → (cs : List ℕ)
    → Chain (up t) x cs
    → length cs ≤ k
    → commands (augment_within k 256 x) u + commands (augment_subtree 256 x) u + 4 * minuses (augment_within k 256 x u).table ≤ 4 * minuses u

module _ (t : Table) (x : ℕ) (u : Table) (z : ℕ) (w : Whole t) (grows : (at t x).state ≡ S.Grow) (x≢z : x ≢ z) (aside : Aside t u z) where
  abbrev v₁ : Table
  v₁ = (augment_subtree 256 x u).table

  r : Trimmed t x u z v₁
  r = trimmed t x u z w grows aside x≢z

  abbrev x₁ : Table
  x₁ = r.table

  v₁_x : at v₁ x ≡ at x₁ x
  v₁_x = r.aside.agree x x≢z

  here_pays : commands (augment_subtree 256 x) u + 2 * minuses v₁ ≤ 2 * minuses u
  here_pays = subtree_pays t x u z w grows aside x≢z

  top_pays : (k : ℕ) → up x₁ x ≡ none → commands (augment_within (suc k) 256 x) u + commands (augment_subtree 256 x) u + 4 * minuses (augment_within (suc k) 256 x u).table ≤ 4 * minuses u
  unfolding ◌then◌ skip
  top_pays k e =
      let rule = augment_top k 256 x u (rw v₁_x e) in
      let said = then_commands (augment_subtree 256 x) skip u in
      rw rule (omega (arith, said, here_pays))

  module _ (d : up x₁ x ≢ none) where
    abbrev p : ℕ
    p = up x₁ x

    abbrev a : ℕ
    a = up x₁ p

    abbrev l : Link
    l = (at x₁ p).link

    s : Stem x₁ x p a
    s = stem x₁ x r.whole (rw r.here grows) d

    beside : (j : ℕ) → (at x₁ j).first_child ≢ none → j ≢ z
    beside j h e = h (ap (λ (i : ℕ). (at x₁ i).first_child) e ∙ r.aside.childless)

    a≢z : a ≢ z
    a≢z = beside a (a_has_child x₁ x p a r.whole s)

    module _ (k : ℕ) (cs : List ℕ) (c : Chain (up t) x cs) (enough : length cs ≤ suc k) where
      abbrev v₂ : Table
      v₂ = (augment_within k 256 a v₁).table

      rule : augment_within (suc k) 256 x u ≡ (augment_subtree 256 x then (augment_within k 256 a then temporary_match p l a)) u
      rule = augment-more k 256 x p u (at x₁ p) (rw v₁_x) d (r.aside.agree p (beside p s.minus.has_child))

      ds : (ds : List ℕ) × (Chain (up x₁) a ds × (suc (suc (length ds)) ≡ length cs))
      ds = two_steps (up x₁) x cs (some_outer t w.full x (rw grows tt)) d (trimmed_way t x u z v₁ w.full r cs c)

      above : Augmented x₁ a v₁ z v₂
      above = augments k x₁ a v₁ z r.whole s.grows a≢z r.aside ds.0 ds.1.0 (omega (arith, ds.1.1))

      said : commands (augment_within (suc k) 256 x) u ≡ commands (augment_subtree 256 x) u + (commands (augment_within k 256 a) v₁ + 2)
      said =
          rw (rule, then_commands (augment_subtree 256 x) (augment_within k 256 a then temporary_match p l a) u, then_commands (augment_within k 256 a) (temporary_match p l a) v₁, match_commands p l a v₂)

      left : (augment_within (suc k) 256 x u).table ≡ (temporary_match p l a v₂).table
      unfolding ◌then◌
      left = rw rule

      more_pays : Pays k → commands (augment_within (suc k) 256 x) u + commands (augment_subtree 256 x) u + 4 * minuses (augment_within (suc k) 256 x u).table ≤ 4 * minuses u
      more_pays ih =
          let up-pays = ih x₁ a v₁ z r.whole s.grows a≢z r.aside ds.0 ds.1.0 (omega (arith, ds.1.1)) in
          let at_least_lem = subtree_some x₁ a v₁ z r.whole s.grows r.aside a≢z (a_has_child x₁ x p a r.whole s) in
          let fewer = match_fewer v₂ p l a above.full in
          rw (said, left) (omega (arith, up-pays, at_least_lem, fewer, here_pays))

pays_more : (k : ℕ) → Pays k → Pays (suc k)
pays_more k ih t x u z w g d aside cs c enough =
    elim (same_or_not (up (r t x u z w g d aside).table x) none) [
      | inl e ↦ top_pays t x u z w g d aside k e
      | inr f ↦ more_pays t x u z w g d aside f k cs c enough ih
    ]

pays_zero : Pays zero
pays_zero t x u z w g d aside [] c l = absurd (some_outer t w.full x (rw g tt) c)
pays_zero t x u z w g d aside (y ∷ cs) c l = absurd (omega arith)

within_pays : (k : ℕ) → Pays k
within_pays zero = pays_zero
within_pays (suc k) = pays_more k (within_pays k)

-- the whole tree
pub tree-pays :
    (t : Table) (x : ℕ) (u : Table) (z : ℕ)
    → Whole t
    → (at t x).state ≡ S.Grow
    → x ≢ z
    → Aside t u z
    → commands (augment_whole_tree x) u + 4 * minuses (augment_whole_tree x u).table ≤ 4 * minuses u
tree-pays t x u z w g d aside =
    let o : T (outer t x) = rw g tt in
    omega (arith, within_pays 256 t x u z w g d aside (upward t x) (upward_chain t w.full w.core x o) (upward_short t w.full w.core x o))
