-- Each row of "What a conflict does" that makes no blossom keeps a sound table sound; so does each kind of virtual conflict.
use mathlib.Core.Path.{◌≡◌, refl, ap, sym, ◌∙◌}
use mathlib.Core.Logic.{◌≢◌, ◌⊎◌, inl, inr}
use mathlib.Core.Bool.{Bool, ◌&&◌}
use Prim.Native.Nat.{ℕ, ◌≤◌, ◌<◌}
use lib.Dec.{T, eqb, eqb→eq, eqb_refl}
use Rattle.slot.specs.declared.state.State.TheVariants as S
use Rattle.slot.specs.Number.{none, no_vertex}
use Rattle.slot.specs.Slot.{Link, Slot, mirror}
use Rattle.table.specs.Table.{Table, at, put, Full}
use Rattle.table.proofs.TableLaws.{at-put-same, at-put_other, put_full, table-ext}
use Rattle.table.specs.Nodes.{outer}
use Rattle.rules.specs.Act.{alter}
use Rattle.rules.specs.Slots.{up}
use Rattle.rules.specs.Trees.{root}
use Rattle.rules.specs.Matching.{matched_to, temporary_match, temporary_match_virtual, augment_within, augment_whole_tree}
use Rattle.theorems_soundness.specs.FactsOfNodes.{Free}
use Rattle.theorems_soundness.specs.FactsOfBlossoms.{DefectInside}
use Rattle.theorems_soundness.proofs.Reflect.{tests, same_or_not}
use Rattle.theorems_soundness.proofs.Past.{at_none, outer_below}
use Rattle.theorems_soundness.proofs.ChildLaws.{above_outer}
use Rattle.theorems_soundness.specs.RuleFacts.{Alone, alone_free, alone_virtual, Whole, RightLink}
use Rattle.theorems_soundness.proofs.Frames.{some_outer}
use Rattle.theorems_soundness.proofs.Singles.{alone_single}
use Rattle.theorems_soundness.proofs.Renewing.{Kept, SameCounts, put_counts, kept_then}
use Rattle.theorems_soundness.proofs.Matches.{right_kept, match_first, match_second, match_other, match_full, match_whole, virtual_link, virtual_table, virtual_whole}
use Rattle.theorems_soundness.proofs.Cleared.{counts_then, match_counts}
use Rattle.theorems_soundness.proofs.Trimming.{Aside, counts_back, root-up}
use Rattle.theorems_soundness.proofs.Augmented.{Closed, single_closed, Augmented}
use Rattle.theorems_soundness.proofs.WholeTrees.{augment_aside, augment_does, augment-enough}

-- ---- what a match overwrites does not matter

same_ring : (peer : ℕ) (l : Link) (s r : Slot) → s.ring ≡ r.ring → matched_to peer l s ≡ matched_to peer l r
same_ring peer l s r e = rw e

overwritten :
    (t v : Table) (a : ℕ) (l : Link) (b : ℕ)
    → Full t
    → Full v
    → SameCounts t v
    → a < 256
    → b < 256
    → a ≢ b
    → ((j : ℕ) → j ≢ a → j ≢ b → at v j ≡ at t j)
    → (at v a).ring ≡ (at t a).ring
    → (at v b).ring ≡ (at t b).ring
    → (temporary_match a l b v).table ≡ (temporary_match a l b t).table
overwritten t v a l b ft fv counts la lb d agree ra rb =
    let m = temporary_match a l b in
    let c = counts_then (m t).table t (m v).table (counts_back t (m t).table (match_counts t a l b)) (counts_then t v (m v).table counts (match_counts v a l b)) in
    table-ext (m v).table (m t).table (match_full v a l b fv) (match_full t a l b ft) (λ n _. slot n (same_or_not n a) (same_or_not n b)) c.begin c.defects c.blossoms
  where
    slot : (n : ℕ) → (n ≡ a) ⊎ (n ≢ a) → (n ≡ b) ⊎ (n ≢ b) → at (temporary_match a l b v).table n ≡ at (temporary_match a l b t).table n
    slot n (inl e) h = rw e (match_first v a l b fv la lb d ∙ same_ring b l (at v a) (at t a) ra ∙ sym (match_first t a l b ft la lb d))
    slot n (inr p) (inl e) = rw e (match_second v a l b fv la lb d ∙ same_ring a (mirror l) (at v b) (at t b) rb ∙ sym (match_second t a l b ft la lb d))
    slot n (inr p) (inr q) = match_other v a l b n p q ∙ agree n p q ∙ sym (match_other t a l b n p q)

overwritten-slot :
    (t v : Table) (n : ℕ) (l : Link)
    → Full t
    → Full v
    → SameCounts t v
    → n < 256
    → ((j : ℕ) → j ≢ n → at v j ≡ at t j)
    → (at v n).ring ≡ (at t n).ring
    → put v n (matched_to none l (at v n)) ≡ put t n (matched_to none l (at t n))
overwritten-slot t v n l ft fv counts ln agree r =
    let a = matched_to none l (at v n) in
    let b = matched_to none l (at t n) in
    let c = counts_then (put t n b) t (put v n a) (counts_back t (put t n b) (put_counts t n b)) (counts_then t v (put v n a) counts (put_counts v n a)) in
    table-ext (put v n a) (put t n b) (put_full v n a fv) (put_full t n b ft) (λ j _. slot j (same_or_not j n)) c.begin c.defects c.blossoms
  where
    slot : (j : ℕ) → (j ≡ n) ⊎ (j ≢ n) → at (put v n (matched_to none l (at v n))) j ≡ at (put t n (matched_to none l (at t n))) j
    slot j (inl e) = rw e (at-put-same v n (matched_to none l (at v n)) fv ln ∙ same_ring none l (at v n) (at t n) r ∙ sym (at-put-same t n (matched_to none l (at t n)) ft ln))
    slot j (inr d) = at-put_other v n j (matched_to none l (at v n)) d ∙ agree j d ∙ sym (at-put_other t n j (matched_to none l (at t n)) d)

-- ---- a tree and a node without a peer

-- v is sound but for the node that was augmented at
module _ (t : Table) (x : ℕ) (v : Table) (w : Whole t) (grows : (at t x).state ≡ S.Grow) (q : Augmented t x t none v) where
  outer_x : T (outer t x)
  outer_x = rw grows tt

  pub agree_but : (j : ℕ) → j ≢ x → at v j ≡ at q.table j
  agree_but j d =
      elim (same_or_not j none) [
        | inl e ↦ rw e (at_none v q.full ∙ sym (at_none q.table q.whole.full))
        | inr f ↦ q.agree j d f
      ]

  counts_but : SameCounts q.table v
  counts_but = counts_then q.table t v (counts_back t q.table q.same) q.counts

  -- a node without a peer is not touched
  alone_still : (f : ℕ) → f ≢ x → Alone t f → Alone q.table f
  alone_still f d a = go a (q.apart (λ i. eqb i f) (single_closed t w f (alone_single a)) (λ h. d (sym (eqb→eq x f h))) f (eqb_refl f))
    where
      go : Alone t f → at q.table f ≡ at t f → Alone q.table f
      go (alone_free h) e = alone_free (rw e h)
      go (alone_virtual h) e = alone_virtual (rw e h)

  same_ring_at : (f : ℕ) → f ≢ x → (at v f).ring ≡ (at q.table f).ring
  same_ring_at f d = rw (agree_but f d)

  -- the two matched, named in either order
  match_after : (a : ℕ) (l : Link) (b : ℕ) → a ≢ b → (x ≡ a) ⊎ (x ≡ b) → Alone q.table a → Alone q.table b → RightLink t a l b → Whole (temporary_match a l b v).table
  match_after a l b d h aa ab right =
      let below_a = outer_below q.table q.whole.full a (alone_single aa).outer in
      let below-b = outer_below q.table q.whole.full b (alone_single ab).outer in
      rw (overwritten q.table v a l b q.whole.full q.full counts_but below_a below-b d agree (ring_at a) (ring_at b))
      (match_whole q.table a l b q.whole d aa ab (right_kept t q.table a l b q.kept right))
    where
      agree : (j : ℕ) → j ≢ a → j ≢ b → at v j ≡ at q.table j
      agree j e f = agree_but j (λ z. elim h [ inl k ↦ e (z ∙ k) | inr k ↦ f (z ∙ k) ])

      ring_at : (j : ℕ) → (at v j).ring ≡ (at q.table j).ring
      ring_at j = elim (same_or_not j x) [ inl e ↦ rw e q.ring | inr e ↦ same_ring_at j e ]

-- "augment the tree at its node", then match, the node without a peer first or second
module _ (t : Table) (f x : ℕ) (l : Link) (w : Whole t) (alone : Alone t f) (grows : (at t x).state ≡ S.Grow) (d : f ≢ x) where
  q : Augmented t x t none (augment_whole_tree x t).table
  q = augment_does t x w grows

  pub alone_tree : RightLink t f l x → Whole (temporary_match f l x (augment_whole_tree x t).table).table
  alone_tree = match_after t x (augment_whole_tree x t).table w grows q f l x d (inr refl) (alone_still t x (augment_whole_tree x t).table w grows q f d alone) (alone_free q.free)

  pub tree_alone : RightLink t x l f → Whole (temporary_match x l f (augment_whole_tree x t).table).table
  tree_alone =
      match_after t x (augment_whole_tree x t).table w grows q x l f (λ e. d (sym e)) (inl refl) (alone_free q.free) (alone_still t x (augment_whole_tree x t).table w grows q f d alone)

-- "augment if in a tree, then the node is set to Stay, matched to the virtual vertex"
pub tree-virtual :
    (t : Table) (x touch vertex virtual : ℕ)
    → Whole t
    → (at t x).state ≡ S.Grow
    → DefectInside t x touch
    → touch ≢ none
    → vertex ≢ no_vertex
    → virtual ≢ no_vertex
    → Whole (temporary_match_virtual x touch vertex virtual (augment_whole_tree x t).table).table
unfolding alter
tree-virtual t x touch vertex virtual w g i d e f =
    let v = (augment_whole_tree x t).table in
    let q = augment_does t x w g in
    let below = outer_below t w.full x (rw g tt) in
    let same = overwritten-slot q.table v x (virtual_link touch vertex virtual) q.whole.full q.full (counts_but t x v w g q) below (agree_but t x v w g q) q.ring in
    rw (virtual_table x touch vertex virtual v, same, ← virtual_table x touch vertex virtual q.table)
    (virtual_whole q.table x touch vertex virtual q.whole (alone_free q.free) (q.kept.inside x touch i) d e f)

-- ---- two trees

-- the nodes of one tree
abbrev pub in_tree_of : Table → ℕ → ℕ → Bool
in_tree_of t y j = outer t j && eqb (root t j) (root t y)

pub tree_closed : (t : Table) → Whole t → (y : ℕ) → Closed t (in_tree_of t y)
tree_closed t w y =
    record {
      some = λ j h. let r = simp tests at h in some_outer t w.full j r.0;
      parent = λ j h d. let r = simp tests at h in simp tests (above_outer t w.full w.core j r.0 d, root-up t w j r.0 d ∙ r.1);
      child = λ j c h k.
          let r = simp tests at h in
          let d : up t c ≢ none = λ e. some_outer t w.full j r.0 (sym k.1 ∙ e) in
          simp tests (k.0, sym (root-up t w c k.0 d) ∙ ap (root t) k.1 ∙ r.1);
    }

-- "augment at node_1, then node_2; match node_1, node_2"
module _ (t : Table) (x y : ℕ) (w : Whole t) (grows-x : (at t x).state ≡ S.Grow) (grows-y : (at t y).state ≡ S.Grow) (apart : root t x ≢ root t y) where
  abbrev v₁ : Table
  v₁ = (augment_whole_tree x t).table

  q₁ : Augmented t x t none v₁
  q₁ = augment_does t x w grows-x

  x≢y : x ≢ y
  x≢y e = apart (ap (root t) e)

  grows_y₁ : (at q₁.table y).state ≡ S.Grow
  grows_y₁ =
      let o : T (outer t y) = rw grows-y tt in
      rw (q₁.apart (in_tree_of t y) (tree_closed t w y) (λ h. let r = simp tests at h in apart r.1) y (simp tests (o, refl))) grows-y

  aside : Aside q₁.table v₁ x
  aside =
      record {
        full = q₁.full;
        counts = counts_but t x v₁ w grows-x q₁;
        agree = agree_but t x v₁ w grows-x q₁;
        parentless = q₁.free.parentless;
        childless = q₁.free.childless;
      }

  abbrev v₂ : Table
  v₂ = (augment_whole_tree y v₁).table

  q₂ : Augmented q₁.table y v₁ x v₂
  q₂ = augment_aside q₁.table y v₁ x q₁.whole grows_y₁ (λ e. x≢y (sym e)) aside

  kept : Kept t q₂.table
  kept = kept_then t q₁.table q₂.table q₁.kept q₂.kept

  free_x : Free (at q₂.table x)
  free_x = rw q₂.beside q₁.free

  ring_x : (at v₂ x).ring ≡ (at q₂.table x).ring
  ring_x = rw (q₂.left, q₂.beside) q₁.ring

  -- the second tree, too, with every larger budget alike
  pub second_enough : (k left : ℕ) → 256 ≤ k → 256 ≤ left → augment_within k left y v₁ ≡ augment_within 256 256 y v₁
  second_enough = augment-enough q₁.table y v₁ x q₁.whole grows_y₁ (λ e. x≢y (sym e)) aside

  pub two_trees : (l : Link) → RightLink t x l y → Whole (temporary_match x l y (augment_whole_tree y (augment_whole_tree x t).table).table).table
  two_trees l right =
      let x₂ = q₂.table in
      let below_x = outer_below x₂ q₂.whole.full x (rw free_x.grows tt) in
      let below_y = outer_below x₂ q₂.whole.full y (rw q₂.free.grows tt) in
      rw (overwritten x₂ v₂ x l y q₂.whole.full q₂.full (counts_then x₂ q₁.table v₂ (counts_back q₁.table x₂ q₂.same) q₂.counts) below_x below_y x≢y (λ j d f. q₂.agree j f d) ring_x q₂.ring)
      (match_whole x₂ x l y q₂.whole x≢y (alone_free free_x) (alone_free q₂.free) (right_kept t x₂ x l y kept right))
