-- Augmenting at a + node x with parent p, whose parent is a: after what hangs below x is matched and the tree is augmented at a,
-- p and a are matched by p's link.
use mathlib.Core.Path.{◌≡◌, ap, sym, ◌∙◌}
use mathlib.Core.Logic.{◌≢◌, ◌⊎◌, inl, inr}
use mathlib.Core.Bool.{Bool}
use Prim.Native.Nat.{ℕ, ◌<◌}
use lib.Dec.{T, eqb, eqb→eq, eqb_refl}
use Rattle.slot.specs.declared.state.State.TheVariants as S
use Rattle.slot.specs.Number.{none}
use Rattle.slot.specs.Slot.{Link, Slot, mirror}
use Rattle.table.specs.Table.{Table, at}
use Rattle.table.specs.Nodes.{outer}
use Rattle.rules.specs.Slots.{up}
use Rattle.rules.specs.Trees.{root}
use Rattle.rules.specs.Matching.{matched_to, temporary_match}
use Rattle.theorems_soundness.specs.FactsOfNodes.{Paired, OuterChild}
use Rattle.theorems_soundness.proofs.Reflect.{same_or_not}
use Rattle.theorems_soundness.proofs.ReflectSlots.{stay_grow, stay_shrink}
use Rattle.theorems_soundness.proofs.Past.{outer_below}
use Rattle.theorems_soundness.specs.RuleFacts.{alone_free, Whole, RightLink, Below}
use Rattle.theorems_soundness.proofs.Frames.{some_outer}
use Rattle.theorems_soundness.proofs.Renewing.{Kept, kept_then}
use Rattle.theorems_soundness.proofs.Matches.{paired_frame, slots_paired, right_kept, match_first, match_second, match_other, match_full, kept_match, match_whole}
use Rattle.theorems_soundness.proofs.Splitting.{freed}
use Rattle.theorems_soundness.proofs.Cleared.{counts_then, match_counts}
use Rattle.theorems_soundness.proofs.Trimming.{Aside, Trimmed, below_or_not, root-up, root_here, root_other}
use Rattle.theorems_soundness.proofs.Breaking.{free_freed, broken, BrokenSlots, breaks, break_kept, break_counts, break_whole}
use Rattle.theorems_soundness.proofs.KindLaws.{paired_back}
use Rattle.theorems_soundness.proofs.Augmented.{Closed, single_closed, Augmented, still_beside, trimmed_apart, Stem, stem_child, outer_x, outer_p, outer_a, p≢x, p≢a, x≢a, a_has_child, stem_right}

module _ (t : Table) (x : ℕ) (u : Table) (z : ℕ) (v₁ : Table) (w : Whole t) (grows : (at t x).state ≡ S.Grow) (x≢z : x ≢ z) (aside : Aside t u z) (r : Trimmed t x u z v₁) (p a : ℕ) (s : Stem r.table x p a) (v₂ : Table) (q : Augmented r.table a v₁ z v₂) where
  abbrev x₁ : Table
  x₁ = r.table

  abbrev x₂ : Table
  x₂ = q.table

  abbrev l : Link
  l = (at x₁ p).link

  outer_p₁ : T (outer x₁ p)
  outer_p₁ = outer_p x₁ x p a r.whole s

  outer_a₁ : T (outer x₁ a)
  outer_a₁ = outer_a x₁ x p a r.whole s

  p≢x₁ : p ≢ x
  p≢x₁ = p≢x x₁ x p a r.whole s

  p≢a₁ : p ≢ a
  p≢a₁ = p≢a x₁ x p a r.whole s

  x≢a₁ : x ≢ a
  x≢a₁ = x≢a x₁ x p a r.whole s

  z≢p : z ≢ p
  z≢p e = s.minus.has_child (rw e at r.aside.childless)

  z≢a : z ≢ a
  z≢a e = a_has_child x₁ x p a r.whole s (rw e at r.aside.childless)

  -- p is in a pair with x, as the list below a was matched
  pair : Paired x₂ p x
  pair = rw s.only at (q.pairs p (stem_child x₁ x p a r.whole s))

  abbrev x₃ : Table
  x₃ = broken x₂ p x

  abbrev x₄ : Table
  x₄ = (temporary_match p l a x₃).table

  abbrev v₃ : Table
  v₃ = (temporary_match p l a v₂).table

  slots : BrokenSlots x₂ p x x₃
  slots = breaks x₂ p x q.whole pair

  whole₃ : Whole x₃
  whole₃ = break_whole x₂ p x q.whole pair

  kept₃ : Kept x₁ x₃
  kept₃ = kept_then x₁ x₂ x₃ q.kept (break_kept x₂ p x q.whole pair)

  right : RightLink x₃ p l a
  right = right_kept x₁ x₃ p l a kept₃ (stem_right x₁ x p a r.whole s)

  x₃_other : (j : ℕ) → j ≢ p → j ≢ x → at x₃ j ≡ at x₂ j
  x₃_other j d f = slots.other j (elim [ inl e ↦ d e | inr (inl e) ↦ f e | inr (inr n) ↦ n ])

  x₃_a : at x₃ a ≡ at x₂ a
  x₃_a = x₃_other a (λ e. p≢a₁ (sym e)) (λ e. x≢a₁ (sym e))

  whole₄ : Whole x₄
  whole₄ = match_whole x₃ p l a whole₃ p≢a₁ (alone_free (rw slots.first (free_freed (at x₂ p)))) (alone_free (rw x₃_a q.free)) right

  kept₄ : Kept t x₄
  kept₄ =
      kept_then t x₁ x₄ r.kept
      (kept_then x₁ x₃ x₄ kept₃ (kept_match x₃ p l a whole₃.full whole₃.rest (kept₃.outers p outer_p₁) (kept₃.outers a outer_a₁) right))

  below_p : p < 256
  below_p = outer_below x₁ r.whole.full p outer_p₁

  below_a : a < 256
  below_a = outer_below x₁ r.whole.full a outer_a₁

  x₄_p : at x₄ p ≡ matched_to a l (at x₂ p)
  x₄_p = match_first x₃ p l a whole₃.full below_p below_a p≢a₁ ∙ ap (matched_to a l) slots.first

  x₄_a : at x₄ a ≡ matched_to p (mirror l) (at x₂ a)
  x₄_a = match_second x₃ p l a whole₃.full below_p below_a p≢a₁ ∙ ap (matched_to p (mirror l)) x₃_a

  x₄_x : at x₄ x ≡ freed (at x₂ x)
  x₄_x = match_other x₃ p l a x (λ e. p≢x₁ (sym e)) x≢a₁ ∙ slots.second

  x₄_other : (j : ℕ) → j ≢ p → j ≢ a → j ≢ x → at x₄ j ≡ at x₂ j
  x₄_other j d f g = match_other x₃ p l a j d f ∙ x₃_other j d g

  -- what the rule makes is the same
  v₃_p : at v₃ p ≡ at x₄ p
  v₃_p = match_first v₂ p l a q.full below_p below_a p≢a₁ ∙ ap (matched_to a l) (q.agree p p≢a₁ (λ e. z≢p (sym e))) ∙ sym x₄_p

  v₃_a : at v₃ a ≡ at x₄ a
  v₃_a = match_second v₂ p l a q.full below_p below_a p≢a₁ ∙ rings (at v₂ a) (at x₂ a) q.ring ∙ sym x₄_a
    where
      rings : (m n : Slot) → m.ring ≡ n.ring → matched_to p (mirror l) m ≡ matched_to p (mirror l) n
      rings m n e = rw e

  v₃_other : (j : ℕ) → j ≢ p → j ≢ a → at v₃ j ≡ at v₂ j
  v₃_other j d f = match_other v₂ p l a j d f

  agree₃ : (j : ℕ) → j ≢ x → j ≢ z → at v₃ j ≡ at x₄ j
  agree₃ j d f = go (same_or_not j p) (same_or_not j a)
    where
      go : (j ≡ p) ⊎ (j ≢ p) → (j ≡ a) ⊎ (j ≢ a) → at v₃ j ≡ at x₄ j
      go (inl e) h = rw e v₃_p
      go (inr g) (inl e) = rw e v₃_a
      go (inr g) (inr h) = v₃_other j g h ∙ q.agree j h f ∙ sym (x₄_other j g h d)

  -- what is in no way near is as it was
  closed₁ : (D : ℕ → Bool) → Closed t D → ¬ T (D x) → Closed x₁ D
  closed₁ D closed out =
      record {
        some = closed.some;
        parent = λ j d e.
            let same = trimmed_apart t x u z v₁ w grows x≢z aside r D closed out j d in
            rw (up, same) (closed.parent j d (λ n. e (rw (up, same) n)));
        child = λ j c d k. closed.child j c d (r.was c k.0, was_parent j c d k);
      }
    where
      was_parent : (j c : ℕ) → T (D j) → OuterChild x₁ j c → up t c ≡ j
      was_parent j c d k =
          elim (r.pruned c) [
            | inl e ↦ sym e ∙ k.1
            | inr e ↦ absurd (closed.some j d (sym k.1 ∙ e))
          ]

  apart₄ : (D : ℕ → Bool) → Closed t D → ¬ T (D x) → (j : ℕ) → T (D j) → at x₄ j ≡ at t j
  apart₄ D closed out j d =
      x₄_other j (λ e. no_p (rw e at d)) (λ e. no_a (rw e at d)) (λ e. out (rw e at d))
      ∙ q.apart D (closed₁ D closed out) no_a j d
      ∙ trimmed_apart t x u z v₁ w grows x≢z aside r D closed out j d
    where
      no_p : ¬ T (D p)
      no_p h = out ((closed₁ D closed out).child p x h (outer_x x₁ x p a r.whole s, s.parent))

      no_a : ¬ T (D a)
      no_a h = no_p ((closed₁ D closed out).child a p h (stem_child x₁ x p a r.whole s))

  -- a pair of x₁ is kept
  kept_single : (j : ℕ) → (at x₁ j).state ≡ S.Stay → up x₁ j ≡ none → (at x₁ j).first_child ≡ none → at x₄ j ≡ at x₁ j
  kept_single j e f g =
      x₄_other j (λ h. stay_shrink e (rw h s.minus.shrinks)) not_a (λ h. stay_grow e (rw h s.plus.grows))
      ∙ q.apart (λ i. eqb i j) (single_closed x₁ r.whole j (record { outer = rw e tt; parentless = f; childless = g })) (λ h. not_a (sym (eqb→eq a j h))) j (eqb_refl j)
    where
      not_a : j ≢ a
      not_a h = stay_grow e (rw h s.grows)

  still_paired : (i j : ℕ) → Paired x₁ i j → Paired x₄ i j
  still_paired i j h = paired_frame x₁ x₄ i j (kept_single i h.here.stays h.here.parentless h.here.childless) (kept_single j h.there.stays h.there.parentless h.there.childless) h

  pairs₄ : (m : ℕ) → OuterChild t x m → Paired x₄ m (at t m).first_child
  pairs₄ m k =
      still_paired m (at t m).first_child (r.pairs m k)

  -- ---- the nodes of the tree are in pairs

  pair₄ : Paired x₄ p a
  pair₄ = slots_paired x₄ p l a (at x₂ p) (at x₂ a) x₄_p x₄_a p≢a₁ s.minus.linked

  other_pair : (j i : ℕ) → j ≢ p → j ≢ a → j ≢ x → Paired x₂ j i → Paired x₄ j i
  other_pair j i d f g h =
      paired_frame x₂ x₄ j i (x₄_other j d f g)
      (x₄_other i (λ e. g (sym h.points_back ∙ rw e pair.sibling)) (λ e. stay_grow h.there.stays (rw e q.free.grows)) (λ e. d (sym h.points_back ∙ rw e pair.points_back))) h

  -- who was in the tree and not below x is in the tree that is left
  root_a : root x₁ a ≡ root t x
  root_a =
      let some = some_outer x₁ r.whole.full in
      ap (root x₁) (sym s.grandparent)
      ∙ root-up x₁ r.whole p outer_p₁ (λ e. some a outer_a₁ (sym s.grandparent ∙ e))
      ∙ ap (root x₁) (sym s.parent)
      ∙ root-up x₁ r.whole x (outer_x x₁ x p a r.whole s) (λ e. some p outer_p₁ (sym s.parent ∙ e))
      ∙ root_here t x u z v₁ w (rw grows tt) r

  above_mate : (j : ℕ) → T (outer t j) → root t j ≡ root t x → j ≢ x → ¬ Below t x j → (peer : ℕ) × Paired x₄ j peer
  above_mate j o e d b = go (same_or_not j p) (same_or_not j a)
    where
      go : (j ≡ p) ⊎ (j ≢ p) → (j ≡ a) ⊎ (j ≢ a) → (peer : ℕ) × Paired x₄ j peer
      go (inl f) h = (a, rw f pair₄)
      go (inr f) (inl h) = (p, rw h (paired_back x₄ p a pair₄))
      go (inr f) (inr h) =
          let m = q.mates j (r.kept.outers j o) (root_other t x u z v₁ w (rw grows tt) r j o b d ∙ e ∙ sym root_a) h in
          (m.0, other_pair j m.0 f h d m.1)

  mates₄ : (j : ℕ) → T (outer t j) → root t j ≡ root t x → j ≢ x → (peer : ℕ) × Paired x₄ j peer
  mates₄ j o e d = go (below_or_not t w x j (some_outer t w.full x (rw grows tt)) o)
    where
      go : Below t x j ⊎ ((j ≡ x) ⊎ ¬ Below t x j) → (peer : ℕ) × Paired x₄ j peer
      go (inl b) = let m = r.mates j b in (m.0, still_paired j m.0 m.1)
      go (inr (inl f)) = absurd (d f)
      go (inr (inr b)) = above_mate j o e d b

  v₃_x : at v₃ x ≡ at x₂ x
  v₃_x = v₃_other x (λ e. p≢x₁ (sym e)) x≢a₁ ∙ q.agree x x≢a₁ x≢z

  pub augmented_more : Augmented t x u z (temporary_match p (at r.table p).link a v₂).table
  augmented_more =
      record {
        table = x₄;
        whole = whole₄;
        kept = kept₄;
        same = counts_then t x₁ x₄ r.same (counts_then x₁ x₂ x₄ q.same (counts_then x₂ x₃ x₄ (break_counts x₂ p x q.whole pair) (match_counts x₃ p l a)));
        free = rw x₄_x (free_freed (at x₂ x));
        agree = agree₃;
        ring = rw (v₃_x, x₄_x);
        single = record { outer = rw (v₃_x, pair.there.stays) tt; parentless = rw (up, v₃_x) pair.there.parentless; childless = rw v₃_x pair.there.childless };
        left = v₃_other z z≢p z≢a ∙ q.left ∙ r.left;
        beside = x₄_other z z≢p z≢a (λ e. x≢z (sym e)) ∙ q.beside ∙ still_beside t x u z v₁ w grows x≢z aside r;
        apart = apart₄;
        pairs = pairs₄;
        mates = mates₄;
        full = match_full v₂ p l a q.full;
        counts = counts_then t x₁ v₃ r.same (counts_then x₁ v₂ v₃ q.counts (match_counts v₂ p l a));
      }
