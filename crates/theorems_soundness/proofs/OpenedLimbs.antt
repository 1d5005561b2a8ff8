-- The attached nodes of a blossom that is taken apart, each seen from itself.
use mathlib.Core.Path.{◌≡◌, refl, ap, ◌∙◌}
use mathlib.Core.Logic.{◌≢◌, ◌⊎◌, inl, inr}
use mathlib.Core.Bool.{Bool, true, false, not}
use mathlib.Core.List.{List, [], ◌∷◌}
use Prim.Native.Nat.{ℕ, zero, suc, ◌+◌}
use native.Mathlib.Omega.{arith}
use lib.Dec.{T}
use lib.ListN.{length}
use Rattle.slot.specs.declared.state.State.TheVariants as S
use Rattle.slot.specs.Number.{none}
use Rattle.table.specs.Table.{Table, at, Full}
use Rattle.table.specs.Nodes.{outer}
use Rattle.rules.specs.Slots.{up, next}
use Rattle.rules.specs.Expansion.{state_by}
use Rattle.theorems_soundness.specs.Chain.{◌∈◌}
use Rattle.theorems_soundness.specs.FactsOfNodes.{Kind, minus_node, plus_node, OuterChild, Upward}
use Rattle.theorems_soundness.proofs.Chains.{end_of}
use Rattle.theorems_soundness.proofs.KindLaws.{kind_outer}
use Rattle.theorems_soundness.specs.RuleFacts.{RightLink}
use Rattle.theorems_soundness.proofs.Frames.{some_outer, next-upward}
use Rattle.theorems_soundness.proofs.Opened.{head_or, Attached, AttachedDown, Opened}
use Rattle.theorems_soundness.proofs.OpenedPlaces.{by_state, child_hangs, child_plus, child_not_blossom, child_parent, parent_outer_node, parent_not_blossom, outer_state, outer_sibling, still_outer, still_none}

-- its kind; its one child; its parent, of which, but for P, it is the one child; its ring is as it was
pub record Limb (t u : Table) (top : ℕ) (attached : List ℕ) (x : ℕ) : Type 0 where
  pub kind : Kind u x
  pub has_child : (at u x).first_child ≢ none
  pub child : OuterChild u x (at u x).first_child
  pub only_child : next u (at u x).first_child ≡ none
  pub place : (x ≡ top) ⊎ ((up u x ∈ attached) × ((at u (up u x)).first_child ≡ x) × (next u x ≡ none))
  pub ring : (at u x).ring ≡ (at t x).ring
  pub right : RightLink t x (at u x).link (up u x)

-- what stands above an attached node
record Above (u : Table) (top : ℕ) (attached : List ℕ) (grow : Bool) (parent sibling x : ℕ) : Type 0 where
  state : (at u parent).state ≡ state_by (not grow)
  place : (x ≡ top) ⊎ ((parent ∈ attached) × ((at u parent).first_child ≡ x) × (sibling ≡ none))
  siblingless : grow ≡ true → sibling ≡ none

-- .. and below the last one
record Under (u : Table) (bottom below : ℕ) : Type 0 where
  child : OuterChild u bottom below
  siblingless : next u below ≡ none

pub not_not : (grow : Bool) → not (not grow) ≡ grow
not_not true = refl
not_not false = refl

limb_kind : (t u : Table) (x : ℕ) (grow : Bool) (parent child sibling : ℕ) → Attached t u x grow parent child sibling → (at u parent).state ≡ state_by (not grow) → (grow ≡ true → sibling ≡ none) → child ≢ none → next u child ≡ none → Kind u x
limb_kind t u x true parent child sibling a s n d o =
    plus_node (rw a.here (record { grows = refl; linked = a.right.linked; siblingless = n refl; parent_shrinks = s }))
limb_kind t u x false parent child sibling a s n d o =
    minus_node (rw a.here (record { shrinks = refl; linked = a.right.linked; parent_grows = s; has_child = d; only_child = o }))

module _ (t u : Table) (full : Full u) (top bottom below : ℕ) (attached : List ℕ) (under : Under u bottom below) where
  -- the child of the first of a stretch
  first-child-of :
      (grow : Bool) (x : ℕ) (xs : List ℕ)
      → AttachedDown t u grow x none below xs
      → end_of (x ∷ xs) ≡ bottom
      → OuterChild u x (head_or below xs) × (next u (head_or below xs) ≡ none)
  first-child-of grow x [] a e = (rw e under.child, under.siblingless)
  first-child-of grow x (y ∷ xs) a e = ((rw a.0.here (by_state grow), rw (up, a.0.here)), rw (next, a.0.here))

  first-limb :
      (grow : Bool) (parent sibling x : ℕ) (xs : List ℕ)
      → AttachedDown t u grow parent sibling below (x ∷ xs)
      → end_of (x ∷ xs) ≡ bottom
      → Above u top attached grow parent sibling x
      → Limb t u top attached x
  first-limb grow parent sibling x xs a e h =
      let c = first-child-of (not grow) x xs a.1 e in
      let s : head_or below xs ≢ none = some_outer u full (head_or below xs) c.0.0 in
      let f : (at u x).first_child ≡ head_or below xs = rw a.0.here in
      let p : up u x ≡ parent = rw (up, a.0.here) in
      record {
        kind = limb_kind t u x grow parent (head_or below xs) sibling a.0 h.state h.siblingless s c.1;
        has_child = rw f s;
        child = rw f c.0;
        only_child = rw f c.1;
        place = elim h.place [ inl q ↦ inl q | inr q ↦ inr (rw p q.0, rw p q.1, rw (next, a.0.here) q.2) ];
        ring = rw a.0.here;
        right = rw (a.0.here, up) a.0.right;
      }

  stretch-limbs :
      (grow : Bool) (parent sibling x : ℕ) (xs : List ℕ)
      → AttachedDown t u grow parent sibling below (x ∷ xs)
      → end_of (x ∷ xs) ≡ bottom
      → ((z : ℕ) → z ∈ (x ∷ xs) → z ∈ attached)
      → Above u top attached grow parent sibling x
      → (z : ℕ)
      → z ∈ (x ∷ xs)
      → Limb t u top attached z
  stretch-limbs grow parent sibling x [] a e among h z (inl q) = rw q (first-limb grow parent sibling x [] a e h)
  stretch-limbs grow parent sibling x [] a e among h z (inr m) = absurd m
  stretch-limbs grow parent sibling x (y ∷ xs) a e among h z (inl q) = rw q (first-limb grow parent sibling x (y ∷ xs) a e h)
  stretch-limbs grow parent sibling x (y ∷ xs) a e among h z (inr m) =
      stretch-limbs (not grow) x none y xs a.1 e (λ j i. among j (inr i))
      (record { state = rw (a.0.here, not_not grow); place = inr (among x (inl refl), rw a.0.here, refl); siblingless = λ _. refl }) z m

-- where the ways up from the parent end, so do those of the stretch
stretch-ways :
    (t u : Table) (below : ℕ) (grow : Bool) (parent sibling : ℕ) (xs : List ℕ)
    → Full u
    → AttachedDown t u grow parent sibling below xs
    → Upward u parent
    → (z : ℕ)
    → z ∈ xs
    → Upward u z
stretch-ways t u below grow parent sibling [] full a w z m = absurd m
stretch-ways t u below grow parent sibling (x ∷ xs) full a w z m = go m (stretch-ways t u below (not grow) x none xs full a.1 way z)
  where
    way : Upward u x
    way = next-upward u x parent (some_outer u full x (rw a.0.here (by_state grow))) (rw (up, a.0.here)) w

    go : (z ≡ x) ⊎ (z ∈ xs) → (z ∈ xs → Upward u z) → Upward u z
    go (inl e) ih = rw e way
    go (inr i) ih = ih i

-- a stretch of an odd number ends as it begins; its last node has below as child
stretch-last :
    (t u : Table) (below : ℕ) (grow : Bool) (parent sibling x : ℕ) (xs : List ℕ) (half : ℕ)
    → AttachedDown t u grow parent sibling below (x ∷ xs)
    → length (x ∷ xs) ≡ suc (half + half)
    → ((at u (end_of (x ∷ xs))).state ≡ state_by grow) × ((at u (end_of (x ∷ xs))).first_child ≡ below)
stretch-last t u below grow parent sibling x [] half a e = (rw a.0.here, rw a.0.here)
stretch-last t u below grow parent sibling x (y ∷ []) zero a e = absurd (omega arith)
stretch-last t u below grow parent sibling x (y ∷ []) (suc half) a e = absurd (omega arith)
stretch-last t u below grow parent sibling x (y ∷ (z ∷ xs)) zero a e = absurd (omega arith)
stretch-last t u below grow parent sibling x (y ∷ (z ∷ xs)) (suc half) a e =
    let r = stretch-last t u below (not (not grow)) y none z xs half a.1.1 (omega arith) in
    (r.0 ∙ ap state_by (not_not grow), r.1)

module _ {t u : Table} {b : ℕ} (d : Opened t u b) where
  pub bottom_state : (at u d.bottom).state ≡ S.Shrink
  bottom_state = rw (← d.ends) (stretch-last t u (at t b).first_child false (up t b) (next t b) d.top d.lower d.half d.attached d.odd).0

  pub bottom_child : (at u d.bottom).first_child ≡ (at t b).first_child
  bottom_child = rw (← d.ends) (stretch-last t u (at t b).first_child false (up t b) (next t b) d.top d.lower d.half d.attached d.odd).1

  pub top_parent : up u d.top ≡ up t b
  top_parent = rw (up, d.attached.0.here)

  pub top_sibling : next u d.top ≡ next t b
  top_sibling = rw (next, d.attached.0.here)

  pub limbs : (x : ℕ) → x ∈ (d.top ∷ d.lower) → Limb t u d.top (d.top ∷ d.lower) x
  limbs =
      stretch-limbs t u d.full d.top d.bottom (at t b).first_child (d.top ∷ d.lower)
      (record { child = (still_outer d (at t b).first_child (child_hangs d).0 (child_not_blossom d), child_parent d); siblingless = outer_sibling d (at t b).first_child (child_hangs d).0 (child_not_blossom d) ∙ still_none d (next t (at t b).first_child) (child_plus d).siblingless })
      false (up t b) (next t b) d.top d.lower d.attached d.ends (λ z m. m)
      (record { state = outer_state d (up t b) (parent_outer_node d) (parent_not_blossom d) ∙ d.minus.parent_grows; place = inl refl; siblingless = λ e. absurd (wrong e) })
    where
      wrong : false ≡ true → ⊥
      wrong e = let z : ◌≡◌ {A = ℕ} 0 1 = cc in omega arith

  pub attached_outer : (x : ℕ) → x ∈ (d.top ∷ d.lower) → T (outer u x)
  attached_outer x m = kind_outer (limbs x m).kind

  pub attached_ways : Upward u (up t b) → (x : ℕ) → x ∈ (d.top ∷ d.lower) → Upward u x
  attached_ways w = stretch-ways t u (at t b).first_child false (up t b) (next t b) (d.top ∷ d.lower) d.full d.attached w
