-- Where a slot stands once a blossom is made: the new one, the one that names it as its child, in the ring, among the moved
-- children, or elsewhere; and what holds in most of these places.
use mathlib.Core.Path.{◌≡◌, refl, ap, sym, ◌∙◌}
use mathlib.Core.Logic.{◌≢◌, ◌⊎◌, inl, inr}
use mathlib.Core.List.{List}
use Prim.Native.Nat.{ℕ, ◌+◌, ◌<◌}
use native.Mathlib.Omega.{arith}
use lib.Dec.{T}
use Rattle.slot.specs.declared.state.State.TheVariants as S
use Rattle.slot.specs.Number.{none}
use Rattle.slot.specs.Slot.{Slot}
use Rattle.table.specs.Table.{Table, at, Full}
use Rattle.table.specs.Nodes.{present, outer}
use Rattle.rules.specs.Slots.{with_first_child, up, next}
use Rattle.theorems_soundness.specs.Chain.{◌∈◌}
use Rattle.theorems_soundness.specs.FactsOfNodes.{Minus, Kind, free_node, virtual_node, paired_node, root_node, minus_node, plus_node, OuterChild}
use Rattle.theorems_soundness.specs.Facts.{Given, Core, Rest}
use Rattle.theorems_soundness.proofs.Reflect.{same_or_not}
use Rattle.theorems_soundness.proofs.ReflectSlots.{grow_shrink, stay_grow, outer-present}
use Rattle.theorems_soundness.proofs.Chains.{chain_start, chain_next}
use Rattle.theorems_soundness.proofs.Past.{at_none}
use Rattle.theorems_soundness.proofs.ChildLaws.{above_outer, first_child_lem, child_of_grow, shrink_is_minus, minus_only}
use Rattle.theorems_soundness.specs.RuleFacts.{Whole}
use Rattle.theorems_soundness.proofs.Frames.{in_or_not, some_outer}
use Rattle.theorems_soundness.proofs.TwoPaths.{above_grow}
use Rattle.theorems_soundness.proofs.MadeBlossom.{InTree, Made}

-- the next slot's number is larger than all that are present
pub below_next : (t : Table) → Rest t → (j : ℕ) → T (present t j) → j < t.begin + t.blossoms
below_next t rest j p = go (rest.given j p)
  where
    go : Given t j → j < t.begin + t.blossoms
    go (inl l) = omega (arith, l, rest.sizes.defects_fit)
    go (inr g) = g.1

-- a Grow node has no sibling
grow_lacks : (t : Table) (n : ℕ) → (at t n).state ≡ S.Grow → Kind t n → next t n ≡ none
grow_lacks t n g (free_node f) = f.siblingless
grow_lacks t n g (virtual_node v) = absurd (stay_grow v.stays g)
grow_lacks t n g (paired_node p) = absurd (stay_grow p.here.stays g)
grow_lacks t n g (root_node r) = r.siblingless
grow_lacks t n g (minus_node m) = absurd (grow_shrink g m.shrinks)
grow_lacks t n g (plus_node p) = p.siblingless

pub grow_siblingless : (t : Table) → Core t → (n : ℕ) → (at t n).state ≡ S.Grow → next t n ≡ none
grow_siblingless t core n g = grow_lacks t n g (core.kind n (rw g tt))

-- the parent of the meeting node's parent is not in the ring
pub twice_above : (t : Table) → Full t → (m : ℕ) (ring : List ℕ) → InTree t m ring → up t m ≢ none → ¬ (up t (up t m) ∈ ring)
twice_above t full m ring before has i =
    before.off (up t (up t m))
    (chain_next (up t) (up t m) before.above before.way (up t m) (chain_start (up t) (up t m) before.above before.way has) (some_outer t full (up t (up t m)) (before.outers (up t (up t m)) i))) i

module _ {t u : Table} {b m : ℕ} {ring moved : List ℕ} (w : Whole t) (d : Made t u b m ring moved) where
  -- ---- before

  pub present_less : (j : ℕ) → T (present t j) → j < b
  present_less j p = omega (arith, below_next t w.rest j p, d.slot)

  pub outer_less : (j : ℕ) → T (outer t j) → j < b
  outer_less j o = present_less j (outer-present (at t j).state o)

  pub not_new : (j : ℕ) → T (outer t j) → j ≢ b
  not_new j o e = omega (arith, outer_less j o)

  pub some_new : b ≢ none
  some_new = omega (arith, d.left)

  -- nobody points to it
  pub no_parent_new : (j : ℕ) → up t j ≢ b
  no_parent_new j e = omega (arith, present_less (up t j) ((w.rest.pointers j).parent (λ z. some_new (sym e ∙ z))), e)

  pub meeting-outer : T (outer t m)
  meeting-outer = d.before.outers m d.before.meets

  pub ring_some : (j : ℕ) → j ∈ ring → j ≢ none
  ring_some j i = some_outer t w.full j (d.before.outers j i)

  pub moved-outer : (j : ℕ) → j ∈ moved → T (outer t j)
  moved-outer j i = ((d.exact j).0 i).0

  -- the meeting node's parent
  module _ (has : up t m ≢ none) where
    pub above_is_outer : T (outer t (up t m))
    above_is_outer = above_outer t w.full w.core m meeting-outer has

    pub above_minus : Minus t (at t (up t m))
    above_minus = shrink_is_minus t w.full w.core (up t m) (above_grow t w.full w.core m d.before.grows has)

    pub above_only : (j : ℕ) → OuterChild t (up t m) j → j ≡ m
    above_only j k =
        minus_only t w.full w.core (up t m) j above_is_outer above_minus k
        ∙ sym (minus_only t w.full w.core (up t m) m above_is_outer above_minus (meeting-outer, refl))

    pub above_off_ring : ¬ (up t m ∈ ring)
    above_off_ring = d.before.off (up t m) (chain_start (up t) (up t m) d.before.above d.before.way has)

    pub above_twice : ¬ (up t (up t m) ∈ ring)
    above_twice = twice_above t w.full m ring d.before has

    pub above_not_moved : ¬ (up t m ∈ moved)
    above_not_moved i = above_twice ((d.exact (up t m)).0 i).1

  pub meeting_siblingless : next t m ≡ none
  meeting_siblingless = grow_siblingless t w.core m d.before.grows

  -- a moved child is a − node
  pub moved_minus : (j : ℕ) → j ∈ moved → Minus t (at t j)
  moved_minus j i =
      let h = (d.exact j).0 i in
      elim (d.before.signs (up t j) h.1) [
        | inl g ↦ child_of_grow t w.full w.core (up t j) j (d.before.outers (up t j) h.1) g (h.0, refl)
        | inr g ↦ absurd (h.2 (d.before.downward (up t j) j h.1 g (h.0, refl)))
      ]

  pub moved_not_above : (j : ℕ) → j ∈ moved → j ≢ up t m
  moved_not_above j i e = above_not_moved (λ z. some_outer t w.full j (moved-outer j i) (e ∙ z)) (rw e at i)

  -- ---- after

  pub data Where (j : ℕ) : Type 0 where
    is_new : j ≡ b → Where j
    is_above : j ≢ b → j ≡ up t m → T (outer t j) → ¬ (j ∈ ring) → ¬ (j ∈ moved) → at u j ≡ with_first_child b (at t j) → Where j
    in_ring : j ∈ ring → Where j
    is_moved : j ∈ moved → Where j
    elsewhere : j ≢ b → ¬ (j ∈ ring) → ¬ (j ∈ moved) → at u j ≡ at t j → Where j

  pub stands : (j : ℕ) → Where j
  stands j =
      elim (same_or_not j b) [
        | inl e ↦ is_new e
        | inr nb ↦ elim (in_or_not j ring) [
          | inl i ↦ in_ring i
          | inr nr ↦ elim (in_or_not j moved) [ inl i ↦ is_moved i | inr nm ↦ apart nb nr nm (same_or_not j (up t m)) (same_or_not (up t m) none) ]
        ]
      ]
    where
      apart : j ≢ b → ¬ (j ∈ ring) → ¬ (j ∈ moved) → (j ≡ up t m) ⊎ (j ≢ up t m) → (up t m ≡ none) ⊎ (up t m ≢ none) → Where j
      apart nb nr nm (inr f) h = elsewhere nb nr nm (d.other j nb nr nm f)
      apart nb nr nm (inl e) (inl z) = elsewhere nb nr nm (rw (e ∙ z) (at_none u d.full ∙ sym (at_none t w.full)))
      apart nb nr nm (inl e) (inr h) = is_above nb e (rw e (above_is_outer h)) nr nm (rw e (d.placed h))

  pub same_state : (j : ℕ) → j ≢ b → ¬ (j ∈ ring) → (at u j).state ≡ (at t j).state
  same_state j nb nr = go (stands j)
    where
      go : Where j → (at u j).state ≡ (at t j).state
      go (is_new e) = absurd (nb e)
      go (is_above _ _ _ _ _ e) = rw e
      go (in_ring i) = absurd (nr i)
      go (is_moved i) = rw (d.adopted j i)
      go (elsewhere _ _ _ e) = rw e

  -- parent and sibling
  pub record Alike (j : ℕ) : Type 0 where
    pub parent : up u j ≡ up t j
    pub sibling : next u j ≡ next t j

  pub alike : (j : ℕ) → j ≢ b → ¬ (j ∈ ring) → ¬ (j ∈ moved) → Alike j
  alike j nb nr nm = go (stands j)
    where
      go : Where j → Alike j
      go (is_new e) = absurd (nb e)
      go (is_above _ _ _ _ _ e) = record { parent = rw (up, e); sibling = rw (next, e) }
      go (in_ring i) = absurd (nr i)
      go (is_moved i) = absurd (nm i)
      go (elsewhere _ _ _ e) = record { parent = rw (up, e); sibling = rw (next, e) }

  -- a node off the ring that is not the meeting node's parent has no child in the ring, and none that is moved
  pub record Off (c : ℕ) : Type 0 where
    pub not_b : c ≢ b
    pub not_ring : ¬ (c ∈ ring)
    pub not_moved : ¬ (c ∈ moved)

  pub child_off : (n c : ℕ) → ¬ (n ∈ ring) → n ≢ up t m → OuterChild t n c → Off c
  child_off n c nr np k =
      record {
        not_b = not_new c k.0;
        not_ring = λ i. elim (same_or_not c m) [ inl e ↦ np (sym k.1 ∙ ap (up t) e) | inr f ↦ nr (rw k.1 at (d.before.upward c i f)) ];
        not_moved = λ i. nr (rw k.1 at ((d.exact c).0 i).1);
      }

  pub off_alike : (c : ℕ) → Off c → Alike c
  off_alike c f = alike c f.not_b f.not_ring f.not_moved

  -- .. so its first child has the sibling that it had
  pub first_sibling : (n : ℕ) → ¬ (n ∈ ring) → n ≢ up t m → T (outer t n) → next u (at t n).first_child ≡ next t (at t n).first_child
  first_sibling n nr np o =
      elim (same_or_not (at t n).first_child none) [
        | inl z ↦ rw z (ap (λ (s : Slot). s.sibling) (at_none u d.full ∙ sym (at_none t w.full)))
        | inr h ↦ (off_alike (at t n).first_child (child_off n (at t n).first_child nr np (first_child_lem t w.full w.core n o h))).sibling
      ]
