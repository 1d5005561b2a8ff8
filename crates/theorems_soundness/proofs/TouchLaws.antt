-- What follows from S8: a touch is a present defect, and climbing out from it ends at the node whose link it is, or at the
-- link's other end.
use mathlib.Core.Path.{◌≡◌, ap}
use mathlib.Core.Logic.{◌≢◌, inl, inr}
use Prim.Native.Nat.{ℕ, ◌<◌}
use lib.Dec.{T}
use Rattle.slot.specs.Number.{none}
use Rattle.slot.specs.Slot.{Slot}
use Rattle.table.specs.Table.{Table, at, Full}
use Rattle.table.specs.Nodes.{present, outer, inner}
use Rattle.table.specs.Climb.{outer_blossom}
use Rattle.rules.specs.Slots.{up, next}
use Rattle.theorems_soundness.specs.FactsOfNodes.{Paired}
use Rattle.theorems_soundness.specs.FactsOfBlossoms.{Inside, DefectInside}
use Rattle.theorems_soundness.specs.Facts.{Core, Rest}
use Rattle.theorems_soundness.proofs.Reflect.{test_case}
use Rattle.theorems_soundness.proofs.ReflectSlots.{not_present↔}
use Rattle.theorems_soundness.proofs.OuterLists.{parent_outer}
use Rattle.theorems_soundness.proofs.KindLaws.{far_end_paired, far_end_tree, far_end_inner}
use Rattle.theorems_soundness.proofs.InsideLaws.{inside-present, outer_blossom_is}

module _ (t : Table) (full : Full t) (rest : Rest t) where
  -- a slot that stores a touch is present: "an empty slot stores none throughout"
  pub linked_present : (n : ℕ) → (at t n).link.touch ≢ none → T (present t n)
  linked_present n d = elim (test_case (present t n)) [ inl p ↦ p | inr h ↦ absurd (d (ap (λ (s : Slot). s.link.touch) (rest.bare n ((not_present↔ (at t n).state).0 h)))) ]

  module _ (n : ℕ) where
    pub touch_inside : (at t n).link.touch ≢ none → Inside t n (at t n).link.touch
    touch_inside d = ((rest.touches n).touch d).inside

    pub touch_defect : (at t n).link.touch ≢ none → (at t n).link.touch < t.begin
    touch_defect d = ((rest.touches n).touch d).defect

    pub touch_present : (at t n).link.touch ≢ none → T (present t (at t n).link.touch)
    touch_present d = inside-present t full rest n (at t n).link.touch (linked_present n d) (touch_inside d)

    -- the outer node around an outer node's touch is that node
    pub touch_home : T (outer t n) → (at t n).link.touch ≢ none → outer_blossom t (at t n).link.touch ≡ n
    touch_home o d = outer_blossom_is t full rest n (at t n).link.touch o (touch_inside d)

    -- the peer touch, in a pair, in a tree and in a ring
    pub peer_touch_paired : (peer : ℕ) → Paired t n peer → DefectInside t peer (at t n).link.peer_touch
    peer_touch_paired peer p = rw (far_end_paired t n peer p) at ((rest.touches n).peer_touch p.here.linked.has_peer_touch)

    pub peer_touch_tree : T (outer t n) → up t n ≢ none → (at t n).link.peer_touch ≢ none → DefectInside t (up t n) (at t n).link.peer_touch
    peer_touch_tree o u d = rw (far_end_tree t n o u) at ((rest.touches n).peer_touch d)

    pub peer_touch_ring : T (inner t n) → DefectInside t (next t n) (at t n).link.peer_touch
    peer_touch_ring i = rw (far_end_inner t n i) at ((rest.touches n).peer_touch (rest.inners n i).linked.has_peer_touch)

    -- .. and the outer node around it
    pub peer_home : (peer : ℕ) → Paired t n peer → outer_blossom t (at t n).link.peer_touch ≡ peer
    peer_home peer p =
        let o : T (outer t peer) = rw p.there.stays tt in
        outer_blossom_is t full rest peer (at t n).link.peer_touch o (peer_touch_paired peer p).inside

    pub parent_home : Core t → T (outer t n) → up t n ≢ none → (at t n).link.peer_touch ≢ none → outer_blossom t (at t n).link.peer_touch ≡ up t n
    parent_home core o u d =
        outer_blossom_is t full rest (up t n) (at t n).link.peer_touch (parent_outer t full core.kind n o u) (peer_touch_tree o u d).inside
