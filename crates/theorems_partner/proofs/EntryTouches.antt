-- Where nodes are paired. All nodes around a touch share one link; beside them in a ring each node is paired at a defect of its own.
use mathlib.Core.Path.{◌≡◌, refl, ap, ◌∙◌}
use mathlib.Core.Logic.{◌≢◌, inl, inr}
use Prim.Native.Nat.{ℕ, zero, suc, ◌≤◌}
use native.Mathlib.Omega.{arith}
use lib.Dec.{T}
use lib.ListN.{length}
use Rattle.slot.specs.Number.{none}
use Rattle.slot.specs.Slot.{mirror}
use Rattle.table.specs.Table.{Table, at, Full}
use Rattle.table.specs.Nodes.{inner}
use Rattle.rules.specs.Slots.{up, next}
use Rattle.rules.specs.Partner.{link_in_twos, entry}
use Rattle.theorems_soundness.specs.Chain.{Steps}
use Rattle.theorems_soundness.specs.FactsOfBlossoms.{InnerChild, Inside, DefectInside}
use Rattle.theorems_soundness.specs.Facts.{Rest}
use Rattle.theorems_soundness.proofs.Past.{inner_below}
use Rattle.theorems_soundness.proofs.Chains.{chain_fits}
use Rattle.theorems_soundness.proofs.RingLaws.{ring_around}
use Rattle.theorems_soundness.proofs.InsideLaws.{inside_ring_node, inside-join}
use Rattle.theorems_requests.proofs.RestOfRing.{after_in_ring}
use Rattle.theorems_requests.proofs.NestedCalls.{after_of, ring_joined}
use Rattle.theorems_partner.proofs.EntryLaws.{touched_entry, beside_entry}
use Rattle.theorems_partner.proofs.RingTwos.{Two, InTwo, in_two, two_first, two_second, two_next, coupled}

module _ (t : Table) (full : Full t) (rest : Rest t) where
  pub not_none : (x d : ℕ) → DefectInside t x d → d ≢ none
  not_none x d h e = omega (arith, h.defect, rest.sizes.begin_fits)

  -- one level up
  pub around : (z d : ℕ) → T (inner t z) → DefectInside t z d → DefectInside t (up t z) d
  around z d i h = record { defect = h.defect; inside = inside-join t (up t z) z d h.inside (inside_ring_node t (up t z) z (i, refl)) }

  -- ---- around a touch

  shared : (j x z : ℕ) → Steps (inner t) (up t) j z x → DefectInside t z (entry t x).touch → entry t z ≡ entry t x
  shared zero x z p h = ap (entry t) p
  shared (suc j) x z p h =
      let above = shared j x (up t z) p.1 (around z (entry t x).touch p.0 h) in
      let here : DefectInside t z (entry t (up t z)).touch = rw above h in
      touched_entry t full rest z z p.0 (p.0, refl) (not_none z (entry t (up t z)).touch here) here.inside refl ∙ above

  -- a node inside x that holds x's touch is paired as x is
  pub one_link : (x z : ℕ) → Inside t x z → DefectInside t z (entry t x).touch → entry t z ≡ entry t x
  one_link x z i = shared i.steps x z i.climb

  -- ---- beside it: in the ring of a blossom that is paired at the ring node y

  module _ (y : ℕ) (i : T (inner t y)) where
    pub rest_short : length (after_of t full rest y i) ≤ 256
    rest_short =
        let r = ring_around t full rest y i in
        let few = chain_fits _ 256 _ r.list r.chain (λ n m. inner_below t full n ((r.exact n).0 m).0) in
        omega (arith, few, (after_in_ring t full rest y i).fewer)

    module _ (h : DefectInside t y (entry t (up t y)).touch) where
      pub beside : (x : ℕ) → InnerChild t (up t y) x → x ≢ y → entry t x ≡ link_in_twos 128 t (next t y) x
      beside x c d =
          let same = c.1 in
          beside_entry t full rest x y c.0 (rw same (i, refl)) (rw same (not_none y (entry t (up t y)).touch h)) (rw same h.inside) d

      pub couple : (a c : ℕ) → Two a c (after_of t full rest y i) → (entry t a ≡ (at t a).link) × (entry t c ≡ mirror (at t a).link)
      couple a c two =
          let r = after_in_ring t full rest y i in
          let by = coupled t 128 (next t y) y r.list r.way r.once (omega (arith, rest_short)) a c two in
          let first = two_first two in
          let second = two_second two in
          (beside a (r.members a first) (r.others a first) ∙ by.0, beside c (r.members c second) (r.others c second) ∙ by.1)

      -- each at a defect inside it
      pub beside_touch : (x : ℕ) → InnerChild t (up t y) x → x ≢ y → DefectInside t x (entry t x).touch
      beside_touch x c d =
          let r = after_in_ring t full rest y i in
          held (in_two r.list r.even x (r.all x c d))
        where
          held : InTwo x (after_of t full rest y i) → DefectInside t x (entry t x).touch
          held w =
              let r = after_in_ring t full rest y i in
              let joined = ring_joined t full rest w.first (r.members w.first (two_first w.two)).0 in
              let links = couple w.first w.second w.two in
              let after = two_next (next t) r.list (next t y) y r.way w.two in
              elim w.which [
                | inl e ↦ rw (e, links.0) joined.touch
                | inr e ↦ rw (e, links.1) (rw after at joined.peer_touch)
              ]
