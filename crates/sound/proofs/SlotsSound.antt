-- The tests of single slots, with what the walks find, are the rules.
use mathlib.Core.Path.{◌≡◌, refl}
use mathlib.Core.Logic.{◌≢◌}
use mathlib.Core.Bool.{Bool}
use Prim.Native.Nat.{ℕ, ◌<◌}
use lib.Dec.{T}
use Rattle.slot.specs.declared.state.State.{State}
use Rattle.slot.specs.declared.state.State.TheVariants as S
use Rattle.slot.specs.Number.{none}
use Rattle.slot.specs.Slot.{empty_slot}
use Rattle.table.specs.Table.{Table, at, Full}
use Rattle.table.specs.Nodes.{present, outer, inner}
use Rattle.rules.specs.Slots.{up, next}
use Rattle.rules.specs.Walk.{ends}
use Rattle.rules.specs.declared.fault.Rule.{Rule}
use Rattle.rules.specs.declared.fault.Rule.TheVariants.{S1, S2, S3, S4, S5, S6, S7, S8}
use Rattle.rules.specs.Sound.{holds, is_defect_inside, s5, s6, sound}
use Rattle.theorems_soundness.specs.Facts.{Sizes, Given, Names, Pointers, Core}
use Rattle.theorems_soundness.specs.FactsOfNodes.{Kind, free_node, virtual_node, paired_node, root_node, minus_node, plus_node, OuterChild}
use Rattle.theorems_soundness.specs.FactsOfBlossoms.{PresentBlossom, Ring, InBlossom}
use Rattle.theorems_soundness.proofs.ReflectSlots.{outer-present, inner-present}
use Rattle.theorems_soundness.proofs.Chains.{chain_start}
use Rattle.theorems_soundness.proofs.OuterKinds.{kind→s3, kind→s4}
use Rattle.theorems_soundness.proofs.OuterLists.{s5→children, s7→upward}
use Rattle.theorems_soundness.proofs.Insides.{facts→s6, facts→s7}
use Rattle.theorems_soundness.proofs.SizesAndPointers.{→s1, pointers↔}
use Rattle.theorems_soundness.proofs.SoundParts.{rule→sound}
use Rattle.theorems_soundness.proofs.ChildLaws.{next_child}
use Rattle.theorems_soundness.proofs.RingLaws.{ring_first, ring_next}
use Rattle.sound.specs.OneSlot.{slot_holds}
use Rattle.sound.proofs.SlotKinds.{kind, undamaged, ring_owner, in_blossom, touches}

module _ (t : Table) (full : Full t) (sizes : Sizes t) (held : ℕ → ℕ → Bool) (numbered : ℕ → Bool)
    (defect : (x n : ℕ) → T (held x n) → n < t.begin)
    (judged : (n : ℕ) → T (present t n) → T (slot_holds t held numbered n))
    (empty : (n : ℕ) → (at t n).state ≡ S.Empty → at t n ≡ empty_slot)
    (given : (n : ℕ) → T (present t n) → Given t n)
    (owner : (n : ℕ) → T (inner t n) → PresentBlossom t (up t n))
    (lists : (n : ℕ) → T (s5 t n))
    (rings : (n : ℕ) → PresentBlossom t n → Ring t n)
    (ways : (n : ℕ) → T (outer t n) → T (ends 257 (up t) n))
  where
    first : (n : ℕ) → T (outer t n) → (at t n).first_child ≢ none → OuterChild t n (at t n).first_child
    first n o d = let k = s5→children t full n (lists n) o in (k.exact (at t n).first_child).0 (chain_start (next t) (at t n).first_child k.list k.chain d)

    kinds : (n : ℕ) → T (outer t n) → Kind t n
    kinds = kind t full sizes held numbered defect judged empty first

    pub inners : (n : ℕ) → T (inner t n) → InBlossom t n
    inners n i = in_blossom t full sizes held numbered defect judged empty n i (owner n i)

    sixth : (n : ℕ) → T (s6 t n)
    sixth n = facts→s6 t full n (rings n) (inners n)

    core : Core t
    core =
        record {
          kind = kinds;
          children = λ n. s5→children t full n (lists n);
          upward = λ n o. s7→upward t full n (facts→s7 t full n (ways n) (inners n)) o;
        }

    -- ---- S2

    outer_here : (n : ℕ) → T (outer t n) → T (present t n)
    outer_here n o = outer-present (at t n).state o

    inner_here : (n : ℕ) → T (inner t n) → T (present t n)
    inner_here n i = inner-present (at t n).state i

    -- a blossom's first blossom child
    ring_named : (n : ℕ) → Names t (at t n).ring
    ring_named n d =
        let b = ring_owner t full sizes held numbered defect judged empty n d in
        let r = rings n b in
        inner_here (at t n).ring ((r.exact (at t n).ring).0 (ring_first t n r)).0

    child_named : (n : ℕ) → T (outer t n) → Names t (at t n).first_child
    child_named n o d = outer_here (at t n).first_child (first n o d).0

    nobody : Names t none
    nobody d = absurd (d refl)

    abbrev OfKind : ℕ → Type 0
    OfKind n = Names t (up t n) × Names t (next t n)

    outer-named : (n : ℕ) → T (outer t n) → Kind t n → OfKind n
    outer-named n o (free_node f) = (rw f.parentless nobody, rw f.siblingless nobody)
    outer-named n o (virtual_node v) = (rw v.parentless nobody, rw v.siblingless nobody)
    outer-named n o (paired_node p) = (rw p.here.parentless nobody, λ _. rw p.there.stays tt)
    outer-named n o (root_node r) = (rw r.parentless nobody, rw r.siblingless nobody)
    outer-named n o (minus_node m) =
        let above : T (outer t (up t n)) = rw m.parent_grows tt in
        (λ _. outer_here (up t n) above, λ d. outer_here (next t n) (next_child t full core (up t n) above n (o, refl) d).0)
    outer-named n o (plus_node p) = (λ _. rw p.parent_shrinks tt, rw p.siblingless nobody)

    inner-named : (n : ℕ) → T (inner t n) → Pointers t (at t n)
    inner-named n i =
        let b = inners n i in
        let r = rings (up t n) b.parent in
        record {
          parent = λ _. b.parent.there;
          child = rw b.childless nobody;
          sibling = λ _. inner_here (next t n) ((r.exact (next t n)).0 (ring_next t (up t n) r n ((r.exact n).1 (i, refl)))).0;
          ring = ring_named n;
        }

    outer_pointers : (n : ℕ) → T (outer t n) → Pointers t (at t n)
    outer_pointers n o = let k = outer-named n o (kinds n o) in record { parent = k.0; child = child_named n o; sibling = k.1; ring = ring_named n }

    empty_pointers : (n : ℕ) → at t n ≡ empty_slot → Pointers t (at t n)
    empty_pointers n e = rw e (record { parent = nobody; child = nobody; sibling = nobody; ring = nobody })

    pointers : (n : ℕ) → Pointers t (at t n)
    pointers n = go (at t n).state refl
      where
        go : (x : State) → (at t n).state ≡ x → Pointers t (at t n)
        go S.Empty e = empty_pointers n (empty n e)
        go S.Inner e = inner-named n (rw e tt)
        go S.Stay e = outer_pointers n (rw e tt)
        go S.Grow e = outer_pointers n (rw e tt)
        go S.Shrink e = outer_pointers n (rw e tt)
        go S.Damaged e = absurd (undamaged t full sizes held numbered defect judged empty n e)

    -- ---- all rules, where the test of touches says what is inside, as rings and inner nodes tell

    module _ (inward : (x n : ℕ) → T (held x n) → T (is_defect_inside t x n)) where
      rule : (r : Rule) (n : ℕ) → T (holds r t n)
      rule S1 n = →s1 t n (record { sizes = λ _. sizes; undamaged = undamaged t full sizes held numbered defect judged empty n; given = given n; bare = empty n; ring_owner = ring_owner t full sizes held numbered defect judged empty n })
      rule S2 n = (pointers↔ t n).1 (pointers n)
      rule S3 n = kind→s3 t n full (kinds n)
      rule S4 n = kind→s4 t n (kinds n)
      rule S5 n = lists n
      rule S6 n = sixth n
      rule S7 n = facts→s7 t full n (ways n) (inners n)
      rule S8 n = touches t full sizes held numbered defect judged empty inward n

      pub all_sound : T (sound t)
      all_sound = rule→sound t (λ r n _. rule r n)
