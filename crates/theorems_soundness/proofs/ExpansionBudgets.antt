-- "On a sound table none is used up": with any budget of 256 and more expansion does and says the same.
use mathlib.Core.Path.{◌≡◌, refl, ap, ap₂, sym, ◌∙◌}
use mathlib.Core.Logic.{◌≢◌, ◌⊎◌, inl, inr}
use mathlib.Core.Bool.{false}
use mathlib.Core.List.{List, [], ◌∷◌, ◌++◌}
use Prim.Native.Nat.{ℕ, zero, suc, ◌+◌, ◌%◌, ◌≤◌}
use native.Mathlib.Omega.{arith}
use lib.Dec.{T}
use lib.ListN.{length}
use Rattle.std.specs.Prelude.{Ok}
use Rattle.lists.specs.Choice.{pick}
use Rattle.slot.specs.declared.state.State.TheVariants as S
use Rattle.slot.specs.Slot.{Link, empty_slot}
use Rattle.table.specs.Table.{Table, at, put}
use Rattle.table.specs.Nodes.{present, outer, inner}
use Rattle.table.specs.Climb.{second_outer_within, second_outer_blossom}
use Rattle.record.specs.declared.request.Expansion.{Expansion}
use Rattle.record.specs.declared.request.Request.TheVariants as Q
use Rattle.rules.specs.Act.{Act, say, change, ◌then◌, look, read, choose, alter, expand}
use Rattle.rules.specs.Slots.{with_parent, with_sibling, up, next}
use Rattle.rules.specs.Blossom.{relisted, replace_child}
use Rattle.rules.specs.Expansion.{steps_to, match_chain, attach_down, attach_up, ring_opened, disposed, expand_blossom, expansion}
use Rattle.rules.specs.Calls.{verdict}
use Rattle.theorems_soundness.proofs.Reflect.{eqb_yes, eqb_no, pick_no, same_or_not}
use Rattle.theorems_soundness.proofs.ReflectSlots.{outer_not_inner, inner-present}
use Rattle.theorems_soundness.proofs.Past.{present_below}
use Rattle.theorems_soundness.proofs.KindLaws.{present_case}
use Rattle.theorems_soundness.proofs.InsideLaws.{inside-present}
use Rattle.theorems_soundness.specs.RuleFacts.{Whole}
use Rattle.theorems_soundness.specs.WithBudgets.{ring_opened_within, relisted_within, replace_child_within, disposed_within, expand_blossom_within, expansion_within}
use Rattle.theorems_soundness.proofs.RingLoops.{then_same, two_by_two, hung_down, hung_up}
use Rattle.theorems_soundness.proofs.RingCut.{CutRing}
use Rattle.theorems_soundness.proofs.RingTaken.{RingTaken}
use Rattle.theorems_soundness.proofs.RingOpening.{then_both, steps_counted, even_matched, even-hung, odd_matched, odd-hung, opened_even, opened_odd, parity, ring_opened_taken}
use Rattle.theorems_soundness.proofs.PlaceInList.{relinked_enough}
use Rattle.theorems_soundness.proofs.Expanding.{is_minus_lem, top_held, bottom_held, blossom_cut, top_right}
use Rattle.theorems_soundness.proofs.AcceptedRequests.{acceptable_expansion}

-- the rule has 256 for each
pub within_256 : (b : ℕ) → expansion_within 256 b ≡ expansion b
unfolding expansion_within expand_blossom_within ring_opened_within disposed_within replace_child_within relisted_within expansion expand_blossom ring_opened disposed replace_child relisted
within_256 b = refl

-- ---- the climb to P and C

module _ (t : Table) (w : Whole t) where
  second_same : (j k below n : ℕ) → 256 ≤ j + n → 256 ≤ k + n → T (present t n) → second_outer_within j t below n ≡ second_outer_within k t below n
  unfolding second_outer_within
  second_same zero k below n p q h = absurd (omega (arith, present_below t w.full n h))
  second_same (suc j) zero below n p q h = absurd (omega (arith, present_below t w.full n h))
  second_same (suc j) (suc k) below n p q h = go (present_case t w.rest n h) (second_same j k n (up t n))
    where
      go :
          T (outer t n) ⊎ T (inner t n)
          → (256 ≤ j + up t n → 256 ≤ k + up t n → T (present t (up t n)) → second_outer_within j t n (up t n) ≡ second_outer_within k t n (up t n))
          → pick (inner t n) (second_outer_within j t n (up t n)) below ≡ pick (inner t n) (second_outer_within k t n (up t n)) below
      go (inl o) ih =
          let d = outer_not_inner (at t n).state o in
          pick_no (inner t n) (second_outer_within j t n (up t n)) below d ∙ sym (pick_no (inner t n) (second_outer_within k t n (up t n)) below d)
      go (inr i) ih =
          let f = w.rest.inners n i in
          ap (λ (x : ℕ). pick (inner t n) x below) (ih (omega (arith, f.larger)) (omega (arith, f.larger)) f.parent.there)

  pub second_outer_enough : (k n : ℕ) → 256 ≤ k → T (present t n) → second_outer_within k t n n ≡ second_outer_blossom t n
  second_outer_enough k n l h = second_same k 256 n n (omega arith) (omega arith) h

-- ---- the ring

module _ (t : Table) (w : Whole t) (b p c : ℕ) (r : CutRing t b p c) (above below : ℕ) (l : Link) (k : ℕ) (enough : 256 ≤ k) where
  within_even : (h : ℕ) → length r.before ≡ h + h → ring_opened_within k p c above below l t ≡ (two_by_two r.after then hung_down below false above l (r.before ++ (c ∷ []))) t
  unfolding ring_opened_within read choose
  within_even h e =
      let z : steps_to k c p t % 2 ≡ 0 = rw (steps_counted t w b p c r k enough) (omega arith) in
      rw (eqb_yes (steps_to k c p t % 2) 0 z)
      (then_both (match_chain k p (next t c)) (two_by_two r.after) (attach_down k c below false above l p) (hung_down below false above l (r.before ++ (c ∷ []))) t (even_matched t w b p c r k enough h e) (even-hung t w b p c r k enough h e above below l))

  within_odd : (ms : List ℕ) → r.before ≡ p ∷ ms → (h : ℕ) → length ms ≡ h + h → ring_opened_within k p c above below l t ≡ (two_by_two ms then hung_up above l false below (c ∷ (r.after ++ (p ∷ [])))) t
  unfolding ring_opened_within read choose
  within_odd ms is h e =
      let n : length r.before ≡ suc (h + h) = ap length is ∙ omega arith in
      let z : steps_to k c p t % 2 ≡ 1 = rw (steps_counted t w b p c r k enough) (omega arith) in
      rw (eqb_no (steps_to k c p t % 2) 0 (omega arith))
      (then_both (match_chain k c (next t p)) (two_by_two ms) (attach_up k p above l false below c) (hung_up above l false below (c ∷ (r.after ++ (p ∷ [])))) t (odd_matched t w b p c r k enough ms is h e) (odd-hung t w b p c r k enough ms is h e above below l))

  pub ring_enough : ring_opened_within k p c above below l t ≡ ring_opened p c above below l t
  ring_enough =
      elim (parity t w b p c r above below l) [
        | inl q ↦ within_even q.0 q.1 ∙ sym (opened_even t w b p c r above below l q.0 q.1)
        | inr q ↦ within_odd q.0 q.2 q.1 q.3 ∙ sym (opened_odd t w b p c r above below l q.0 q.2 q.1 q.3)
      ]

-- ---- the whole

change-same : (f g : Table → Table) (v : Table) → f v ≡ g v → change f v ≡ change g v
unfolding change
change-same f g v e = ap (λ (u : Table). record { table = u; said = [] }) e

said_first : (b : ℕ) (f g : Act) (v : Table) → f v ≡ g v → (say (expand b) then f) v ≡ (say (expand b) then g) v
unfolding say
said_first b f g v e = then_same (say (expand b)) f g v e

module _ (t : Table) (w : Whole t) (b : ℕ) (blossom : t.begin ≤ b) (shrinks : (at t b).state ≡ S.Shrink) (k : ℕ) (enough : 256 ≤ k) where
  abbrev above : ℕ
  above = up t b

  abbrev below : ℕ
  below = (at t b).first_child

  abbrev top : ℕ
  top = second_outer_blossom t (at t b).link.touch

  abbrev bottom : ℕ
  bottom = second_outer_blossom t (at t below).link.peer_touch

  cut : CutRing t b top bottom
  cut = blossom_cut t w b blossom shrinks

  abbrev taken : Table
  taken = (ring_opened top bottom above below (at t b).link t).table

  apart : RingTaken t taken b top bottom above below
  apart = ring_opened_taken t w b top bottom cut above below (at t b).link (top_right t w b blossom shrinks)

  relisted_enough : relisted_within k above b top taken ≡ relisted above b top taken
  unfolding relisted_within relisted choose
  relisted_enough = go (same_or_not (at taken above).first_child b)
    where
      agree : (j : ℕ) → T (outer t j) → at taken j ≡ at t j
      agree j o = apart.elsewhere j (λ i. outer_not_inner (at t j).state o i.0)

      go : ((at taken above).first_child ≡ b) ⊎ ((at taken above).first_child ≢ b) → relisted_within k above b top taken ≡ relisted above b top taken
      go (inl e) = rw (eqb_yes (at taken above).first_child b e)
      go (inr d) = rw (eqb_no (at taken above).first_child b d) (relinked_enough t taken w apart.full b top (is_minus_lem t w b blossom shrinks) agree d k enough)

  disposed_enough : disposed_within k b top bottom above below taken ≡ disposed b top bottom above below taken
  unfolding disposed_within disposed replace_child_within replace_child
  disposed_enough = ap (λ (u : Table). put (alter below (with_parent bottom) (alter top (with_sibling (next u b)) u)) b empty_slot) relisted_enough

  opened_enough : expand_blossom_within k b (at t b) top bottom t ≡ expand_blossom b (at t b) top bottom t
  unfolding expand_blossom_within expand_blossom
  opened_enough =
      said_first b (ring_opened_within k top bottom above below (at t b).link then change (disposed_within k b top bottom above below)) (ring_opened top bottom above below (at t b).link then change (disposed b top bottom above below)) t
      (then_both (ring_opened_within k top bottom above below (at t b).link) (ring_opened top bottom above below (at t b).link) (change (disposed_within k b top bottom above below)) (change (disposed b top bottom above below)) t
      (ring_enough t w b top bottom cut above below (at t b).link k enough)
      (change-same (disposed_within k b top bottom above below) (disposed b top bottom above below) taken disposed_enough))

  touch_there : T (present t (at t b).link.touch)
  touch_there = inside-present t w.full w.rest top (at t b).link.touch (inner-present (at t top).state (top_held t w b blossom shrinks).0.0) (top_held t w b blossom shrinks).1.inside

  peer_touch_there : T (present t (at t below).link.peer_touch)
  peer_touch_there = inside-present t w.full w.rest bottom (at t below).link.peer_touch (inner-present (at t bottom).state (bottom_held t w b blossom shrinks).0.0) (bottom_held t w b blossom shrinks).1.inside

  pub expansion_enough : expansion_within k b t ≡ expansion b t
  unfolding expansion_within expansion look read
  expansion_enough =
      ap₂ (λ (x y : ℕ). expand_blossom_within k b (at t b) x y t) (second_outer_enough t w k (at t b).link.touch enough touch_there) (second_outer_enough t w k (at t below).link.peer_touch enough peer_touch_there)
      ∙ opened_enough

pub expansion-budget :
    (t : Table) (room : ℕ) (e : Expansion)
    → Whole t
    → verdict (Q.Expansion e) t room ≡ Ok tt
    → (k : ℕ)
    → 256 ≤ k
    → expansion_within k e.node.0 t ≡ expansion e.node.0 t
expansion-budget t room e w a k enough = let r = acceptable_expansion t room e a in expansion_enough t w e.node.0 r.blossom r.shrinks k enough
