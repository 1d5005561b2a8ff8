-- The budgets of the rule suffice on a sound table.
use mathlib.Core.Path.{◌≡◌, sym, ◌∙◌}
use mathlib.Core.Logic.{◌≢◌, inl, inr}
use Prim.Native.Nat.{ℕ, ◌≤◌}
use native.Mathlib.Omega.{arith}
use lib.Dec.{T}
use Rattle.table.specs.Table.{Table, Full}
use Rattle.table.specs.Nodes.{is_defect, present, is_present_defect, inner}
use Rattle.rules.specs.Slots.{up, next}
use Rattle.rules.specs.Sound.{sound}
use Rattle.rules.specs.Partner.{holder, link_in_twos, paired_within, entry}
use Rattle.theorems_soundness.specs.FactsOfBlossoms.{InnerChild, Inside}
use Rattle.theorems_soundness.specs.Facts.{Rest}
use Rattle.theorems_soundness.proofs.Reflect.{and→}
use Rattle.theorems_soundness.proofs.SoundFacts.{sound→facts}
use Rattle.theorems_soundness.proofs.InsideLaws.{inside_ring}
use Rattle.theorems_requests.proofs.RestOfRing.{after_in_ring}
use Rattle.theorems_partner.proofs.EntryLaws.{budget_enough, holder_found}
use Rattle.theorems_partner.proofs.RingTwos.{in_two, coupled}
use Rattle.theorems_partner.proofs.EntryTouches.{rest_short}

module _ (t : Table) (full : Full t) (s : T (sound t)) where
  rest : Rest t
  rest = (sound→facts t full s).rest

  pub way_up : (d : ℕ) → T (is_present_defect t d) → (k : ℕ) → 256 ≤ k → paired_within k t d ≡ entry t d
  way_up d h k l = budget_enough t full rest k d (and→ (is_defect t d) (present t d) h).1 l

  pub to_the_ring : (k b n : ℕ) → 256 ≤ k → Inside t b n → n ≢ b → holder k t b n ≡ holder 256 t b n
  to_the_ring k b n l i d =
      elim (inside_ring t b n i) [
        | inl e ↦ absurd (d e)
        | inr r ↦ holder_found t full rest k b r.0 n l r.1 r.2 ∙ sym (holder_found t full rest 256 b r.0 n (omega arith) r.1 r.2)
      ]

  pub round_the_ring : (k x y : ℕ) → 128 ≤ k → T (inner t y) → InnerChild t (up t y) x → x ≢ y → link_in_twos k t (next t y) x ≡ link_in_twos 128 t (next t y) x
  round_the_ring k x y l i c d =
      let r = after_in_ring t full rest y i in
      let short = rest_short t full rest y i in
      let w = in_two r.list r.even x (r.all x c d) in
      let more = coupled t k (next t y) y r.list r.way r.once (omega arith) w.first w.second w.two in
      let least = coupled t 128 (next t y) y r.list r.way r.once (omega arith) w.first w.second w.two in
      elim w.which [ inl e ↦ rw e (more.0 ∙ sym least.0) | inr e ↦ rw e (more.1 ∙ sym least.1) ]
