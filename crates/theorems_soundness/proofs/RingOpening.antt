-- `ring_opened` does what its loops do over the lists of the ring's nodes; so do the loops with any larger budget.
use mathlib.Core.Path.{◌≡◌, refl, ap, ◌∙◌}
use mathlib.Core.Logic.{◌⊎◌, inl, inr}
use mathlib.Core.Bool.{false}
use mathlib.Core.List.{List, [], ◌∷◌, ◌++◌}
use Prim.Native.Nat.{ℕ, suc, ◌+◌, ◌%◌, ◌≤◌}
use native.Mathlib.Omega.{arith}
use lib.ListN.{length}
use Rattle.slot.specs.Slot.{Link, Slot}
use Rattle.table.specs.Table.{Table}
use Rattle.rules.specs.Act.{Act, Did, ◌then◌, read, choose}
use Rattle.rules.specs.Slots.{next}
use Rattle.rules.specs.Expansion.{steps_to, match_chain, attach_down, attach_up, ring_opened}
use Rattle.theorems_soundness.proofs.Reflect.{eqb_yes, eqb_no, same_or_not}
use Rattle.theorems_soundness.specs.RuleFacts.{Whole, RightLink}
use Rattle.theorems_soundness.proofs.RingStretches.{odd_half}
use Rattle.theorems_soundness.proofs.RingLoops.{then_same, two_by_two, hung_down, hung_up, steps_are, match-chain-is, attach-down-is, attach-up-is}
use Rattle.theorems_soundness.proofs.RingCut.{CutRing, parts, cut_short, upper_apart, top_in_upper, even_half}
use Rattle.theorems_soundness.proofs.RingTaken.{RingTaken, even_after, even_twos_lem, even_taken, from_odd, odd_parts, odd_to_c, odd_twos_lem, odd_taken}

-- two acts in turn that both are the same
pub then_both : (f e g h : Act) (v : Table) → f v ≡ e v → g (e v).table ≡ h (e v).table → (f then g) v ≡ (e then h) v
unfolding ◌then◌
then_both f e g h v p q = ap (λ (d : Did). record { table = (g d.table).table; said = d.said ++ (g d.table).said }) p ∙ then_same e g h v q

module _ (t : Table) (w : Whole t) (b p c : ℕ) (r : CutRing t b p c) where
  -- ---- a budget of 256 is enough, and so is any larger one

  module _ (k : ℕ) (enough : 256 ≤ k) where
    pub steps_counted : steps_to k c p t ≡ length r.before
    steps_counted = steps_are k t c p r.before r.to_c (λ m. (parts t b p c r).2 c m (inl refl)) (omega (arith, cut_short t b p c r w.full))

    pub even_matched : (h : ℕ) → length r.before ≡ h + h → match_chain k p (next t c) t ≡ two_by_two r.after t
    even_matched h e =
        match-chain-is k t t p (next t c) r.after (even_after t w b p c r h e).0 r.from_c (parts t b p c r).1.1 (upper_apart t b p c r p (top_in_upper t b p c r)) (λ z m. refl) (even_after t w b p c r h e).1 (omega (arith, cut_short t b p c r w.full))

    pub even-hung :
        (h : ℕ)
        → length r.before ≡ h + h
        → (above below : ℕ) (l : Link)
        → attach_down k c below false above l p (two_by_two r.after t).table ≡ hung_down below false above l (r.before ++ (c ∷ [])) (two_by_two r.after t).table
    even-hung h e above below l =
        attach-down-is k t (two_by_two r.after t).table c below false above l p r.before r.to_c (parts t b p c r).0 (λ m. (parts t b p c r).2 c m (inl refl))
        (λ z m. ap (λ (s : Slot). s.sibling) ((even_twos_lem t w b p c r h e).0.elsewhere z (λ i. (parts t b p c r).2 z m (inr i))))
        (omega (arith, cut_short t b p c r w.full))

    module _ (ms : List ℕ) (is : r.before ≡ p ∷ ms) where
      pub odd_matched : (h : ℕ) → length ms ≡ h + h → match_chain k c (next t p) t ≡ two_by_two ms t
      odd_matched h e =
          match-chain-is k t t c (next t p) ms h (odd_to_c t w b p c r ms is).1 (odd_parts t w b p c r ms is).0.1 (λ m. (odd_parts t w b p c r ms is).2 c (inr m) (inl refl)) (λ z m. refl) e (omega (arith, ap length is, cut_short t b p c r w.full))

      pub odd-hung :
          (h : ℕ)
          → length ms ≡ h + h
          → (above below : ℕ) (l : Link)
          → attach_up k p above l false below c (two_by_two ms t).table ≡ hung_up above l false below (c ∷ (r.after ++ (p ∷ []))) (two_by_two ms t).table
      odd-hung h e above below l =
          attach-up-is k t (two_by_two ms t).table p above l false below c (c ∷ r.after) (refl, r.from_c) (odd_parts t w b p c r ms is).1 ((odd_parts t w b p c r ms is).2 p (inl refl))
          (λ z m. ap (λ (s : Slot). s.sibling) ((odd_twos_lem t w b p c r ms is h e).0.elsewhere z (λ i. (odd_parts t w b p c r ms is).2 z (inr i) m)))
          (omega (arith, ap length is, cut_short t b p c r w.full))

  -- ---- both parities

  module _ (above below : ℕ) (l : Link) where
    pub opened_even : (h : ℕ) → length r.before ≡ h + h → ring_opened p c above below l t ≡ (two_by_two r.after then hung_down below false above l (r.before ++ (c ∷ []))) t
    unfolding ring_opened read choose
    opened_even h e =
        let z : steps_to 256 c p t % 2 ≡ 0 = rw (steps_counted 256 (omega arith)) (omega arith) in
        rw (eqb_yes (steps_to 256 c p t % 2) 0 z)
        (then_both (match_chain 256 p (next t c)) (two_by_two r.after) (attach_down 256 c below false above l p) (hung_down below false above l (r.before ++ (c ∷ []))) t (even_matched 256 (omega arith) h e) (even-hung 256 (omega arith) h e above below l))

    pub opened_odd : (ms : List ℕ) → r.before ≡ p ∷ ms → (h : ℕ) → length ms ≡ h + h → ring_opened p c above below l t ≡ (two_by_two ms then hung_up above l false below (c ∷ (r.after ++ (p ∷ [])))) t
    unfolding ring_opened read choose
    opened_odd ms is h e =
        let n : length r.before ≡ suc (h + h) = ap length is ∙ omega arith in
        let z : steps_to 256 c p t % 2 ≡ 1 = rw (steps_counted 256 (omega arith)) (omega arith) in
        rw (eqb_no (steps_to 256 c p t % 2) 0 (omega arith))
        (then_both (match_chain 256 c (next t p)) (two_by_two ms) (attach_up 256 p above l false below c) (hung_up above l false below (c ∷ (r.after ++ (p ∷ [])))) t (odd_matched 256 (omega arith) ms is h e) (odd-hung 256 (omega arith) ms is h e above below l))

    taken_even : (h : ℕ) → length r.before ≡ h + h → RightLink t p l above → RingTaken t (ring_opened p c above below l t).table b p c above below
    unfolding ◌then◌
    taken_even h e right = rw (opened_even h e) (even_taken t w b p c r above below l right h e)

    taken_odd : (ms : List ℕ) → r.before ≡ p ∷ ms → (h : ℕ) → length ms ≡ h + h → RightLink t p l above → RingTaken t (ring_opened p c above below l t).table b p c above below
    unfolding ◌then◌
    taken_odd ms is h e right = rw (opened_odd ms is h e) (odd_taken t w b p c r ms is above below l right h e)

    -- the number of steps is even or odd
    pub parity : ((h : ℕ) × (length r.before ≡ h + h)) ⊎ ((ms : List ℕ) × (h : ℕ) × (r.before ≡ p ∷ ms) × (length ms ≡ h + h))
    parity = elim (same_or_not (length r.before % 2) 0) [ inl e ↦ inl (even_half (length r.before) e) | inr n ↦ inr (go (odd_half (length r.before) (omega arith))) ]
      where
        go : (h : ℕ) × (length r.before ≡ suc (h + h)) → (ms : List ℕ) × (h : ℕ) × (r.before ≡ p ∷ ms) × (length ms ≡ h + h)
        go q = let f = from_odd t w b p c r q.0 q.1 in (f.0, q.0, f.1, omega (arith, q.1, ap length f.1))

    pub ring_opened_taken : RightLink t p l above → RingTaken t (ring_opened p c above below l t).table b p c above below
    ring_opened_taken right = elim parity [ inl q ↦ taken_even q.0 q.1 right | inr q ↦ taken_odd q.0 q.2 q.1 q.3 right ]
