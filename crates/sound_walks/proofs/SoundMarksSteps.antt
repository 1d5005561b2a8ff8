-- Walks and passes, step by step as the code takes them: what was found so far, in the code's order, and what is left.
use Rattle.std.proofs.Common.{◌≡◌, ℕ, zero, suc, ◌+◌, ◌-◌, ◌<◌, ◌≤◌, Bool, true, false, List, set, add-one}
use Rattle.lists.proofs.Budget.{one_left, none_left}
use Rattle.rules.specs.Slots.{is_none}
use Rattle.slot.specs.Number.{none}
use Rattle.sound_walks.specs.Marks.{walked_of, marking, Judged, judged_of, sweep}

-- ---- a walk

module _ (along : ℕ → ℕ) (mine : ℕ → Bool) (n c : ℕ) (l : List ℕ) where
  pub marking_end : (k : ℕ) → true ≡ is_none n → walked_of c l ≡ marking k along mine n c l
  unfolding marking
  marking_end zero e = rw (← e)
  marking_end (suc k) e = rw (← e)

  module _ (e : false ≡ is_none n) where
    pub marking_spent : (to : ℕ) → to ≤ c → walked_of none l ≡ marking (to - c) along mine n c l
    unfolding marking
    marking_spent to h = rw (none_left c to h, ← e)

    pub marking_alien : (k : ℕ) → false ≡ mine n → walked_of none l ≡ marking k along mine n c l
    unfolding marking
    marking_alien zero q = rw (← e)
    marking_alien (suc k) q = rw (← e, ← q)

    pub marking-more : (to : ℕ) → c < to → true ≡ mine n → marking (to - (c + 1)) along mine (along n) (c + 1) (set l n 1) ≡ marking (to - c) along mine n c l
    unfolding marking
    marking-more to h q = rw (one_left c to h, ← e, ← q, add-one)

-- ---- a pass

module _ (step : ℕ → List ℕ → Judged) (to i : ℕ) (l : List ℕ) where
  pub sweep_end : to ≤ i → judged_of true l ≡ sweep step (to - i) i l
  unfolding sweep
  sweep_end h = rw (none_left i to h)

  module _ (b : Bool) (m : List ℕ) (h : i < to) (e : judged_of b m ≡ step i l) where
    pub sweep_stop : b ≡ false → judged_of false m ≡ sweep step (to - i) i l
    unfolding sweep
    sweep_stop q = rw (one_left i to h, ← e, q)

    pub sweep_more : b ≡ true → sweep step (to - (i + 1)) (i + 1) m ≡ sweep step (to - i) i l
    unfolding sweep
    sweep_more q = rw (one_left i to h, ← e, q, add-one)
