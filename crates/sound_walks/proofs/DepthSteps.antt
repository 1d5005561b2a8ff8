-- Ways up, step by step as the code takes them.
use Rattle.std.proofs.Common.{◌≡◌, ℕ, zero, suc, ◌+◌, ◌-◌, ◌<◌, ◌≤◌, Bool, true, false, leb, List, get_or, set, sym, refl, ap, ◌∙◌, arith, get_or-set_other, eq-eqb, ne_eqb, le-leb, add-one}
use Rattle.lists.proofs.Budget.{one_left}
use borrow.Author.Tests.{lt-leb}
use Rattle.slot.specs.Number.{none}
use Rattle.lists.specs.Choice.{pick}
use Rattle.slot.specs.Slot.{Slot, empty_slot}
use Rattle.table.specs.Table.{Table, at}
use Rattle.table.specs.Words.{table_of}
use Rattle.table.proofs.WordsOfSlots.{at_past}
use Rattle.rules.specs.Slots.{up}
use Rattle.sound_walks.specs.Marks.{judged_of}
use Rattle.sound_walks.specs.Depths.{measured, recorded, depth_step}

module _ (t : Table) (l : List ℕ) (n c : ℕ) where
  pub measured_end : (k : ℕ) → n ≡ none → c ≡ measured t l k n c
  unfolding measured
  measured_end zero e = rw (eq-eqb n none e)
  measured_end (suc k) e = rw (eq-eqb n none e)

  module _ (h : n ≡ none → ⊥) (v : ℕ) (e : v ≡ get_or l n 0) where
    pub measured_known : (k : ℕ) → (v ≡ 0 → ⊥) → c + v ≡ measured t l k n c
    unfolding measured
    measured_known zero q = rw (ne_eqb n none h, ← e, ne_eqb v 0 q)
    measured_known (suc k) q = rw (ne_eqb n none h, ← e, ne_eqb v 0 q)

    pub measured_spent : (k : ℕ) → v ≡ 0 → k ≡ 0 → none ≡ measured t l k n c
    unfolding measured
    measured_spent zero q z = rw (ne_eqb n none h, ← e, eq-eqb v 0 q)
    measured_spent (suc k) q z = absurd (omega arith)

    pub measured_more : (to p : ℕ) → v ≡ 0 → c < to → p ≡ up t n → measured t l (to - (c + 1)) p (c + 1) ≡ measured t l (to - c) n c
    unfolding measured
    measured_more to p q m r = rw (one_left c to m, ne_eqb n none h, ← e, eq-eqb v 0 q, r, add-one)

module _ (t : Table) (n : ℕ) (l : List ℕ) where
  pub recorded_end : (d : ℕ) → d ≤ 0 → l ≡ recorded t d n l
  unfolding recorded
  recorded_end zero h = refl
  recorded_end (suc d) h = absurd (omega arith)

  module _ (v : ℕ) (e : v ≡ get_or l n 0) where
    pub recorded_known : (d : ℕ) → 0 < d → (v ≡ 0 → ⊥) → l ≡ recorded t d n l
    unfolding recorded
    recorded_known zero h q = absurd (omega arith)
    recorded_known (suc d) h q = rw (← e, ne_eqb v 0 q)

    pub recorded_turn : (d p : ℕ) (m : List ℕ) → v ≡ 0 → m ≡ set l n (suc d) → p ≡ up t n → recorded t d p m ≡ recorded t (suc d) n l
    unfolding recorded
    recorded_turn d p m q r s = rw (← e, eq-eqb v 0 q, s, r)

    pub recorded_more : (d j p : ℕ) (m : List ℕ) → j < d → v ≡ 0 → m ≡ set l n (d - j) → p ≡ up t n → recorded t (d - (j + 1)) p m ≡ recorded t (d - j) n l
    recorded_more d j p m h q r s =
        let u : d - j ≡ suc (d - (j + 1)) = omega arith in
        rw u (recorded_turn (d - (j + 1)) p m q (r ∙ ap (λ (x : ℕ). set l n x) u) s)

module _ (t : Table) (n : ℕ) (l : List ℕ) (p : ℕ) (v : p ≡ up t n) where
  module _ (f : p ≡ none → ⊥) where
    pub depth_deep : (d : ℕ) → d ≡ measured t l 257 n 0 → 257 < d → judged_of false l ≡ depth_step t n l
    unfolding depth_step
    depth_deep d r z = rw (← v, ne_eqb p none f, ← r, lt-leb d 257 z)

    pub depth_fine : (d : ℕ) (m : List ℕ) → d ≡ measured t l 257 n 0 → d ≤ 257 → m ≡ recorded t d n l → judged_of true m ≡ depth_step t n l
    unfolding depth_step
    depth_fine d m r z s = rw (← v, ne_eqb p none f, ← r, le-leb d 257 z, s)

-- a depth that is known already, of the node itself or of its parent
module _ (ws l : List ℕ) (n p : ℕ) (v : p ≡ up (table_of ws) n) (f : p ≡ none → ⊥) where
  abbrev tab : Table
  tab = table_of ws

  -- past the table nothing has a parent
  some : n ≡ none → ⊥
  some e =
      let z : at tab none ≡ empty_slot = sym (at_past ws none (omega arith)) in
      f (v ∙ ap (up tab) e ∙ ap (λ (s : Slot). s.parent) z)

  module _ (own : ℕ) (e : own ≡ get_or l n 0) where
    kept : (d : ℕ) → (own ≡ 0 → ⊥) → l ≡ recorded tab d n l
    kept zero q = recorded_end tab n l 0 (omega arith)
    kept (suc d) q = recorded_known tab n l own e (suc d) (omega arith) q

    pub depth_own : (own ≡ 0 → ⊥) → judged_of (leb own 257) l ≡ depth_step tab n l
    unfolding depth_step
    depth_own q =
        let r : measured tab l 257 n 0 ≡ own = sym (measured_known tab l n 0 some own e 257 q) ∙ omega arith in
        rw (← v, ne_eqb p none f, r, ← kept own q) (each (leb own 257))
      where
        each : (b : Bool) → judged_of b l ≡ pick b (judged_of true l) (judged_of false l)
        each true = refl
        each false = refl

    module _ (z : own ≡ 0) (known : ℕ) (k : known ≡ get_or l p 0) (q : known ≡ 0 → ⊥) where
      below : measured tab l 257 n 0 ≡ known + 1
      below =
          sym (measured_more tab l n 0 some own e 257 p z (omega arith) v)
          ∙ sym (measured_known tab l p 1 f known k 256 q)
          ∙ omega arith

      other : p ≡ n → ⊥
      other w = q (k ∙ ap (λ (j : ℕ). get_or l j 0) w ∙ sym e ∙ z)

      noted : set l n (known + 1) ≡ recorded tab (known + 1) n l
      noted =
          let m : List ℕ = set l n (known + 1) in
          let d : known + 1 ≡ suc known = omega arith in
          let g : known ≡ get_or m p 0 = k ∙ sym (get_or-set_other l n p (known + 1) 0 other) in
          recorded_known tab p m known g known (omega (arith, q)) q
          ∙ recorded_turn tab n l own e known p m z (ap (λ (x : ℕ). set l n x) d) v
          ∙ ap (λ (x : ℕ). recorded tab x n l) (sym d)

      pub depth_below : (m : List ℕ) → known ≤ 256 → m ≡ set l n (known + 1) → judged_of true m ≡ depth_step tab n l
      depth_below m h s = depth_fine tab n l p v f (known + 1) m (sym below) (omega arith) (s ∙ noted)

      pub depth_too_deep : 256 < known → judged_of false l ≡ depth_step tab n l
      depth_too_deep h = depth_deep tab n l p v f (known + 1) (sym below) (omega arith)
