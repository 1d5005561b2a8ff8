-- On a sound table the slots given out list what all slots list, and hold all present defects.
use mathlib.Core.Path.{◌≡◌, refl, sym, ap, ◌∙◌}
use mathlib.Core.Bool.{true, ◌&&◌}
use mathlib.Core.List.{List, [], ◌++◌, append_assoc, append-nil}
use mathlib.Core.Logic.{inl, inr}
use Prim.Native.Nat.{ℕ, zero, suc, ◌+◌, ◌-◌, ◌≤◌, ◌<◌}
use native.Mathlib.Omega.{arith}
use lib.Dec.{ltb→lt}
use Rattle.table.specs.Table.{Table, at, Full}
use Rattle.table.specs.Counts.{blossom_end}
use Rattle.table.specs.Nodes.{present, outer, is_defect}
use Rattle.record.specs.declared.answer.Record.{Record}
use Rattle.record.specs.Writing.{Out, write_all}
use Rattle.rules.specs.Sound.{sound}
use Rattle.rules.specs.Listing.{slot_listed, slots_listed, listing}
use Rattle.rules.specs.Refusals.{defect_at, defects_below, present_defects}
use Rattle.rules.proofs.Runs.{choose_no}
use Rattle.theorems_soundness.specs.Facts.{Sound, Given}
use Rattle.theorems_soundness.proofs.Reflect.{and→, pick_no, test_false, true_test}
use Rattle.theorems_soundness.proofs.ReflectSlots.{outer-present}
use Rattle.theorems_soundness.proofs.SoundFacts.{sound→facts}
use Rattle.theorems_soundness.proofs.GivenSlots.{end_of_blossoms}
use Rattle.request_listing.specs.Given.{given_listed}

module _ (t : Table) (s : Sound t) where
  -- a slot that was not given out lists nothing
  silent : (n : ℕ) → (Given t n → ⊥) → slot_listed n t ≡ []
  unfolding slot_listed
  silent n h = choose_no _ _ t (outer t n) (test_false (outer t n) (λ o. h (s.rest.given n (outer-present (at t n).state o))))

  slots_silent : (k n : ℕ) → ((j : ℕ) → n ≤ j → j < n + k → Given t j → ⊥) → slots_listed k n t ≡ []
  unfolding slots_listed
  slots_silent zero n h = refl
  slots_silent (suc k) n h =
      rw (silent n (h n (omega arith) (omega arith)), slots_silent k (suc n) (λ j p q. h j (omega arith) (omega arith)))

slots_split : (t : Table) (a b n : ℕ) → slots_listed (a + b) n t ≡ slots_listed a n t ++ slots_listed b (n + a) t
unfolding slots_listed
slots_split t zero b n =
    let e : zero + b ≡ b = omega arith in
    let f : n + zero ≡ n = omega arith in
    rw (e, f)
slots_split t (suc a) b n =
    let e : suc a + b ≡ suc (a + b) = omega arith in
    let f : n + suc a ≡ suc n + a = omega arith in
    rw (e, f)
    (ap (λ (l : List Record). slot_listed n t ++ l) (slots_split t a b (suc n)) ∙ sym (append_assoc (slot_listed n t) (slots_listed a (suc n) t) (slots_listed b (suc n + a) t)))

-- four stretches of slots, one after another
stretches : (t : Table) (d g n r : ℕ) → slots_listed (d + (g + (n + r))) 0 t ≡ slots_listed d 0 t ++ (slots_listed g d t ++ (slots_listed n (d + g) t ++ slots_listed r (d + g + n) t))
stretches t d g n r =
    let e : 0 + d ≡ d = omega arith in
    let first = slots_split t d (g + (n + r)) 0 in
    let second = slots_split t g (n + r) d in
    let third = slots_split t n r (d + g) in
    first ∙ rw (e, second, third)

module _ (t : Table) (full : Full t) (q : sound t ≡ true) where
  facts : Sound t
  facts = sound→facts t full (true_test (sound t) q)

  -- "Slots past each count are empty"
  pub given_listed_lem : given_listed t ≡ listing t
  unfolding given_listed
  given_listed_lem =
      let d = t.defects in
      let b = t.begin in
      let n = t.blossoms in
      let left = 256 - (b + n) in
      let f : blossom_end t - b ≡ n = omega (arith, end_of_blossoms t facts) in
      let all : 256 ≡ d + ((b - d) + (n + left)) = omega (arith, facts.rest.sizes.defects_fit, facts.rest.sizes.blossoms_fit) in
      let to-begin : d + (b - d) ≡ b = omega (arith, facts.rest.sizes.defects_fit) in
      let before : slots_listed (b - d) d t ≡ [] = slots_silent t facts (b - d) d (λ j p r g. elim g [ inl h ↦ omega arith | inr h ↦ omega (arith, h.0, facts.rest.sizes.defects_fit) ]) in
      let after : slots_listed left (b + n) t ≡ [] = slots_silent t facts left (b + n) (λ j p r g. elim g [ inl h ↦ omega (arith, facts.rest.sizes.defects_fit) | inr h ↦ omega (arith, h.1) ]) in
      let whole : slots_listed 256 0 t ≡ slots_listed d 0 t ++ (slots_listed (b - d) d t ++ (slots_listed n (d + (b - d)) t ++ slots_listed left (d + (b - d) + n) t)) = ap (λ (k : ℕ). slots_listed k 0 t) all ∙ stretches t d (b - d) n left in
      let whole' = rw (to-begin, before, after, append-nil) at whole in
      rw f (sym whole')

  -- .. so all present defects are below the count
  none_past : (j : ℕ) → t.defects ≤ j → defect_at t j ≡ 0
  unfolding defect_at
  none_past j l =
      pick_no (is_defect t j && present t j) 1 0
      λ h. let p = and→ (is_defect t j) (present t j) h in
      elim (facts.rest.given j p.1) [ inl g ↦ omega arith | inr g ↦ omega (arith, g.0, ltb→lt j t.begin p.0) ]

  more_past : (k : ℕ) → defects_below (t.defects + k) t ≡ defects_below t.defects t
  unfolding defects_below
  more_past zero = let e : t.defects + zero ≡ t.defects = omega arith in rw e
  more_past (suc k) =
      let e : t.defects + suc k ≡ suc (t.defects + k) = omega arith in
      rw (e, none_past (t.defects + k) (omega arith), more_past k) (omega arith)

  pub given_defects : defects_below t.defects t ≡ present_defects t
  given_defects =
      let e : t.defects + (256 - t.defects) ≡ 256 = omega (arith, facts.rest.sizes.defects_fit, facts.rest.sizes.begin_fits) in
      sym (rw e at (more_past (256 - t.defects)))

  -- as the code counts and lists them
  pub room-asked : (defects found : ℕ) → defects ≡ t.defects → found ≡ defects_below defects t → found ≡ present_defects t
  room-asked defects found e f = f ∙ rw e given_defects

  pub all_listed : (o o₁ : Out) → o₁ ≡ write_all o (given_listed t) → o₁ ≡ write_all o (listing t)
  all_listed o o₁ e = e ∙ rw given_listed_lem
