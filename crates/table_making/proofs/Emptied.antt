-- On a sound table all slots are empty once those given out are, and the table so left is sound.
use mathlib.Core.Path.{◌≡◌, ap, ◌∙◌}
use mathlib.Core.Bool.{true}
use mathlib.Core.List.{List}
use mathlib.Core.Logic.{inl, inr}
use Prim.Native.Nat.{ℕ, ◌+◌, ◌-◌}
use native.Mathlib.Nat.{sub-zero}
use native.Mathlib.Omega.{arith}
use native.Mathlib.Decide.{dec_lt}
use Rattle.slot.specs.Slot.{empty_slot}
use Rattle.table.specs.Table.{Table, at, Full}
use Rattle.table.specs.Words.{table_of}
use Rattle.table.proofs.WordsOfSlots.{slots_length}
use Rattle.table.specs.Counts.{with_defects, with_blossoms, blossom_end}
use Rattle.table.specs.Making.{emptied}
use Rattle.table_making.specs.Cleared.{cleared}
use Rattle.table_making.proofs.Cleared.{cleared_full, cleared_begin, cleared_keeps, cleared_at, all-empty}
use Rattle.rules.specs.Sound.{sound}
use Rattle.theorems_soundness.specs.Facts.{Sound}
use Rattle.theorems_soundness.proofs.Kept.{reset_keeps_sound}
use Rattle.theorems_soundness.proofs.Reflect.{true_test, test_true}
use Rattle.theorems_soundness.proofs.SoundFacts.{sound→facts}
use Rattle.theorems_soundness.proofs.GivenSlots.{end_of_blossoms, not_given}

module _ (t : Table) (full : Full t) (s : Sound t) where
  abbrev defects_cleared : Table
  defects_cleared = cleared t.defects 0 t

  abbrev both_cleared : Table
  both_cleared = cleared t.blossoms t.begin defects_cleared

  defects_full : Full defects_cleared
  defects_full = cleared_full t.defects 0 t full

  was_empty : (j : ℕ) → at t j ≡ empty_slot → at both_cleared j ≡ empty_slot
  was_empty j e = cleared_keeps t.blossoms t.begin j defects_cleared defects_full (cleared_keeps t.defects 0 j t full e)

  every_slot : (j : ℕ) → at both_cleared j ≡ empty_slot
  every_slot j =
      elim (dec_lt j t.defects) [
        | yes d ↦ cleared_keeps t.blossoms t.begin j defects_cleared defects_full (cleared_at t.defects 0 j t full (omega arith) (omega arith))
        | no d ↦ elim (dec_lt j t.begin) [
          | yes b ↦ was_empty j (not_given t s j (λ g. elim g [ inl h ↦ omega arith | inr h ↦ omega (arith, h.0) ]))
          | no b ↦ elim (dec_lt j (t.begin + t.blossoms)) [
            | yes n ↦ cleared_at t.blossoms t.begin j defects_cleared defects_full (omega arith) n
            | no n ↦ was_empty j (not_given t s j (λ g. elim g [ inl h ↦ omega arith | inr h ↦ omega (arith, h.1) ]))
          ]
        ]
      ]

  both_emptied : with_blossoms (with_defects both_cleared 0) 0 ≡ emptied t
  both_emptied =
      all-empty t both_cleared (cleared_full t.blossoms t.begin defects_cleared defects_full)
      (cleared_begin t.blossoms t.begin defects_cleared ∙ cleared_begin t.defects 0 t)
      (λ j h. every_slot j)

pub reset-step :
    (ws : List ℕ) (t₁ t₂ t₃ t₄ : Table) (defects begin end : ℕ)
    → defects ≡ (table_of ws).defects
    → begin ≡ (table_of ws).begin
    → end ≡ blossom_end (table_of ws)
    → t₁ ≡ cleared (defects - 0) 0 (table_of ws)
    → t₂ ≡ cleared (end - begin) begin t₁
    → t₃ ≡ with_defects t₂ 0
    → t₄ ≡ with_blossoms t₃ 0
    → sound (table_of ws) ≡ true
    → t₄ ≡ emptied (table_of ws)
reset-step ws t₁ t₂ t₃ t₄ defects begin end d b e p q r u s =
    let t = table_of ws in
    let f = sound→facts t (slots_length ws) (true_test (sound t) s) in
    let n : blossom_end t - t.begin ≡ t.blossoms = omega (arith, end_of_blossoms t f) in
    let p' = rw (d, sub-zero) at p in
    let q' = rw (b, e, n, p') at q in
    u ∙ rw (r, q') (both_emptied t (slots_length ws) f)

pub emptied_sound : (ws : List ℕ) (t : Table) → t ≡ emptied (table_of ws) → sound (table_of ws) ≡ true → sound t ≡ true
emptied_sound ws t e s = ap sound e ∙ test_true _ (reset_keeps_sound (table_of ws) (slots_length ws) (true_test _ s))
