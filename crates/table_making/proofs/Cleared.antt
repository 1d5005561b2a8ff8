-- Slots emptied one after another: what stands where afterwards, and that all slots emptied are a table as made.
use mathlib.Core.Path.{◌≡◌, refl, sym, ◌∙◌}
use Prim.Native.Nat.{ℕ, zero, suc, ◌+◌, ◌-◌, ◌≤◌, ◌<◌}
use native.Mathlib.Omega.{arith}
use native.Mathlib.Decide.{ℕ_discrete, dec_lt}
use native.Mathlib.Numerals.{add-one}
use lib.ListN.{length-replicate, get_or-replicate}
use Rattle.lists.proofs.Budget.{one_left, none_left}
use Rattle.slot.specs.Slot.{Slot, empty_slot}
use Rattle.table.specs.Table.{Table, at, put, Full}
use Rattle.table.proofs.TableLaws.{at-put-same, at-put_other, at_out, put_full, table-ext}
use Rattle.table.specs.Counts.{with_defects, with_blossoms}
use Rattle.table.specs.Making.{fresh, emptied}
use Rattle.table_making.specs.Cleared.{cleared}

-- ---- one slot after another

module _ (t u : Table) (i to : ℕ) where
  pub cleared_step : (t₁ : Table) (s : Slot) → i < to → cleared (to - i) i t ≡ u → s ≡ empty_slot → t₁ ≡ put t i s → cleared (to - (i + 1)) (i + 1) t₁ ≡ u
  unfolding cleared
  cleared_step t₁ s h inv e p =
      let inv' = rw (one_left i to h) at inv in
      rw (p, e, add-one i) inv'

  pub cleared_done : to ≤ i → cleared (to - i) i t ≡ u → t ≡ u
  unfolding cleared
  cleared_done h inv = rw (none_left i to h) at inv

-- ---- what stands where

pub cleared_full : (k n : ℕ) (t : Table) → Full t → Full (cleared k n t)
unfolding cleared
cleared_full zero n t f = f
cleared_full (suc k) n t f = cleared_full k (suc n) (put t n empty_slot) (put_full t n empty_slot f)

pub cleared_begin : (k n : ℕ) (t : Table) → (cleared k n t).begin ≡ t.begin
unfolding cleared put
cleared_begin zero n t = refl
cleared_begin (suc k) n t = cleared_begin k (suc n) (put t n empty_slot)

emptied_there : (t : Table) (n : ℕ) → Full t → at (put t n empty_slot) n ≡ empty_slot
emptied_there t n f =
    elim (dec_lt n 256) [
      | yes h ↦ at-put-same t n empty_slot f h
      | no h ↦ at_out (put t n empty_slot) n (put_full t n empty_slot f) (omega arith)
    ]

still_empty : (t : Table) (n j : ℕ) → Full t → at t j ≡ empty_slot → at (put t n empty_slot) j ≡ empty_slot
still_empty t n j f e =
    elim (ℕ_discrete j n) [
      | yes q ↦ rw q (emptied_there t n f)
      | no q ↦ at-put_other t n j empty_slot q ∙ e
    ]

-- an empty slot stays empty
pub cleared_keeps : (k n j : ℕ) (t : Table) → Full t → at t j ≡ empty_slot → at (cleared k n t) j ≡ empty_slot
unfolding cleared
cleared_keeps zero n j t f e = e
cleared_keeps (suc k) n j t f e = cleared_keeps k (suc n) j (put t n empty_slot) (put_full t n empty_slot f) (still_empty t n j f e)

-- .. and each of the k is empty
pub cleared_at : (k n j : ℕ) (t : Table) → Full t → n ≤ j → j < n + k → at (cleared k n t) j ≡ empty_slot
unfolding cleared
cleared_at zero n j t f l h = absurd (omega arith)
cleared_at (suc k) n j t f l h =
    elim (ℕ_discrete j n) [
      | yes q ↦ cleared_keeps k (suc n) j (put t n empty_slot) (put_full t n empty_slot f) (rw q (emptied_there t n f))
      | no q ↦ cleared_at k (suc n) j (put t n empty_slot) (put_full t n empty_slot f) (omega arith) (omega arith)
    ]

-- ---- a table as made

fresh_at : (b m : ℕ) → m < 256 → at (fresh b) m ≡ empty_slot
unfolding at fresh
fresh_at b m h = get_or-replicate 256 m empty_slot empty_slot h

fresh_full : (b : ℕ) → Full (fresh b)
unfolding fresh
fresh_full b = length-replicate 256 empty_slot

-- every slot empty, and the counts zeroed
pub all-empty :
    (t u : Table)
    → Full u
    → u.begin ≡ t.begin
    → ((n : ℕ) → n < 256 → at u n ≡ empty_slot)
    → with_blossoms (with_defects u 0) 0 ≡ emptied t
unfolding with_blossoms with_defects fresh at
all-empty t u f b h =
    table-ext (with_blossoms (with_defects u 0) 0) (fresh t.begin) f (fresh_full t.begin) (λ n q. h n q ∙ sym (fresh_at t.begin n q)) b refl refl
