-- "256 slots. Slots below `blossom_begin` are defects, the others blossoms." The table, what stands in a slot, and a slot stored.
use Rattle.std.specs.Prelude.{◌≡◌, ◌≢◌, List, ℕ, ◌<◌, length, get_or, set}
use Rattle.slot.specs.declared.state.State.TheVariants.{Damaged}
use Rattle.slot.specs.Slot.{Slot, empty_slot}

pub record Table : Type 0 where
  pub slots : List Slot
  pub begin : ℕ
  pub defects : ℕ
  pub blossoms : ℕ

-- what stands in slot n: past the last slot, as at none, the empty slot
unfoldable pub at : Table → ℕ → Slot
at t n = get_or t.slots n empty_slot

-- s stored in slot n: past the last slot, as at none, nothing changes
unfoldable pub put : Table → ℕ → Slot → Table
put t n s = record { slots = set t.slots n s; begin = t.begin; defects = t.defects; blossoms = t.blossoms }

-- "256 slots": a table of as many slots as 01's has. Every table that lent words hold is one.
abbrev pub Full : Table → Type 0
Full t = length t.slots ≡ 256

-- no slot's mark is damaged: each is one of the five of 01
abbrev pub Undamaged : Table → Type 0
Undamaged t = (n : ℕ) → n < 256 → (at t n).state ≢ Damaged
