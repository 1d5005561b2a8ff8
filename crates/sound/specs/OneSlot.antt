-- What the code asks of one slot: the rule of its state where it is given out, nothing stored where it is not.
use Rattle.std.specs.Prelude.{ℕ, Bool, false, ◌&&◌}
use Rattle.slot.specs.declared.state.State.{State}
use Rattle.slot.specs.declared.state.State.TheVariants as S
use Rattle.slot.specs.Slot.{Slot}
use Rattle.table.specs.Table.{Table, at}
use Rattle.rules.specs.Sound.{is_bare}
use Rattle.sound_slots.specs.Links.{ring_placed}
use Rattle.sound_slots.specs.States.{inner_holds, stay_holds, grow_holds, shrink_holds}

-- `held` tests whether a node holds a touch, `numbered` whether it has a number
abbrev pub rule_of : State → Table → (ℕ → ℕ → Bool) → (ℕ → Bool) → ℕ → Slot → Bool
rule_of S.Empty t held numbered n s = is_bare s
rule_of S.Inner t held numbered n s = inner_holds held numbered n s
rule_of S.Stay t held numbered n s = stay_holds t held n s
rule_of S.Grow t held numbered n s = grow_holds t held n s
rule_of S.Shrink t held numbered n s = shrink_holds t held n s
rule_of S.Damaged t held numbered n s = false

unfoldable pub slot_holds : Table → (ℕ → ℕ → Bool) → (ℕ → Bool) → ℕ → Bool
slot_holds t held numbered n = ring_placed t n (at t n).ring && rule_of (at t n).state t held numbered n (at t n)

-- ---- slots that are not given out

abbrev pub vacant_of : State → Slot → Bool
vacant_of S.Empty s = is_bare s
vacant_of S.Inner s = false
vacant_of S.Stay s = false
vacant_of S.Grow s = false
vacant_of S.Shrink s = false
vacant_of S.Damaged s = false

unfoldable pub is_vacant : Table → ℕ → Bool
is_vacant t n = vacant_of (at t n).state (at t n)
