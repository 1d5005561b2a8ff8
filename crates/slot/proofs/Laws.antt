-- Marks and states, words and vertices: each way there and back.
use mathlib.Core.Path.{◌≡◌, refl}
use Prim.Native.Nat.{ℕ, zero, suc, ◌%◌, ◌/◌, ◌≤◌, ◌<◌}
use native.Mathlib.Omega.{arith}
use Rattle.slot.specs.declared.state.State.{State}
use Rattle.slot.specs.declared.state.State.TheVariants.{Empty, Inner, Stay, Grow, Shrink, Damaged}
use Rattle.slot.specs.Number.{vertex_from}
use Rattle.slot.specs.State.{state_of, mark_of}
use Rattle.slot.specs.Slot.{Link, mirror}

pub state_of_damaged : (mark : ℕ) → 5 ≤ mark → Damaged ≡ state_of mark
state_of_damaged zero h = absurd (omega arith)
state_of_damaged (suc zero) h = absurd (omega arith)
state_of_damaged (suc (suc zero)) h = absurd (omega arith)
state_of_damaged (suc (suc (suc zero))) h = absurd (omega arith)
state_of_damaged (suc (suc (suc (suc zero)))) h = absurd (omega arith)
state_of_damaged (suc (suc (suc (suc (suc n))))) h = refl

pub state_of_mark_of : (s : State) → state_of (mark_of s) ≡ s
state_of_mark_of Empty = refl
state_of_mark_of Inner = refl
state_of_mark_of Stay = refl
state_of_mark_of Grow = refl
state_of_mark_of Shrink = refl
state_of_mark_of Damaged = refl

-- a mark that is no damage is the mark of its state
pub mark_of_state_of : (mark : ℕ) → mark ≤ 4 → mark_of (state_of mark) ≡ mark
mark_of_state_of zero h = refl
mark_of_state_of (suc zero) h = refl
mark_of_state_of (suc (suc zero)) h = refl
mark_of_state_of (suc (suc (suc zero))) h = refl
mark_of_state_of (suc (suc (suc (suc zero)))) h = refl
mark_of_state_of (suc (suc (suc (suc (suc n))))) h = absurd (omega arith)

pub vertex_from_words : (v : ℕ) → vertex_from (v % 65536) (v / 65536) ≡ v
vertex_from_words v = omega arith

pub low_vertex_from : (low high : ℕ) → low < 65536 → vertex_from low high % 65536 ≡ low
low_vertex_from low high h = omega arith

pub high_vertex_from : (low high : ℕ) → low < 65536 → vertex_from low high / 65536 ≡ high
high_vertex_from low high h = omega arith

pub mirror-mirror : (l : Link) → mirror (mirror l) ≡ l
mirror-mirror l = refl
