-- The states, their marks, and which of them are outer.
use Rattle.std.specs.Prelude.{ℕ, zero, suc, Bool, true, false}
use Rattle.slot.specs.declared.state.State.{State}
use Rattle.slot.specs.declared.state.State.TheVariants.{Empty, Inner, Stay, Grow, Shrink, Damaged}

-- 0 empty, 1 present without a state, 2 Stay, 3 Grow, 4 Shrink; any other mark is damage
abbrev pub state_of : ℕ → State
state_of zero = Empty
state_of (suc zero) = Inner
state_of (suc (suc zero)) = Stay
state_of (suc (suc (suc zero))) = Grow
state_of (suc (suc (suc (suc zero)))) = Shrink
state_of (suc (suc (suc (suc (suc n))))) = Damaged

abbrev pub mark_of : State → ℕ
mark_of Empty = 0
mark_of Inner = 1
mark_of Stay = 2
mark_of Grow = 3
mark_of Shrink = 4
mark_of Damaged = 5

-- "A node is outer if it has a state."
abbrev pub is_outer : State → Bool
is_outer Empty = false
is_outer Inner = false
is_outer Stay = true
is_outer Grow = true
is_outer Shrink = true
is_outer Damaged = false

-- an inner node: present, "or none for a node inside a blossom"
abbrev pub is_inner : State → Bool
is_inner Empty = false
is_inner Inner = true
is_inner Stay = false
is_inner Grow = false
is_inner Shrink = false
is_inner Damaged = false

-- "a presence mark": every mark but 0
abbrev pub is_present : State → Bool
is_present Empty = false
is_present Inner = true
is_present Stay = true
is_present Grow = true
is_present Shrink = true
is_present Damaged = true
