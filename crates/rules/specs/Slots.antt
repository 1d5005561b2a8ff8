-- A slot with one field replaced, and tests on its fields.
use Rattle.std.specs.Prelude.{ℕ, Bool, not, ◌&&◌, eqb, true, false}
use Rattle.slot.specs.declared.state.State.{State}
use Rattle.slot.specs.declared.state.State.TheVariants as S
use Rattle.slot.specs.Number.{none, no_vertex}
use Rattle.slot.specs.Slot.{Link, Slot}
use Rattle.table.specs.Table.{Table, at}

abbrev pub with_state : State → Slot → Slot
with_state x s = record { state = x; parent = s.parent; first_child = s.first_child; sibling = s.sibling; ring = s.ring; link = s.link }

abbrev pub with_parent : ℕ → Slot → Slot
with_parent n s = record { state = s.state; parent = n; first_child = s.first_child; sibling = s.sibling; ring = s.ring; link = s.link }

abbrev pub with_first_child : ℕ → Slot → Slot
with_first_child n s = record { state = s.state; parent = s.parent; first_child = n; sibling = s.sibling; ring = s.ring; link = s.link }

abbrev pub with_sibling : ℕ → Slot → Slot
with_sibling n s = record { state = s.state; parent = s.parent; first_child = s.first_child; sibling = n; ring = s.ring; link = s.link }

-- all but the first blossom child, which no rule but making and taking apart a blossom changes
abbrev pub shaped : State → ℕ → ℕ → ℕ → Link → Slot → Slot
shaped x p c n l s = record { state = x; parent = p; first_child = c; sibling = n; ring = s.ring; link = l }

abbrev pub is_none : ℕ → Bool
is_none n = eqb n none

abbrev pub is_some : ℕ → Bool
is_some n = not (eqb n none)

abbrev pub is_vertex : ℕ → Bool
is_vertex v = not (eqb v no_vertex)

-- a full link has both touches and both throughs
abbrev pub is_full : Link → Bool
is_full l = is_some l.touch && is_vertex l.through && is_some l.peer_touch && is_vertex l.peer_through

abbrev pub same_link : Link → Link → Bool
same_link l m = eqb l.touch m.touch && eqb l.through m.through && eqb l.peer_touch m.peer_touch && eqb l.peer_through m.peer_through

abbrev pub is_stay : State → Bool
is_stay S.Empty = false
is_stay S.Inner = false
is_stay S.Stay = true
is_stay S.Grow = false
is_stay S.Shrink = false
is_stay S.Damaged = false

abbrev pub is_grow : State → Bool
is_grow S.Empty = false
is_grow S.Inner = false
is_grow S.Stay = false
is_grow S.Grow = true
is_grow S.Shrink = false
is_grow S.Damaged = false

abbrev pub is_shrink : State → Bool
is_shrink S.Empty = false
is_shrink S.Inner = false
is_shrink S.Stay = false
is_shrink S.Grow = false
is_shrink S.Shrink = true
is_shrink S.Damaged = false

abbrev pub is_damaged : State → Bool
is_damaged S.Empty = false
is_damaged S.Inner = false
is_damaged S.Stay = false
is_damaged S.Grow = false
is_damaged S.Shrink = false
is_damaged S.Damaged = true

-- the pointers that rules walk along
abbrev pub up : Table → ℕ → ℕ
up t n = (at t n).parent

abbrev pub next : Table → ℕ → ℕ
next t n = (at t n).sibling
