-- A blossom in a blossom: defect 0 in 128, which is in 129; and a defect that names itself as parent.
use mathlib.Core.Path.{◌≡◌, refl}
use mathlib.Core.Bool.{true, false}
use Prim.Native.Nat.{ℕ}
use Rattle.slot.specs.declared.state.State.{State}
use Rattle.slot.specs.declared.state.State.TheVariants.{Inner, Grow}
use Rattle.slot.specs.Number.{none}
use Rattle.slot.specs.Slot.{Slot, no_link}
use Rattle.table.specs.Table.{Table, at, put}
use Rattle.table.specs.Making.{fresh}
use Rattle.table.specs.Climb.{inside, inside_within, outer_blossom, outer_blossom_within, second_outer_blossom, second_outer_within}

node : State → ℕ → Slot
node s p = record { state = s; parent = p; first_child = none; sibling = none; ring = none; link = no_link }

nested : Table
nested = put (put (put (put (fresh 128) 0 (node Inner 128)) 1 (node Inner 1)) 128 (node Inner 129)) 129 (node Grow none)

inside_outermost : inside nested 129 0 ≡ true
unfolding nested node inside_within at put fresh
inside_outermost = refl

inside_between : inside nested 128 0 ≡ true
unfolding nested node inside_within at put fresh
inside_between = refl

inside_itself : inside nested 0 0 ≡ true
unfolding nested node inside_within at put fresh
inside_itself = refl

not_inside_below : inside nested 0 129 ≡ false
unfolding nested node inside_within at put fresh
not_inside_below = refl

-- the climb from a node that is its own parent ends, after 256 steps
not_inside_round : inside nested 129 1 ≡ false
unfolding nested node inside_within at put fresh
not_inside_round = refl

-- one step is too few, two are enough
one_step : inside_within 1 nested 129 0 ≡ false
unfolding nested node inside_within at put fresh
one_step = refl

two_steps : inside_within 2 nested 129 0 ≡ true
unfolding nested node inside_within at put fresh
two_steps = refl

outermost : outer_blossom nested 0 ≡ 129
unfolding nested node outer_blossom_within at put fresh
outermost = refl

outer_is_itself : outer_blossom nested 129 ≡ 129
unfolding nested node outer_blossom_within at put fresh
outer_is_itself = refl

second_outermost : second_outer_blossom nested 0 ≡ 128
unfolding nested node second_outer_within at put fresh
second_outermost = refl
