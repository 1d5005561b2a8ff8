-- What the judges read of a named node.
use Rattle.std.specs.Prelude.{ℕ, Bool, not, ◌&&◌, ◌||◌, eqb, leb}
use Rattle.lists.specs.Choice.{pick}
use Rattle.slot.specs.declared.state.State.{State}
use Rattle.slot.specs.declared.state.State.TheVariants as S
use Rattle.table.specs.Table.{Table}
use Rattle.table.specs.Nodes.{is_defect}
use Rattle.table.specs.Climb.{outer_blossom}
use Rattle.rules.specs.Slots.{is_grow, is_shrink}
use Rattle.rules.specs.Trees.{seen}

-- the state that the checks read; of no slot, Empty
abbrev pub seen_state : Table → ℕ → State
seen_state t n = pick (leb 256 n) S.Empty (seen t n).state

-- 7 of two states: one is −, or none is Grow
abbrev pub none_growing : State → State → Bool
none_growing s u = is_shrink s || is_shrink u || not (is_grow s || is_grow u)

-- the touch is no defect, or n is not the outer node that it is inside: of an outer node n, that the touch is outside of it
unfoldable pub elsewhere : Table → ℕ → ℕ → Bool
elsewhere t n touch = not (is_defect t touch && (eqb touch n || eqb (outer_blossom t touch) n))
