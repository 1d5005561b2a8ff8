-- Climbing out of blossoms, through the parents of inner nodes. Every climb has a budget of steps.
use Rattle.std.specs.Prelude.{ℕ, zero, suc, Bool, ◌&&◌, ◌||◌, eqb}
use Rattle.lists.specs.Choice.{pick}
use Rattle.table.specs.Table.{Table, at}
use Rattle.table.specs.Nodes.{inner}

-- n is x, or the climb from n reaches x within so many steps
unfoldable pub inside_within : ℕ → Table → ℕ → ℕ → Bool
inside_within zero t x n = eqb n x
inside_within (suc k) t x n = let up = inside_within k t x (at t n).parent in eqb n x || (inner t n && up)

-- "A node is inside X if it is X, or climbing through the parents of inner nodes, at most 256 steps, reaches X."
abbrev pub inside : Table → ℕ → ℕ → Bool
inside t x n = inside_within 256 t x n

-- the first node of the climb from n that is not inner
unfoldable pub outer_blossom_within : ℕ → Table → ℕ → ℕ
outer_blossom_within zero t n = n
outer_blossom_within (suc k) t n = let up = outer_blossom_within k t (at t n).parent in pick (inner t n) up n

-- the last inner node of the climb from n; below is the node passed just before n
unfoldable pub second_outer_within : ℕ → Table → ℕ → ℕ → ℕ
second_outer_within zero t below n = below
second_outer_within (suc k) t below n = let up = second_outer_within k t n (at t n).parent in pick (inner t n) up below

-- `get_outer_blossom`: the outer node that n is inside
abbrev pub outer_blossom : Table → ℕ → ℕ
outer_blossom t n = outer_blossom_within 256 t n

-- `get_second_outer_blossom`: the ring node, of the outermost blossom, that n is inside
abbrev pub second_outer_blossom : Table → ℕ → ℕ
second_outer_blossom t n = second_outer_within 256 t n n
