-- What the code asks after a walk along a child list or a ring, with the marks that the walk left. That it is S5 and S6 is proved in
-- proofs/.
use Rattle.std.specs.Prelude.{ℕ, Bool, ◌&&◌, List}
use Rattle.table.specs.Table.{Table, at}
use Rattle.table.specs.Nodes.{is_blossom, present, inner}
use Rattle.table.specs.Marks.{marked}
use Rattle.rules.specs.Slots.{is_none, is_some, is_full, next}
use Rattle.rules.specs.Sound.{◌⇒◌, is_outer_child, is_inner_child, ring_holds}

-- a node that names n as its parent is marked
abbrev pub child_listed : Table → List ℕ → ℕ → ℕ → Bool
child_listed t l n j = is_outer_child t n j ⇒ marked l j

abbrev pub ring_listed : Table → List ℕ → ℕ → ℕ → Bool
ring_listed t l b j = is_inner_child t b j ⇒ marked l j

-- b's ring goes on from this node of it
abbrev pub is_ring_node : Table → ℕ → ℕ → Bool
is_ring_node t b n = is_some (next t n) && is_inner_child t b n

-- the two sentences of S6, each where it is judged: a ring at its blossom, and
unfoldable pub ring_fits : Table → ℕ → Bool
ring_fits t n = (is_blossom t n && present t n) ⇒ ring_holds t n

-- "Inner nodes have full links and no child."
abbrev pub inner_fits : Table → ℕ → Bool
inner_fits t n = inner t n ⇒ (is_full (at t n).link && is_none (at t n).first_child)
