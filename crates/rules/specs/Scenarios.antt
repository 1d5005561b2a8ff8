-- The scenarios of more than one worked example: a table as made, and requests that come before the one that is looked at.
use Rattle.std.specs.Prelude.{ℕ, List, [], ◌∷◌}
use Rattle.table.specs.Table.{Table}
use Rattle.table.specs.Making.{fresh}
use Rattle.record.specs.declared.request.Request.{Request}
use Rattle.rules.specs.Script.{meet, join, border}

-- every slot empty, 128 of them for defects
unfoldable pub start : Table
start = fresh 128

-- a tree with two branches at the root and two below
unfoldable pub branches : List Request
branches = join 0 1 ∷ join 2 3 ∷ join 4 0 ∷ join 4 2 ∷ join 6 7 ∷ join 8 9 ∷ join 1 6 ∷ join 1 8 ∷ []

-- a blossom is made: both paths and a meeting node that is no root have children off the paths
unfoldable pub bushy : List Request
bushy =
    join 0 1 ∷ join 4 0 ∷ join 2 3 ∷ join 6 7 ∷ join 8 9 ∷ join 10 11 ∷ join 12 13 ∷ join 14 15
    ∷ join 1 2 ∷ join 1 6 ∷ join 1 8 ∷ join 3 10 ∷ join 7 12 ∷ join 3 14 ∷ join 3 7 ∷ []

-- a ring of five, 1, 6, 7, 3, 2, in a − blossom that stands second in its parent's list; its parent touches p, its child c
unfoldable pub ring_of_five : ℕ → ℕ → List Request
ring_of_five p c =
    join 2 3 ∷ join 6 7 ∷ join 1 2 ∷ join 1 6 ∷ join 3 7 ∷ meet 128 20 c 20 30 31 ∷ join 22 23 ∷ meet 21 128 21 p 32 33 ∷ join 21 22 ∷ []

-- 128 is a ring of 2, 0, 1; 129 one of 128, 3, 4
unfoldable pub nested : List Request
nested = join 0 1 ∷ join 2 0 ∷ join 2 1 ∷ join 3 4 ∷ meet 128 3 1 3 11 13 ∷ meet 128 4 2 4 12 14 ∷ []

-- trees 2, 0, 1 and 5, 3, 4, the pair 6, 7, node 8 matched to a virtual vertex and the free blossom 128 of 12, 10, 11
unfoldable pub mixture : List Request
mixture = join 0 1 ∷ join 2 0 ∷ join 3 4 ∷ join 5 3 ∷ join 6 7 ∷ border 8 8 18 99 ∷ join 10 11 ∷ join 12 10 ∷ join 12 11 ∷ []
