-- "For each node it names, a request concerns that node alone if it is free, newly loaded or matched to a virtual vertex;
-- otherwise its whole pair or whole tree."
use Rattle.std.specs.Prelude.{ℕ, Bool, false, ◌&&◌, ◌||◌, List, [], ◌∷◌, eqb}
use Rattle.slot.specs.State.{is_outer}
use Rattle.table.specs.Table.{Table}
use Rattle.record.specs.declared.request.Request.{Request}
use Rattle.record.specs.declared.request.Request.TheVariants as Q
use Rattle.table.specs.declared.place.Place.{Place}
use Rattle.table.specs.declared.place.Place.TheVariants.{Free, Paired, Virtual, Tree}
use Rattle.table.specs.Place.{place, in_tree}
use Rattle.rules.specs.Trees.{seen, same_tree}
use Rattle.rules.specs.Refusals.{makes_blossom}

-- the nodes that a request names
abbrev pub named : Request → List ℕ
named (Q.Conflict c) = c.node_1.0 ∷ c.node_2.0 ∷ []
named (Q.VirtualConflict c) = c.node.0 ∷ []
named (Q.Expansion e) = e.node.0 ∷ []
named Q.Reset = []
named Q.List = []

-- whether m is concerned where n, which is at this place, is named
abbrev pub concerned_at : Place → Table → ℕ → ℕ → Bool
concerned_at Free t n m = eqb m n
concerned_at (Paired peer) t n m = eqb m n || eqb m peer.0
concerned_at Virtual t n m = eqb m n
concerned_at Tree t n m = is_outer (seen t m).state && in_tree (seen t m) && same_tree t n m

unfoldable pub concerned_of : List ℕ → Table → ℕ → Bool
concerned_of [] t m = false
concerned_of (n ∷ ns) t m = concerned_at (place (seen t n)) t n m || concerned_of ns t m

-- whether the request concerns the node m
abbrev pub concerns : Request → Table → ℕ → Bool
concerns r t m = concerned_of (named r) t m

-- whether the request, if accepted, makes a blossom
abbrev pub is_making : Request → Table → Bool
is_making (Q.Conflict c) t = makes_blossom t c.node_1.0 c.node_2.0
is_making (Q.VirtualConflict c) t = false
is_making (Q.Expansion e) t = false
is_making Q.Reset t = false
is_making Q.List t = false
