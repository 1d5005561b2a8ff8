-- Making a blossom.
use Rattle.std.specs.Prelude.{ℕ, zero, suc, ◌+◌, Bool, ◌||◌, eqb, leb}
use Rattle.slot.specs.declared.state.State.TheVariants as S
use Rattle.slot.specs.Number.{none}
use Rattle.slot.specs.Slot.{Link, Slot, mirror}
use Rattle.table.specs.Table.{Table, at, put}
use Rattle.table.specs.Counts.{with_blossoms}
use Rattle.rules.specs.Act.{Act, say, change, ◌then◌, choose, alter, same, create}
use Rattle.rules.specs.Slots.{with_parent, with_first_child, with_sibling, shaped, is_none, up, next}

-- 8: "a blossom is to be made and begin + `count_blossoms` = 256"; S1 allows no more
abbrev pub lacks_blossom_slot : Table → Bool
lacks_blossom_slot t = leb 256 (t.begin + t.blossoms)

-- ---- the place in a child list

-- in the list from n on, where `from` is next, `to` becomes it
unfoldable pub relinked : ℕ → ℕ → ℕ → ℕ → Table → Table
relinked zero n from to t = t
relinked (suc k) n from to t =
    choose (is_none n) same (choose (eqb (next t n) from) (alter n (with_sibling to)) (relinked k (next t n) from to)) t

-- in p's child list `from` gives its place to `to`
unfoldable pub relisted : ℕ → ℕ → ℕ → Table → Table
relisted p from to t =
    choose (eqb (at t p).first_child from) (alter p (with_first_child to)) (relinked 256 (at t p).first_child from to) t

-- .. and `to` goes on where `from` went on
unfoldable pub replace_child : ℕ → ℕ → ℕ → Table → Table
replace_child p from to t = let u = relisted p from to t in alter to (with_sibling (next u from)) u

-- ---- the children off the two paths

-- c goes to the front of b's child list
unfoldable pub adopted : ℕ → ℕ → Table → Table
adopted b c t = alter c (λ s. with_sibling (at t b).first_child (with_parent b s)) (alter b (with_first_child c) t)

-- the list from c on "move[s] to the front of its list one by one", but for x and y, which are on a path
unfoldable pub moved : ℕ → ℕ → ℕ → ℕ → ℕ → Table → Table
moved zero b x y c t = t
moved (suc k) b x y c t =
    choose (is_none c) same (λ u. moved k b x y (next u c) (choose (eqb c x || eqb c y) same (adopted b c) u)) t

-- from the path of n up to the meeting node m (not with it); below is the node passed just before n
unfoldable pub moved_up_to : ℕ → ℕ → ℕ → ℕ → ℕ → Table → Table
moved_up_to zero b m below n t = t
moved_up_to (suc k) b m below n t =
    choose (eqb n m) same (λ u. moved_up_to k b m n (up u n) (moved 256 b below below (at u n).first_child u)) t

-- the last node before m on the way up from n; n itself where that is m
unfoldable pub last_below : ℕ → ℕ → ℕ → ℕ → Table → ℕ
last_below zero m below n t = below
last_below (suc k) m below n t = choose (eqb n m) (λ u. below) (λ u. last_below k m n (up u n) u) t

-- "Children off the two paths move [..]: from node_1's path upward, then node_2's, then the meeting node."
unfoldable pub gathered : ℕ → ℕ → ℕ → ℕ → Table → Table
gathered b m x y t =
    let after-x = moved_up_to 256 b m x x t in
    let after-y = moved_up_to 256 b m y y after-x in
    moved 256 b (last_below 256 m x x t) (last_below 256 m y y t) (at after-y m).first_child after-y

-- ---- the ring

-- n inside b: without a state and without a child, with this next node in the ring and this link
abbrev pub enclosed : ℕ → ℕ → Link → Slot → Slot
enclosed b after l s = shaped S.Inner b none after l s

-- node_1's side: each goes on to its parent, up to the meeting node, by its own link
unfoldable pub ring_up : ℕ → ℕ → ℕ → ℕ → Table → Table
ring_up zero b m n t = t
ring_up (suc k) b m n t = choose (eqb n m) same (λ u. ring_up k b m (up u n) (alter n (enclosed b (up u n) (at u n).link) u)) t

-- node_2's side and the meeting node: each goes on to the node passed just before, by that node's link turned round
unfoldable pub ring_down : ℕ → ℕ → ℕ → ℕ → Link → ℕ → Table → Table
ring_down zero b m after l n t = t
ring_down (suc k) b m after l n t =
    choose (eqb n m) (alter n (enclosed b after (mirror l)))
    (λ u. ring_down k b m n (at u n).link (up u n) (alter n (enclosed b after (mirror l)) u)) t

-- "The ring runs meeting node, down to node_2, node_1, and up again; links on node_2's side are turned round, node_2's link being the conflict's."
unfoldable pub ringed : ℕ → ℕ → ℕ → ℕ → Link → Table → Table
ringed b m x y l t = ring_down 256 b m x l y (ring_up 256 b m x t)

-- ---- the blossom

-- "Grow, and the meeting node's parent, list place and link"; its ring begins at the meeting node
abbrev pub new_blossom : ℕ → Slot → Slot
new_blossom m s = record { state = S.Grow; parent = s.parent; first_child = none; sibling = s.sibling; ring = m; link = s.link }

unfoldable pub blossom_placed : ℕ → ℕ → Table → Table
blossom_placed b m t = choose (is_none (up t m)) same (replace_child (up t m) m b) (put t b (new_blossom m (at t m)))

-- the blossom b of x and y, which meet at m, joined by l as x sees it; so many blossoms are then given out
unfoldable pub create_blossom : ℕ → ℕ → ℕ → ℕ → ℕ → Link → Act
create_blossom b given m x y l =
    change (λ t. with_blossoms t given)
    then change (blossom_placed b m)
    then change (gathered b m x y)
    then change (ringed b m x y l)
    then say (create b)
