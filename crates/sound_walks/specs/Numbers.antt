-- Numbers for what is inside blossoms, given from each outer blossom down, its ring walked once: a defect gets the next number, a
-- blossom has a stretch, which begins with the next number and ends before the one that is next when its ring is done. That the
-- rings are those of S6, and the numbers of a stretch those of the defects inside, is proved in the crate `sound`.
use Rattle.std.specs.Prelude.{ℕ, zero, suc, ◌+◌, ◌%◌, ◌^◌, Bool, ◌&&◌, List, ◌==◌, nat_le, slice_index, slice_set}
use Rattle.lists.specs.Choice.{pick}
use Rattle.table.specs.Table.{Table, at}
use Rattle.table.specs.Nodes.{is_blossom, outer}
use Rattle.rules.specs.Slots.{next}
use Rattle.rules.specs.Sound.{is_inner_child}

-- for each slot its number or the first of its stretch, 0 where it has none; where its stretch ends; and the next number
pub record Numbers : Type 0 where
  pub lo : List ℕ
  pub hi : List ℕ
  pub free : ℕ

abbrev pub numbers_of : List ℕ → List ℕ → ℕ → Numbers
numbers_of l h k = record { lo = l; hi = h; free = k }

-- a defect's number, in 16 bits
abbrev pub counted : ℕ → Numbers → Numbers
counted n w = numbers_of (slice_set w.lo n w.free) w.hi ((w.free + 1) % 2 ^ 16)

-- where a blossom's stretch begins, and where it ends
abbrev pub begun : ℕ → Numbers → Numbers
begun n w = numbers_of (slice_set w.lo n w.free) w.hi w.free

abbrev pub ended : ℕ → Numbers → Numbers
ended n w = numbers_of w.lo (slice_set w.hi n w.free) w.free

-- n is a node of b's ring that has no number yet
abbrev pub is_next : Table → List ℕ → ℕ → ℕ → Bool
is_next t l b n = is_inner_child t b n && slice_index l n == 0

-- a blossom and what is inside it; `ring` numbers its ring
unfoldable pub blossom_by : (ℕ → ℕ → Numbers → Numbers) → Table → ℕ → Numbers → Numbers
blossom_by ring t n w = ended n (ring n (at t n).ring (begun n w))

-- a node and what is inside it
unfoldable pub node_by : (ℕ → ℕ → Numbers → Numbers) → Table → ℕ → Numbers → Numbers
node_by ring t n w =
    let stretch = blossom_by ring t n w in
    let number = counted n w in
    pick (is_blossom t n) stretch number

-- "odd, at least 3"
abbrev pub is_odd_ring : ℕ → Bool
is_odd_ring c = c % 2 == 1 && nat_le 3 c

-- 0 is no number: a ring that is none leaves it as the next one
abbrev pub broken : Numbers → Numbers
broken w = numbers_of w.lo w.hi 0

-- back at the first node, after c of them
abbrev pub closed : ℕ → Numbers → Numbers
closed c w = numbers_of w.lo w.hi (pick (is_odd_ring c) w.free 0)

-- after n, the c-th node: the end, or the rest of the ring
abbrev pub onward : Table → ℕ → ℕ → ℕ → Numbers → Numbers → Numbers
onward t first n c v rest = pick (v.free == 0) v (pick (next t n == first) (closed c v) rest)

-- the ring of b from n on, where c nodes were before, and back to the first (S6); k bounds the calls, and each enters a node
unfoldable pub ring_from : ℕ → Table → ℕ → ℕ → ℕ → ℕ → Numbers → Numbers
ring_from zero t b first n c w = broken w
ring_from (suc k) t b first n c w =
    let v = node_by (λ a f. ring_from k t a f f 0) t n w in
    let more = onward t first n (c + 1) v (ring_from k t b first (next t n) (c + 1) v) in
    pick (is_next t w.lo b n) more (broken w)

abbrev pub ring_numbered : ℕ → Table → ℕ → ℕ → Numbers → Numbers
ring_numbered k t b first w = ring_from k t b first first 0 w

abbrev pub blossom_numbered : ℕ → Table → ℕ → Numbers → Numbers
blossom_numbered k t n w = blossom_by (ring_numbered k t) t n w

abbrev pub node_numbered : ℕ → Table → ℕ → Numbers → Numbers
node_numbered k t n w = node_by (ring_numbered k t) t n w

-- an outer blossom; there can be 256 nodes in each of 256 rings, one inside the other
unfoldable pub outer_numbered : Table → ℕ → Numbers → Numbers
outer_numbered t i w = let stretch = blossom_numbered 65536 t i w in pick (outer t i) stretch w

-- the outer ones of k slots, from i on, up to one with a ring that is none
unfoldable pub outers_numbered : Table → ℕ → ℕ → Numbers → Numbers
outers_numbered t zero i w = w
outers_numbered t (suc k) i w =
    let v = outer_numbered t i w in
    let rest = outers_numbered t k (suc i) v in
    pick (v.free == 0) v rest
