-- A call of a ring enters a node, and so has one step less; a node enters a blossom, and that its ring, with as many.
use Rattle.std.proofs.Common.{◌≡◌, ◌+◌, ◌*◌, ◌-◌}
use Rattle.table.specs.Words.{table_of}
use Rattle.sound_walks.specs.Numbers.{numbers_of, ring_from, ring_numbered}
use Rattle.sound_walks.proofs.numbers.+number_blossom_number_node_number_ring.Given as goal

abbrev pub decreases-number_blossom : goal.decreases-number_blossom
decreases-number_blossom l = 3 * l.left + 1

abbrev pub decreases-number_node : goal.decreases-number_node
decreases-number_node l = 3 * l.left + 2

abbrev pub decreases-number_ring : goal.decreases-number_ring
decreases-number_ring l = 3 * l.budget

-- what is left of the ring gives what the whole ring gives
abbrev pub invariant-number_ring-loop-count : goal.invariant-number_ring-loop-count
invariant-number_ring-loop-count l =
    ring_from (l.budget - l.count) (table_of l.t) l.b.0 l.first.0 l.here.0 l.count (numbers_of l.s.lo l.s.hi l.next)
    ≡ ring_numbered l.budget (table_of l.t) l.b.0 l.first.0 (numbers_of l.fn.s.lo l.fn.s.hi l.k)
