-- What is left of the way up gives what the whole way gives; after 257 steps and no known depth it is longer.
use Rattle.std.proofs.Common.{◌≡◌, ◌-◌, ◌≤◌, ◌<◌}
use Rattle.table.specs.Words.{table_of}
use Rattle.sound_walks.specs.Depths.{measured}
use Rattle.sound_walks.proofs.depths.measure.Given as goal

abbrev pub invariant-loop-count : goal.invariant-loop-count
invariant-loop-count l =
    (l.count ≤ 257 → measured (table_of l.t) l.deep (257 - l.count) l.here.0 l.count ≡ measured (table_of l.t) l.deep 257 l.fn.n.0 0)
    × (257 < l.count → 257 < measured (table_of l.t) l.deep 257 l.fn.n.0 0)
