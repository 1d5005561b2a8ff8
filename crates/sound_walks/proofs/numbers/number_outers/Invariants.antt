-- What is left of the pass gives what the whole pass gives.
use Rattle.std.proofs.Common.{◌≡◌, ◌-◌, ◌≢◌}
use Rattle.table.specs.Words.{table_of}
use Rattle.sound_walks.specs.Numbers.{numbers_of, outers_numbered}
use Rattle.sound_walks.proofs.numbers.number_outers.Given as goal

abbrev pub invariant-loop-i : goal.invariant-loop-i
invariant-loop-i l =
    (outers_numbered (table_of l.t) (l.to - l.i) l.i (numbers_of l.s.lo l.s.hi l.k)
    ≡ outers_numbered (table_of l.t) (l.to - l.from) l.from (numbers_of l.fn.s.lo l.fn.s.hi 1))
    × (l.k ≢ 0)
