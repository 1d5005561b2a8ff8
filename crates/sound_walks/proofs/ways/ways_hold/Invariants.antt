-- What is left of the pass gives what the whole pass gives.
use Rattle.std.proofs.Common.{◌≡◌, ◌-◌}
use Rattle.table.specs.Words.{table_of}
use Rattle.sound_walks.specs.Marks.{sweep}
use Rattle.sound_walks.specs.Depths.{way_step}
use Rattle.sound_walks.proofs.ways.ways_hold.Given as goal

abbrev pub invariant-loop-i : goal.invariant-loop-i
invariant-loop-i l =
    sweep (way_step (table_of l.t) l.listed) (l.to - l.i) l.i l.deep
    ≡ sweep (way_step (table_of l.t) l.listed) (l.to - l.from) l.from l.fn.deep
