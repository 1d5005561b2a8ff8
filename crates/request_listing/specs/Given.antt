-- What the slots given out list: the defects below `count_defects`, and `count_blossoms` blossoms from begin on.
use Rattle.std.specs.Prelude.{◌-◌, List, ◌++◌}
use Rattle.table.specs.Table.{Table}
use Rattle.table.specs.Counts.{blossom_end}
use Rattle.record.specs.declared.answer.Record.{Record}
use Rattle.rules.specs.Listing.{slots_listed}

unfoldable pub given_listed : Table → List Record
given_listed t = slots_listed t.defects 0 t ++ slots_listed (blossom_end t - t.begin) t.begin t
