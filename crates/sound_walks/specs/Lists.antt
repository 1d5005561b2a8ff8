-- What the code does for S5 at one slot: the walk along its child list. That it gives the rule is proved in proofs/.
use Rattle.std.specs.Prelude.{ℕ, not, List, ◌==◌}
use Rattle.slot.specs.Number.{none}
use Rattle.table.specs.Table.{Table, at}
use Rattle.rules.specs.Slots.{next}
use Rattle.rules.specs.Sound.{is_outer_child}
use Rattle.sound_walks.specs.Marks.{Walked, marking, Judged, judged_of}

abbrev pub list_ended : Walked → Judged
list_ended w = judged_of (not (w.count == none)) w.seen

unfoldable pub list_step : Table → ℕ → List ℕ → Judged
list_step t i l = list_ended (marking 256 (next t) (is_outer_child t i) (at t i).first_child 0 l)
