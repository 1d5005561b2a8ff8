-- "Before each record it stops, in this order": the tape is empty, the allowance used, the output too full, the record bad.
use Rattle.std.specs.Prelude.{List, ℕ, ◌-◌, length, eqb, ltb, Result, Ok, Err}
use Rattle.lists.specs.Choice.{pick}
use Rattle.record.specs.Reading as reading
use Rattle.record.specs.Reading.{Reading}
use Rattle.rules.specs.declared.stop.Stop.{Stop}
use Rattle.rules.specs.declared.stop.Stop.TheVariants as S
use Rattle.rules.specs.Run.{run_room}
use Rattle.tape.specs.declared.next.Next.{Next}

abbrev pub after_reading : Reading → ℕ → Result Next Stop
after_reading (Ok (r, size)) left = Ok (record { request = r; size = size; left = left - 1 })
after_reading (Err n) left = Err S.BadRecord

-- what comes next, with this rest of the tape, so many records allowed and so much room
unfoldable pub next_of : List ℕ → ℕ → ℕ → Result Next Stop
next_of rest left room =
    pick (eqb (length rest) 0)
    (Err S.TapeEmpty)
    (pick (eqb left 0) (Err S.AllowanceUsed) (pick (ltb room run_room) (Err S.OutputFull) (after_reading (reading.read rest) left)))
