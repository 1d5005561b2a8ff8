-- How the worked examples tell the number and the side that a request is given, and what a run reports.
use Rattle.refusal.specs.Refusal.{Verdict}
use Rattle.std.specs.Prelude.{◌≡◌, List, [], ℕ, length, take}
use Rattle.table.specs.Table.{Table}
use Rattle.table.specs.Making.{fresh}
use Rattle.record.specs.declared.request.Request.{Request}
use Rattle.rules.specs.Calls.{verdict, verdict_number, verdict_side}
use Rattle.rules.specs.Run.{Ran, unsound, ran, stop_number}
use Rattle.rules.specs.Script.{after}

-- ---- a request

-- the number that it is given, 0 or the refusal's, and the side
abbrev pub numbers : Verdict → ℕ × ℕ
numbers v = (verdict_number v, verdict_side v)

-- .. on a table, with so much room
unfoldable pub numbers_on : Table → ℕ → Request → ℕ × ℕ
numbers_on t room r = numbers (verdict r t room)

-- .. on the table of begin 128 after some others, with so much room
pub record Gives (room : ℕ) (rs : List Request) (r : Request) (number side : ℕ) : Type 0 where
  pub given : numbers (verdict r (after rs (fresh 128)) room) ≡ (number, side)

-- ---- a run

-- what it reports: the stop, the records handled, the bytes written, how much of the tape is left
pub record Report : Type 0 where
  pub stop : ℕ
  pub handled : ℕ
  pub written : ℕ
  pub unread : ℕ

unfoldable pub report : ℕ → ℕ → ℕ → ℕ → Report
report s h w u = record { stop = s; handled = h; written = w; unread = u }

-- .. of a table that is not sound 99, which is no stop's number
unfoldable pub reported : Ran → Report
reported unsound = report 99 0 0 0
reported (ran e) = report (stop_number e.stop) e.progress.handled e.progress.world.out.pos (length e.progress.rest)

-- the bytes that it has written
unfoldable pub bytes_of : Ran → List ℕ
bytes_of unsound = []
bytes_of (ran e) = take e.progress.world.out.pos e.progress.world.out.buf
