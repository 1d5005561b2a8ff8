-- A run: a tape of records, handled one after another.
use Rattle.std.specs.Prelude.{◌≡◌, ℕ, zero, suc, ◌+◌, ◌-◌, List, [], ◌∷◌, ◌++◌, eqb, ltb, length, drop, Ok, Err}
use Rattle.lists.specs.Choice.{pick}
use Rattle.record.specs.declared.request.Request.{Request}
use Rattle.record.specs.Reading as reading
use Rattle.record.specs.Reading.{Reading}
use Rattle.record.specs.Writing.{write_all}
use Rattle.rules.specs.declared.stop.Stop.{Stop}
use Rattle.rules.specs.declared.stop.Stop.TheVariants as S
use Rattle.rules.specs.Act.{World}
use Rattle.rules.specs.Sound.{sound}
use Rattle.rules.specs.Calls.{answered, verdict, end_record}

-- "it stops, in this order: tape empty (0), allowance used up (1), output below [..] bytes (2), bad record (3)"
abbrev pub stop_number : Stop → ℕ
stop_number S.TapeEmpty = 0
stop_number S.AllowanceUsed = 1
stop_number S.OutputFull = 2
stop_number S.BadRecord = 3

-- ticket 1: "The run now stops for room below 4,104 bytes", 4,096 for commands and 8 for the end record
abbrev pub run_room : ℕ
run_room = 4104

-- where a run stands: table and output, "the unread rest of the caller's tape", "how many records it handled"
pub record Progress : Type 0 where
  pub world : World
  pub rest : List ℕ
  pub handled : ℕ

pub record Ended : Type 0 where
  pub stop : Stop
  pub progress : Progress

abbrev pub room : World → ℕ
room w = length w.out.buf - w.out.pos

-- a request on the table, its records and then its end record: "A refused request yields only its end record and the run goes on."
unfoldable pub served : Request → World → World
served r w =
    let d = answered r (room w) w.table in
    let end = end_record (verdict r w.table (room w)) in
    record { table = d.table; out = write_all w.out (d.said ++ end ∷ []) }

abbrev pub stopped : Stop → Progress → Ended
stopped s p = record { stop = s; progress = p }

-- one record handled, of so many bytes
abbrev pub advanced : Request → ℕ → Progress → Progress
advanced r size p = record { world = served r p.world; rest = drop size p.rest; handled = p.handled + 1 }

-- what a reading leads to: go on, or stop at a bad record
abbrev pub go_on : (Progress → Ended) → Reading → Progress → Ended
go_on more (Ok (r, size)) p = more (advanced r size p)
go_on more (Err n) p = stopped S.BadRecord p

-- "Before each record it stops, in this order"; the allowance goes down by one a record
unfoldable pub run_from : ℕ → Progress → Ended
run_from zero p = pick (eqb (length p.rest) 0) (stopped S.TapeEmpty p) (stopped S.AllowanceUsed p)
run_from (suc k) p =
    let next = go_on (run_from k) (reading.read p.rest) p in
    pick (eqb (length p.rest) 0) (stopped S.TapeEmpty p) (pick (ltb (room p.world) run_room) (stopped S.OutputFull p) next)

-- so many records stand between the tape's start and the rest
abbrev pub Between : ℕ → List ℕ → List ℕ → Type 0
Between zero tape rest = tape ≡ rest
Between (suc n) tape rest = (q : Request) × (size : ℕ) × (reading.read tape ≡ Ok (q, size)) × Between n (drop size tape) rest

-- the request that a reading found, and what follows behind its record; a bad record ends the list
abbrev pub request_and : (List ℕ → List Request) → Reading → List ℕ → List Request
request_and more (Ok (q, size)) tape = q ∷ more (drop size tape)
request_and more (Err n) tape = []

-- the requests of a tape's first so many records
unfoldable pub requests_of : ℕ → List ℕ → List Request
requests_of zero tape = []
requests_of (suc n) tape = request_and (requests_of n) (reading.read tape) tape

-- what follows behind the record that a reading found, its padding too; a bad record stays
abbrev pub behind_and : (List ℕ → List ℕ) → Reading → List ℕ → List ℕ
behind_and more (Ok (q, size)) tape = more (drop size tape)
behind_and more (Err n) tape = tape

-- what stands behind a tape's first so many records
unfoldable pub behind_of : ℕ → List ℕ → List ℕ
behind_of zero tape = tape
behind_of (suc n) tape = behind_and (behind_of n) (reading.read tape) tape

-- "On an unsound table: refusal 1 before any stop, nothing handled."
pub data Ran : Type 0 where
  unsound : Ran
  ran : Ended → Ran

abbrev pub began : World → List ℕ → Progress
began w tape = record { world = w; rest = tape; handled = 0 }

unfoldable pub run_tape : ℕ → World → List ℕ → Ran
run_tape allowance w tape = let e = ran (run_from allowance (began w tape)) in pick (sound w.table) e unsound
