-- "The program has begin 128, reads at most 65,536 bytes, ends a bad tape by an end record 12."
use Rattle.std.specs.Prelude.{◌≡◌, List, [], ◌∷◌, ℕ, length}
use Rattle.refusal.specs.declared.Refusal.TheVariants.{BadRecord}
use Rattle.refusal.specs.declared.Side.TheVariants.{Neither}
use Rattle.refusal.specs.Refusal.{number_of}
use Rattle.record.specs.declared.answer.Record.{Record}
use Rattle.record.specs.declared.answer.Record.TheVariants as R
use Rattle.record.specs.Writing.{write_all}
use Rattle.rules.specs.Act.{World, world_of}
use Rattle.rules.specs.declared.stop.Stop.{Stop}
use Rattle.rules.specs.declared.stop.Stop.TheVariants as S
use Rattle.rules.specs.Run.{Ran, unsound, ran, run_tape}
use Rattle.tape.specs.declared.turn.TurnEnd.{TurnEnd}
use Rattle.tape.specs.declared.turn.TurnEnd.TheVariants.{TapeRead, GoesOn, BadTape, NotSound}
use Rattle.tape.specs.declared.turn.Turn.{Turn}

-- "begin 128", where no other is asked for
abbrev pub usual_begin : ℕ
usual_begin = 128

-- "reads at most 65,536 bytes"
abbrev pub most_bytes : ℕ
most_bytes = 65536

-- the records that a turn may handle: no tape that is read has more
abbrev pub allowance : ℕ
allowance = most_bytes

-- A turn is a run of the tape. What it stops for says how the program goes on: for room or for the allowance, with fresh room, until
-- the tape is empty or bad.
abbrev pub end_of : Stop → TurnEnd
end_of S.TapeEmpty = TapeRead
end_of S.AllowanceUsed = GoesOn
end_of S.OutputFull = GoesOn
end_of S.BadRecord = BadTape

-- "ends a bad tape by an end record 12"
abbrev pub last_records : TurnEnd → List Record
last_records TapeRead = []
last_records GoesOn = []
last_records BadTape = R.End (number_of BadRecord) Neither ∷ []
last_records NotSound = []

-- those records written behind the answers
abbrev pub closed : TurnEnd → World → World
closed e w = record { table = w.table; out = write_all w.out (last_records e) }

-- the words and bytes before a turn and its tape, what it tells, the words and bytes after it. On a table that is not sound nothing is
-- done; otherwise the run's records are handled, and the unread rest is told by its length.
abbrev pub TurnOf : Ran → List ℕ → List ℕ → List ℕ → Turn → List ℕ → List ℕ → Type 0
TurnOf unsound words bytes tape r words' bytes' =
    (r ≡ record { end = NotSound; handled = 0; written = 0; unread = length tape }) × (words' ≡ words) × (bytes' ≡ bytes)
TurnOf (ran e) words bytes tape r words' bytes' =
    (r.end ≡ end_of e.stop)
    × (r.handled ≡ e.progress.handled)
    × (r.unread ≡ length e.progress.rest)
    × (world_of words' bytes' r.written ≡ closed (end_of e.stop) e.progress.world)

abbrev pub TakesTurn : List ℕ → List ℕ → List ℕ → Turn → List ℕ → List ℕ → Type 0
TakesTurn words bytes tape = TurnOf (run_tape allowance (world_of words bytes 0) tape) words bytes tape
