-- The program's turns, one after another, give the answers of the tape in a row, and an end record 12 behind a bad one, whatever keeps the
-- turn's promise. The work is in the other files.
use mathlib.Core.Path.{◌≡◌}
use mathlib.Core.List.{List, [], ◌++◌, append-nil}
use Prim.Native.Nat.{ℕ, suc, ◌+◌, ◌*◌, ◌≤◌, ◌<◌}
use native.Mathlib.Omega.{arith}
use lib.Dec.{T}
use lib.ListN.{length}
use Rattle.std.specs.Prelude.{Ok}
use Rattle.table.specs.Words.{table_of}
use Rattle.table.specs.Making.{fresh, Made}
use Rattle.refusal.specs.declared.Side.TheVariants.{Neither}
use Rattle.refusal.specs.declared.Refusal.TheVariants.{BadRecord}
use Rattle.refusal.specs.Refusal.{number_of}
use Rattle.record.specs.declared.answer.Record.TheVariants as R
use Rattle.record.specs.Fields.{AllBytes}
use Rattle.record.specs.Records.{answer_bytes}
use Rattle.record.specs.Reading.{Bad}
use Rattle.record.specs.Writing.{bytes_of}
use Rattle.rules.specs.Sound.{sound}
use Rattle.rules.specs.Run.{Between, requests_of}
use Rattle.theorems_promises.specs.Tapes.{Holds, all_requests}
use Rattle.theorems_promises.specs.InARow.{in_arow}
use Rattle.theorems_promises.proofs.TapeEnd.{before_rest}
use Rattle.tape.specs.declared.turn.TurnEnd.TheVariants.{GoesOn}
use Rattle.theorems_promises.specs.Turns.{OneTurn, Turns, all_written, all_handled, how_many, last_end, last_words, last_rest, RestBy}
use Rattle.theorems_promises.specs.Written.{program_writes}
use Rattle.theorems_promises.proofs.RowsJoined.{four_each}
use Rattle.theorems_promises.proofs.OneTurn.{turn-left}
use Rattle.theorems_promises.proofs.AllTurns.{going, ending-by, nothing_behind, end-behind, all_read, in_one, fresh-left}

-- a turn that goes on handles at least one record
pub goes_on_handles : (words tape : List ℕ) (t : OneTurn words tape) → T (sound (table_of words)) → t.told.end ≡ GoesOn → 0 < t.told.handled
goes_on_handles words tape t s e = (going words tape _ _ _ _ _ e (turn-left words tape t s)).over

-- so turns come to an end, whoever takes them
pub turns_end : (take-turn : (words tape : List ℕ) → OneTurn words tape) (words tape : List ℕ) → T (sound (table_of words)) → Turns words tape
turns_end take-turn words tape s = ending-by take-turn (suc (length tape)) words tape (omega arith) s

-- turns on a table that was made, with any begin that making accepts; the program's is 128 (`usual_begin`)
module _ (begin : ℕ) (before words tape : List ℕ) (made : Made before begin (Ok 0) words) (ts : Turns words tape) where
  -- the last turn read the tape to its end, and the rest is empty; or it stopped at a bad record, with which the rest begins
  pub read_or_bad : RestBy (last_end ts) (last_rest ts)
  read_or_bad = (fresh-left begin before words tape made ts).over

  -- where the rest is empty, the bytes written by all turns, put together, are the answers of the requests in a row and nothing else
  pub whole_tape : last_rest ts ≡ [] → all_written ts ≡ bytes_of (in_arow (requests_of (all_handled ts) tape) (fresh begin)).said
  whole_tape e = rw ((fresh-left begin before words tape made ts).bytes, nothing_behind (last_end ts) (last_rest ts) read_or_bad e, append-nil)

  -- where it is not, it is bad, and behind those answers stands an end record 12
  pub bad-tape :
      (last_rest ts ≡ [] → ⊥)
      → (all_written ts ≡ bytes_of (in_arow (requests_of (all_handled ts) tape) (fresh begin)).said ++ answer_bytes (R.End (number_of BadRecord) Neither)) × Bad (last_rest ts)
  bad-tape n = let e = end-behind (last_end ts) (last_rest ts) read_or_bad n in (rw ((fresh-left begin before words tape made ts).bytes, e.0), e.1)

  -- the table that they leave
  pub table_left : table_of (last_words ts) ≡ (in_arow (requests_of (all_handled ts) tape) (fresh begin)).table
  table_left = (fresh-left begin before words tape made ts).table

  -- as many records as they handled stand between the tape's start and the rest
  pub records_handled : Between (all_handled ts) tape (last_rest ts)
  records_handled = (fresh-left begin before words tape made ts).between

  -- each turn but the last handles at least one
  pub few_turns : how_many ts ≤ all_handled ts + 1
  few_turns = (fresh-left begin before words tape made ts).few

  -- the requests of those records are all requests of the tape
  pub every_request : requests_of (all_handled ts) tape ≡ all_requests tape
  every_request = all_read (all_handled ts) tape (last_rest ts) (last_end ts) records_handled read_or_bad

  -- what is written, in one formula
  pub written_in_all : all_written ts ≡ program_writes begin tape
  written_in_all = in_one begin (all_handled ts) tape (last_rest ts) (all_written ts) (last_end ts) records_handled read_or_bad (fresh-left begin before words tape made ts).bytes

  -- 65,536 bytes take at most 16,385 turns
  pub few_turns_by_bytes : 4 * how_many ts ≤ length tape + 4
  few_turns_by_bytes = omega (arith, few_turns, four_each (all_handled ts) tape (last_rest ts) records_handled)

  -- a tape of bytes is the records handled, each exact or padded, and the rest
  pub tape_parts : AllBytes tape → Holds (requests_of (all_handled ts) tape) tape (last_rest ts)
  tape_parts bytes = before_rest (all_handled ts) tape (last_rest ts) bytes records_handled
