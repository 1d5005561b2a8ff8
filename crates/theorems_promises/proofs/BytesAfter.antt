-- The bytes after a call are the records that it says, one after another, and behind them the bytes as they were, whatever keeps the
-- call's promise.
use mathlib.Core.Path.{◌≡◌}
use mathlib.Core.List.{List, ◌++◌}
use Prim.Native.Nat.{ℕ, ◌≤◌}
use lib.ListN.{length, drop}
use Rattle.std.specs.Prelude.{Ok, Err}
use Rattle.table.specs.Words.{table_of}
use Rattle.refusal.specs.declared.Side.{Side}
use Rattle.refusal.specs.declared.Refusal.{Refusal}
use Rattle.refusal.specs.Refusal.{Answer, at_side, answer_written}
use Rattle.record.specs.declared.request.Request.{Request}
use Rattle.record.specs.Fields.{AllBytes}
use Rattle.record.specs.Writing.{bytes_of}
use Rattle.rules.specs.Calls.{act_of, verdict, answered}
use Rattle.rules.specs.Run.{requests_of}
use Rattle.rules.proofs.TapeRequests.{as_many}
use Rattle.outcome.specs.Call.{Call}
use Rattle.outcome.specs.Tape.{Tape}
use Rattle.theorems_promises.specs.Tapes.{Holds}
use Rattle.theorems_promises.specs.InARow.{in_arow}
use Rattle.theorems_promises.proofs.RunCounts.{counts_records}
use Rattle.theorems_promises.proofs.TapeEnd.{before_rest}
use Rattle.theorems_promises.proofs.BytesLeft.{accepted-left, refused_left, call_fits, call_left, run_left}

-- ---- each request, on any words

module _ (q : Request) (words bytes : List ℕ) (r : Answer) (words' bytes' : List ℕ) (h : Call q words bytes r words' bytes') where
  -- accepted: its records stand first, Done gives the number of their bytes, "later bytes stay"
  pub accepted-bytes :
      verdict q (table_of words) (length bytes) ≡ Ok tt
      → let answers = bytes_of (act_of q (table_of words)).said in
      (r ≡ Ok (length answers)) × (bytes' ≡ answers ++ drop (length answers) bytes)
  accepted-bytes e = accepted-left q words bytes r words' bytes' e h

  -- refused: "Each refusal returns its number and the table as given, loads nothing, writes nothing."
  pub refused_bytes : (n : Refusal) (s : Side) → verdict q (table_of words) (length bytes) ≡ Err (at_side n s) → (r ≡ Err (at_side n s)) × (words' ≡ words) × (bytes' ≡ bytes)
  refused_bytes n s e = refused_left q words bytes r words' bytes' n s e h

  -- both in one: a refused request says nothing
  pub call-bytes :
      let answers = bytes_of (answered q (length bytes) (table_of words)).said in
      (answer_written r ≡ length answers) × (bytes' ≡ answers ++ drop (length answers) bytes)
  call-bytes = call_left q words bytes r words' bytes' h

-- and there is room for them
pub answers_fit : (q : Request) (words bytes : List ℕ) → length (bytes_of (answered q (length bytes) (table_of words)).said) ≤ length bytes
answers_fit = call_fits

-- ---- a run of any tape, on any words

module _ (allowance : ℕ) (words bytes tape : List ℕ) (stop refusal handled written : ℕ) (rest words' bytes' : List ℕ)
    (h : Tape allowance words bytes tape stop refusal handled written rest words' bytes') where
  -- the answers of the requests handled, in a row
  pub run-bytes :
      let answers = bytes_of (in_arow (requests_of handled tape) (table_of words)).said in
      (written ≡ length answers) × (bytes' ≡ answers ++ drop (length answers) bytes)
  run-bytes = (run_left words bytes tape stop refusal handled written rest words' bytes' allowance h).bytes_left

  pub run_fits : length (bytes_of (in_arow (requests_of handled tape) (table_of words)).said) ≤ length bytes
  run_fits = (run_left words bytes tape stop refusal handled written rest words' bytes' allowance h).fits

  -- and the table that they leave
  pub run_table : table_of words' ≡ (in_arow (requests_of handled tape) (table_of words)).table
  run_table = (run_left words bytes tape stop refusal handled written rest words' bytes' allowance h).table

  -- those requests are the ones between the tape's start and the rest: as many as the run counts, and, on a tape of bytes, the tape is
  -- their records one after another, each exact or padded, with the rest behind them
  pub run_requests : length (requests_of handled tape) ≡ handled
  run_requests = as_many handled tape rest (counts_records words bytes tape stop refusal handled written rest words' bytes' allowance h)

  pub run-tape : AllBytes tape → Holds (requests_of handled tape) tape rest
  run-tape a = before_rest handled tape rest a (counts_records words bytes tape stop refusal handled written rest words' bytes' allowance h)
