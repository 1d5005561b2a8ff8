-- A run answers the requests that it handles in a row, and there is room for all that they are answered.
use mathlib.Core.Path.{◌≡◌, sym, ap, ◌∙◌}
use mathlib.Core.List.{List, [], ◌∷◌, ◌++◌}
use Prim.Native.Nat.{ℕ, ◌-◌, ◌≤◌}
use native.Mathlib.Nat.{sub-zero}
use native.Mathlib.Omega.{arith}
use lib.ListN.{length, drop}
use Rattle.table.specs.Table.{Full}
use Rattle.record.specs.declared.request.Request.{Request}
use Rattle.record.specs.declared.answer.Record.{Record}
use Rattle.record.specs.Writing.{bytes_of}
use Rattle.record.proofs.Written.{length-placed}
use Rattle.rules.specs.Act.{Did, World, run, skip, ◌then◌}
use Rattle.rules.proofs.Runs.{run-skip, run_then}
use Rattle.rules.specs.Calls.{verdict, end_record, answered}
use Rattle.rules.specs.Run.{room, served, run_from, began, requests_of, run_room}
use Rattle.rules.proofs.RunInduction.{OfRuns, AtAStop, OverARecord, run_induction}
use Rattle.rules.proofs.TapeRequests.{first_request}
use Rattle.theorems_soundness.specs.RuleFacts.{Whole}
use Rattle.theorems_soundness.proofs.Serving.{served_whole}
use Rattle.theorems_requests.proofs.AnsweredBytes.{bytes_joined, ended_fits}
use Rattle.theorems_requests.proofs.CommandsFit.{verdict_in_a_run, served-written}
use Rattle.theorems_promises.specs.InARow.{answered_and_ended, in_arow}

-- ---- one request

abbrev said_by : Request → World → List Record
said_by q w = (answered q (room w) w.table).said ++ end_record (verdict q w.table (room w)) ∷ []

abbrev did : Request → World → Did
did q w = record { table = (served q w).table; said = said_by q w }

module _ (q : Request) (w : World) (h : run_room ≤ room w) where
  same_answer : answered q (room w) w.table ≡ answered q run_room w.table
  unfolding answered
  same_answer = rw (verdict_in_a_run w q h)

  answer_is : answered_and_ended q w.table ≡ did q w
  unfolding answered_and_ended served
  answer_is = rw (same_answer, verdict_in_a_run w q h)

  served_is : run w (answered_and_ended q) ≡ served q w
  unfolding run answered_and_ended served
  served_is = rw (same_answer, verdict_in_a_run w q h)

  module _ (full : Full w.table) where
    room_left : room (served q w) ≡ room w - length (bytes_of (said_by q w))
    room_left = rw (served-written w full q h, length-placed) (omega arith)

    said_fits : length (bytes_of (said_by q w)) ≤ room w
    said_fits = ended_fits w full q (verdict q w.table (room w)) h

    module _ (qs : List Request) where
      row_world : run w (in_arow (q ∷ qs)) ≡ run (served q w) (in_arow qs)
      unfolding in_arow
      row_world = run_then w (answered_and_ended q) (in_arow qs) ∙ ap (λ (v : World). run v (in_arow qs)) served_is

      row_said : (in_arow (q ∷ qs) w.table).said ≡ said_by q w ++ (in_arow qs (served q w).table).said
      unfolding in_arow ◌then◌
      row_said = rw answer_is

      row_fits :
          length (bytes_of (in_arow qs (served q w).table).said) ≤ room (served q w)
          → length (bytes_of (in_arow (q ∷ qs) w.table).said) ≤ room w
      row_fits f = rw row_said (omega (arith, f, room_left, said_fits, bytes_joined (said_by q w) (in_arow qs (served q w).table).said))

-- ---- a run

-- what the requests of so many records are answered in a row is what was done, and there was room for it
abbrev InRow : OfRuns
InRow n p e =
    Whole p.world.table
    → let qs = requests_of n p.rest in
    (e.progress.world ≡ run p.world (in_arow qs)) × (length (bytes_of (in_arow qs p.world.table).said) ≤ room p.world)

at_once : AtAStop InRow
unfolding requests_of in_arow skip bytes_of
at_once s p whole = (sym (run-skip p.world), omega arith)

one_more : OverARecord InRow
one_more n p q size e r h ih whole =
    let qs = requests_of n (drop size p.rest) in
    let later = ih (served_whole q p.world whole) in
    rw (first_request n p.rest q size r) (later.0 ∙ sym (row_world q p.world h whole.full qs), row_fits q p.world h whole.full qs later.1)

pub run-in-row :
    (allowance : ℕ) (w : World) (tape : List ℕ)
    → Whole w.table
    → let e = run_from allowance (began w tape) in
    let qs = requests_of e.progress.handled tape in
    (e.progress.world ≡ run w (in_arow qs)) × (length (bytes_of (in_arow qs w.table).said) ≤ room w)
run-in-row allowance w tape whole = rw sub-zero at (run_induction InRow at_once one_more allowance (began w tape) whole)
