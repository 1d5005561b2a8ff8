-- What the requests of a tape (`requests_of` of rules/specs/Run) are answered, one after another.
use Rattle.std.specs.Prelude.{List, [], ◌∷◌, ◌++◌}
use Rattle.record.specs.declared.request.Request.{Request}
use Rattle.rules.specs.Act.{Act, skip, ◌then◌}
use Rattle.rules.specs.Calls.{verdict, end_record, answered}
use Rattle.rules.specs.Run.{run_room}

-- one request: its records and then its end record, "0 or the refusal" and the side; "A refused request yields only its end record".
-- A run goes on with 4,104 bytes or more, and with any such room a request is answered the same (`verdict_in_a_run` of CommandsFit).
unfoldable pub answered_and_ended : Request → Act
answered_and_ended q t =
    let d = answered q run_room t in
    record { table = d.table; said = d.said ++ end_record (verdict q t run_room) ∷ [] }

-- requests in a row, each on the table that the one before it left
unfoldable pub in_arow : List Request → Act
in_arow [] = skip
in_arow (q ∷ qs) = answered_and_ended q then in_arow qs
