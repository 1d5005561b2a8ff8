-- What the program writes for a tape, in one formula.
use Rattle.std.specs.Prelude.{List, [], ◌∷◌, ◌++◌, ℕ}
use Rattle.table.specs.Making.{fresh}
use Rattle.refusal.specs.declared.Refusal.TheVariants.{BadRecord}
use Rattle.refusal.specs.declared.Side.TheVariants.{Neither}
use Rattle.refusal.specs.Refusal.{number_of}
use Rattle.record.specs.declared.answer.Record.{Record}
use Rattle.record.specs.declared.answer.Record.TheVariants as R
use Rattle.record.specs.Writing.{bytes_of}
use Rattle.theorems_promises.specs.Tapes.{all_requests, behind_requests}
use Rattle.theorems_promises.specs.InARow.{in_arow}

-- "ends a bad tape by an end record 12": a tape is bad if something is left behind its requests
abbrev pub end_of_tape : List ℕ → List Record
end_of_tape [] = []
end_of_tape (b ∷ rest) = R.End (number_of BadRecord) Neither ∷ []

-- the answers of the requests in a row, on a fresh table, and the end of the tape
unfoldable pub program_writes : ℕ → List ℕ → List ℕ
program_writes begin tape = bytes_of ((in_arow (all_requests tape) (fresh begin)).said ++ end_of_tape (behind_requests tape))
