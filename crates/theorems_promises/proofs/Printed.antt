-- "For conflict 0, 1 (touches 0, 1, vertices 10, 11), then list, it writes exactly": the formula computed, and so what any turns on a
-- table made with begin 128 write.
use mathlib.Core.Path.{◌≡◌, refl, ◌∙◌}
use mathlib.Core.List.{List, [], ◌∷◌, ◌++◌}
use Prim.Native.Nat.{ℕ}
use Rattle.std.specs.Prelude.{Ok}
use Rattle.table.specs.Making.{Made}
use Rattle.record.specs.declared.request.Request.TheVariants as Q
use Rattle.record.specs.Kinds.{kind_of}
use Rattle.record.specs.Records.{request_bytes, answer_bytes}
use Rattle.record.specs.Reading as reading
use Rattle.record.specs.Writing.{bytes_of}
use Rattle.rules.specs.Script.{meet, printed}
use Rattle.rules.proofs.Script.{all_rules}
use Rattle.theorems_promises.specs.InARow.{answered_and_ended, in_arow}
use Rattle.rules.specs.Run.{requests_of, behind_of}
use Rattle.tape.specs.Program.{usual_begin}
use Rattle.theorems_promises.specs.Turns.{Turns, all_written}
use Rattle.theorems_promises.specs.Written.{program_writes}
use Rattle.theorems_promises.proofs.InTurns.{written_in_all}

unfoldable pub tape : List ℕ
tape = request_bytes (meet 0 1 0 1 10 11) ++ request_bytes Q.List

-- nothing for an empty tape; behind a byte that is no record, an end record 12
formula-printed :
    (program_writes usual_begin tape ≡ printed)
    × (program_writes usual_begin [] ≡ [])
    × (program_writes usual_begin (tape ++ 7 ∷ []) ≡ printed ++ 0x06 ∷ 0x00 ∷ 0x13 ∷ 0x00 ∷ 0x0C ∷ 0x00 ∷ 0x00 ∷ 0x00 ∷ [])
unfolding all_rules program_writes tape printed requests_of behind_of answered_and_ended in_arow bytes_of request_bytes answer_bytes kind_of reading.read
formula-printed = (refl, refl, refl)

pub program_prints : (before words : List ℕ) → Made before usual_begin (Ok 0) words → (ts : Turns words tape) → all_written ts ≡ printed
program_prints before words made ts = written_in_all usual_begin before words tape made ts ∙ formula-printed.0
