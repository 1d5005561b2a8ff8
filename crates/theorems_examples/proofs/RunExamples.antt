-- The answer that 01 prints for the program's tape, and the four stops of a run in their order.
use mathlib.Core.Path.{◌≡◌, refl}
use mathlib.Core.List.{List, [], ◌∷◌, ◌++◌}
use Prim.Native.Nat.{ℕ}
use lib.ListN.{replicate}
use Rattle.table.specs.Table.{put}
use Rattle.slot.specs.Slot.{new_node}
use Rattle.table.specs.Making.{fresh}
use Rattle.record.specs.declared.request.Request.TheVariants as Q
use Rattle.record.specs.Kinds.{kind_of}
use Rattle.record.specs.Records.{request_bytes, answer_bytes}
use Rattle.record.specs.Reading as reading
use Rattle.record.specs.Writing.{out_of, placed, written, write_all}
use Rattle.rules.specs.Act.{World}
use Rattle.rules.specs.Run.{unsound, run_tape}
use Rattle.rules.specs.Script.{meet, printed}
use Rattle.rules.proofs.Script.{all_rules}
use Rattle.theorems_examples.specs.Told.{report, reported, bytes_of}

-- conflict 0, 1 (touches 0, 1, vertices 10, 11), then list
tape : List ℕ
tape = request_bytes (meet 0 1 0 1 10 11) ++ request_bytes Q.List

-- expand 128, with two zeros behind it
padded : List ℕ
padded = 6 ∷ 0 ∷ 3 ∷ 0 ∷ 128 ∷ 0 ∷ 0 ∷ 0 ∷ []

world : ℕ → World
world room = record { table = fresh 128; out = out_of (replicate room 0) 0 }

program_answer : bytes_of (run_tape 10 (world 4200) tape) ≡ printed
unfolding all_rules tape world bytes_of printed request_bytes answer_bytes kind_of reading.read placed written write_all
program_answer = refl

-- all of the tape; one record allowed; no room for a second; a bad third record
stops :
    (reported (run_tape 10 (world 4200) tape) ≡ report 0 2 48 0)
    × (reported (run_tape 1 (world 4200) tape) ≡ report 1 1 24 4)
    × (reported (run_tape 10 (world 4104) tape) ≡ report 2 1 24 4)
    × (reported (run_tape 10 (world 4103) tape) ≡ report 2 0 0 24)
    × (reported (run_tape 10 (world 4200) (tape ++ 7 ∷ [])) ≡ report 3 2 48 1)
unfolding all_rules tape world reported report request_bytes answer_bytes kind_of reading.read placed written write_all
stops = (refl, refl, refl, refl, refl)

-- an empty tape before an allowance of 0, that before the room, the room before a bad record
stop-order :
    (reported (run_tape 0 (world 0) []) ≡ report 0 0 0 0)
    × (reported (run_tape 0 (world 0) (7 ∷ [])) ≡ report 1 0 0 1)
    × (reported (run_tape 1 (world 0) (7 ∷ [])) ≡ report 2 0 0 1)
    × (reported (run_tape 1 (world 4104) (7 ∷ [])) ≡ report 3 0 0 1)
unfolding all_rules world reported report request_bytes answer_bytes kind_of reading.read placed written write_all
stop-order = (refl, refl, refl, refl)

-- a padded expansion is handled with its padding, and the rest begins behind it; one whose padding is not zero is left; behind an
-- expansion of length 4 two zeros are left
padded-in-a-run :
    (reported (run_tape 1 (world 4200) (padded ++ tape)) ≡ report 1 1 8 24)
    × (reported (run_tape 10 (world 4200) (padded ++ tape)) ≡ report 0 3 56 0)
    × (reported (run_tape 10 (world 4200) (padded ++ 6 ∷ 0 ∷ 3 ∷ 0 ∷ 128 ∷ 0 ∷ 0 ∷ 1 ∷ [])) ≡ report 3 1 8 8)
    × (reported (run_tape 10 (world 4200) (4 ∷ 0 ∷ 3 ∷ 0 ∷ 128 ∷ 0 ∷ 0 ∷ 0 ∷ [])) ≡ report 3 1 8 2)
unfolding all_rules tape padded world reported report request_bytes answer_bytes kind_of reading.read placed written write_all
padded-in-a-run = (refl, refl, refl, refl)

-- a refused request yields only its end record, and counts as handled
refused_in_a_run : bytes_of (run_tape 10 (world 4200) (request_bytes (meet 0 0 0 0 10 11))) ≡ 0x06 ∷ 0x00 ∷ 0x13 ∷ 0x00 ∷ 0x05 ∷ 0x00 ∷ 0x00 ∷ 0x00 ∷ []
unfolding all_rules world bytes_of request_bytes answer_bytes kind_of reading.read placed written write_all
refused_in_a_run = refl

-- .. with the side, where it names one
side-in-a-run :
    bytes_of (run_tape 10 (world 4200) (request_bytes (meet 0 256 0 1 10 11) ++ request_bytes (meet 0 1 1 0 10 11)))
    ≡ 0x06 ∷ 0x00 ∷ 0x13 ∷ 0x00 ∷ 0x03 ∷ 0x00 ∷ 0x02 ∷ 0x00
    ∷ 0x06 ∷ 0x00 ∷ 0x13 ∷ 0x00 ∷ 0x06 ∷ 0x00 ∷ 0x01 ∷ 0x00
    ∷ []
unfolding all_rules world bytes_of request_bytes answer_bytes kind_of reading.read placed written write_all
side-in-a-run = refl

-- an unsound table is refused before any stop
unsound_first : run_tape 0 (record { table = put (fresh 128) 0 new_node; out = out_of [] 0 }) [] ≡ unsound
unfolding all_rules
unsound_first = refl
