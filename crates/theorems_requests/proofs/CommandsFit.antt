-- How many commands a request gives; that with the room that it asks for all that a request says is written; and that a run, which
-- goes on with 4,104 bytes or more, drops nothing. The work is in the other files.
--
-- A match is two commands. Augmenting matches each − node of the tree with its child, and each − node on the way from the node
-- to the root once more, with its parent: at most four commands a − node. A − node has a child of its own, and a root is neither
-- a − node nor such a child; so among 256 nodes there are at most 127 − nodes, in one tree or in two. With the match of the two
-- nodes named that is 4 · 127 + 2 = 510, two below the 512 of 01; `theorems_examples/proofs/MostCommands` has a conflict that gives 510.
use mathlib.Core.Path.{◌≡◌}
use mathlib.Core.Logic.{◌≢◌}
use mathlib.Core.List.{List, [], ◌∷◌, ◌++◌}
use Prim.Native.Nat.{ℕ, ◌+◌, ◌-◌, ◌≤◌}
use native.Mathlib.Omega.{arith}
use lib.Dec.{T}
use lib.ListN.{length, take, drop}
use Rattle.std.specs.Prelude.{Ok, Err}
use Rattle.table.specs.Table.{Table, Full}
use Rattle.refusal.specs.declared.Side.{Side}
use Rattle.refusal.specs.declared.Refusal.TheVariants.{NoCommandRoom, NoListingRoom}
use Rattle.refusal.specs.Refusal.{at_side}
use Rattle.record.specs.declared.request.Conflict.{Conflict}
use Rattle.record.specs.declared.request.VirtualConflict.{VirtualConflict}
use Rattle.record.specs.declared.request.Request.{Request}
use Rattle.record.specs.declared.request.Request.TheVariants as Q
use Rattle.record.specs.declared.answer.Record.{Record}
use Rattle.record.specs.Writing.{Out, out_of, placed, write_all, bytes_of}
use Rattle.record.proofs.Theorems.{placed_split}
use Rattle.rules.specs.Act.{World}
use Rattle.rules.specs.Conflict.{conflict, virtual_conflict}
use Rattle.rules.specs.Sound.{sound}
use Rattle.rules.specs.Calls.{verdict, end_record, answered}
use Rattle.rules.specs.Run.{room, served, run_room}
use Rattle.theorems_soundness.proofs.Wholes.{to_whole}
use Rattle.theorems_requests.proofs.CommandBytes.{written_all, commands_fit}
use Rattle.theorems_requests.proofs.RequestCommands.{conflict_most, virtual_most}
use Rattle.rules.specs.Commands.{gives_commands, AllCommands}
use Rattle.theorems_requests.proofs.AnsweredCommands.{answered_only, answered_most}
use Rattle.theorems_requests.proofs.AnsweredBytes.{answered_bytes, ended_fits}
use Rattle.theorems_requests.proofs.RunVerdicts.{same-verdict, room_enough}

-- ---- how many

pub conflict_commands : (t : Table) → Full t → T (sound t) → (room : ℕ) (c : Conflict) → verdict (Q.Conflict c) t room ≡ Ok tt → length (conflict c t).said ≤ 510
conflict_commands t full s room c e = conflict_most t room (to_whole t full s) c e

pub virtual_conflict_commands : (t : Table) → Full t → T (sound t) → (room : ℕ) (c : VirtualConflict) → verdict (Q.VirtualConflict c) t room ≡ Ok tt → length (virtual_conflict c t).said ≤ 509
virtual_conflict_commands t full s room c e = virtual_most t room (to_whole t full s) c e

-- ---- which records, whatever the table

pub answered_says_commands : (r : Request) → T (gives_commands r) → (room : ℕ) (t : Table) → AllCommands (answered r room t).said
answered_says_commands r g room t = answered_only r g room t

-- ---- how they are written

-- records whose bytes fit are all written, one after another, and nothing else is
pub all_written_lem : (o : Out) (rs : List Record) → length (bytes_of rs) ≤ length o.buf - o.pos → write_all o rs ≡ out_of (placed o.buf o.pos (bytes_of rs)) (o.pos + length (bytes_of rs))
all_written_lem o rs h = written_all o rs h

-- "at most 512 commands": 4,096 bytes hold them
pub commands-written :
    (o : Out) (rs : List Record)
    → length rs ≤ 512
    → AllCommands rs
    → 4096 ≤ length o.buf - o.pos
    → write_all o rs ≡ out_of (placed o.buf o.pos (bytes_of rs)) (o.pos + length (bytes_of rs))
commands-written o rs l h room = written_all o rs (commands_fit o rs l h room)

-- "later bytes stay", and so do earlier ones
pub commands-placed :
    (o : Out) (rs : List Record)
    → length rs ≤ 512
    → AllCommands rs
    → 4096 ≤ length o.buf - o.pos
    → placed o.buf o.pos (bytes_of rs) ≡ take o.pos o.buf ++ bytes_of rs ++ drop (o.pos + length (bytes_of rs)) o.buf
commands-placed o rs l h room = placed_split o.buf o.pos (bytes_of rs) (omega (arith, commands_fit o rs l h room))

-- ---- the three requests, refused or accepted

pub answered_commands : (t : Table) → Full t → (room : ℕ) (r : Request) → T (gives_commands r) → length (answered r room t).said ≤ 510
answered_commands t full room r g = answered_most t full room r g

-- ---- every request, a listing and a reset among them, refused or accepted

-- with the room that is left after a position
pub answered-written :
    (t : Table)
    → Full t
    → (o : Out) (r : Request)
    → let said = (answered r (length o.buf - o.pos) t).said in
    write_all o said ≡ out_of (placed o.buf o.pos (bytes_of said)) (o.pos + length (bytes_of said))
answered-written t full o r =
    written_all o (answered r (length o.buf - o.pos) t).said (answered_bytes t full (length o.buf - o.pos) r).1

-- in a run, which stops at "output below 4,104 bytes", nothing is dropped: the end record fits as well
pub served-written :
    (w : World)
    → Full w.table
    → (r : Request)
    → run_room ≤ room w
    → let said = (answered r (room w) w.table).said ++ end_record (verdict r w.table (room w)) ∷ [] in
    (served r w).out ≡ out_of (placed w.out.buf w.out.pos (bytes_of said)) (w.out.pos + length (bytes_of said))
unfolding served
served-written w full r h =
    written_all w.out ((answered r (room w) w.table).said ++ end_record (verdict r w.table (room w)) ∷ [])
    (ended_fits w full r (verdict r w.table (room w)) h)

-- and no request is refused for the room: 9, "command room below 4,096 bytes", and 10, "listing room below 16 bytes for each
-- present defect", are not given where a run goes on, whatever the table
pub no-room-refusal :
    (w : World) (r : Request) (s : Side)
    → run_room ≤ room w
    → (verdict r w.table (room w) ≢ Err (at_side NoCommandRoom s)) × (verdict r w.table (room w) ≢ Err (at_side NoListingRoom s))
no-room-refusal w r s h = room_enough r w.table (room w) s h

-- so in a run the verdict does not depend on the room
pub verdict_in_a_run : (w : World) (r : Request) → run_room ≤ room w → verdict r w.table (room w) ≡ verdict r w.table run_room
verdict_in_a_run w r h = same-verdict r w.table (room w) h
