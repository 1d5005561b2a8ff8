-- Records for which there is room are all written, their bytes one after another; for the commands of a request 4,096 bytes are
-- room enough.
use mathlib.Core.Path.{◌≡◌}
use mathlib.Core.List.{List, [], ◌∷◌}
use Prim.Native.Nat.{◌+◌, ◌-◌, ◌≤◌}
use native.Mathlib.Nat.{add-zero}
use native.Mathlib.Omega.{arith}
use lib.ListN.{length, length-append}
use Rattle.record.specs.declared.answer.Record.{Record}
use Rattle.record.specs.Records.{answer_bytes}
use Rattle.record.specs.Writing.{Out, out_of, placed, write_all, bytes_of}
use Rattle.record.proofs.Written.{answer_some}
use Rattle.record.proofs.Theorems.{answers-written}
use Rattle.rules.specs.Commands.{AllCommands}
use Rattle.theorems_requests.proofs.CommandRecords.{commands_size}

-- without a record nothing is written; with one, its bytes need room before the end
none_written : (o : Out) → write_all o [] ≡ out_of (placed o.buf o.pos (bytes_of [])) (o.pos + length (bytes_of []))
unfolding write_all bytes_of placed
none_written o = rw add-zero

some_bytes : (r : Record) (rs : List Record) → 1 ≤ length (bytes_of (r ∷ rs))
unfolding bytes_of
some_bytes r rs = omega (arith, length-append (answer_bytes r) (bytes_of rs), answer_some r)

pub written_all : (o : Out) (rs : List Record) → length (bytes_of rs) ≤ length o.buf - o.pos → write_all o rs ≡ out_of (placed o.buf o.pos (bytes_of rs)) (o.pos + length (bytes_of rs))
written_all o [] h = none_written o
written_all o (r ∷ rs) h = answers-written (r ∷ rs) o.buf o.pos (omega (arith, some_bytes r rs))

pub commands_fit : (o : Out) (rs : List Record) → length rs ≤ 512 → AllCommands rs → 4096 ≤ length o.buf - o.pos → length (bytes_of rs) ≤ length o.buf - o.pos
commands_fit o rs l h room = omega (arith, commands_size rs h)
