-- What the three requests say is commands alone, and how many bytes commands take.
use mathlib.Core.Bool.{Bool, true, false}
use mathlib.Core.List.{List, [], ◌∷◌, ◌++◌}
use Prim.Native.Nat.{ℕ, ◌*◌, ◌≤◌}
use native.Mathlib.Omega.{arith}
use lib.Dec.{T}
use lib.ListN.{length, length-append}
use Rattle.slot.specs.Slot.{Slot}
use Rattle.table.specs.Table.{Table}
use Rattle.record.specs.declared.answer.Record.{Record}
use Rattle.record.specs.declared.answer.Record.TheVariants as R
use Rattle.record.specs.Records.{answer_bytes}
use Rattle.record.specs.Writing.{bytes_of}
use Rattle.rules.specs.Commands.{is_command, AllCommands}
use Rattle.rules.specs.Act.{Act, skip, say, change, ◌then◌, look, read, choose}

-- ---- their bytes

command_size : (r : Record) → T (is_command r) → length (answer_bytes r) ≤ 8
unfolding answer_bytes
command_size (R.Speed n s) h = omega arith
command_size (R.Create n) h = omega arith
command_size (R.Expand n) h = omega arith
command_size (R.End e s) h = absurd h
command_size (R.Pair p) h = absurd h
command_size (R.VirtualPair p) h = absurd h

pub commands_size : (rs : List Record) → AllCommands rs → length (bytes_of rs) ≤ 8 * length rs
unfolding bytes_of
commands_size [] h = omega arith
commands_size (r ∷ rs) h = omega (arith, length-append (answer_bytes r) (bytes_of rs), command_size r h.0, commands_size rs h.1)

-- ---- the connectives

commands_join : (rs qs : List Record) → AllCommands rs → AllCommands qs → AllCommands (rs ++ qs)
commands_join [] qs h k = k
commands_join (r ∷ rs) qs h k = (h.0, commands_join rs qs h.1 k)

abbrev pub OnlyCommands : Act → Type 0
OnlyCommands f = (t : Table) → AllCommands (f t).said

pub only_skip : OnlyCommands skip
unfolding skip
only_skip t = tt

pub only_say : (r : Record) → T (is_command r) → OnlyCommands (say r)
unfolding say
only_say r h t = (h, tt)

pub only_change : (f : Table → Table) → OnlyCommands (change f)
unfolding change
only_change f t = tt

pub only_then : (f g : Act) → OnlyCommands f → OnlyCommands g → OnlyCommands (f then g)
unfolding ◌then◌
only_then f g p q t = commands_join (f t).said (g (f t).table).said (p t) (q (f t).table)

pub only_look : (n : ℕ) (k : Slot → Act) → ((s : Slot) → OnlyCommands (k s)) → OnlyCommands (look n k)
unfolding look
only_look n k p t = p _ t

pub only_read : (k : Table → Act) → ((u : Table) → OnlyCommands (k u)) → OnlyCommands (read k)
unfolding read
only_read k p t = p t t

pub only_choose : (b : Bool) (f g : Act) → OnlyCommands f → OnlyCommands g → OnlyCommands (choose b f g)
unfolding choose
only_choose true f g p q = p
only_choose false f g p q = q
