-- Which requests give commands, and which records are commands.
use Rattle.std.specs.Prelude.{Bool, true, false, List, [], ◌∷◌, T}
use Rattle.record.specs.declared.request.Request.{Request}
use Rattle.record.specs.declared.request.Request.TheVariants as Q
use Rattle.record.specs.declared.answer.Record.{Record}
use Rattle.record.specs.declared.answer.Record.TheVariants as R

-- "the three requests": a conflict, a virtual conflict or an expansion; a reset says nothing, a listing its pairs
abbrev pub gives_commands : Request → Bool
gives_commands (Q.Conflict c) = true
gives_commands (Q.VirtualConflict c) = true
gives_commands (Q.Expansion e) = true
gives_commands Q.Reset = false
gives_commands Q.List = false

-- "16 speed [..], 17 Create [..], 18 Expand": what a request commands, and not its end or a listing
abbrev pub is_command : Record → Bool
is_command (R.Speed n s) = true
is_command (R.Create n) = true
is_command (R.Expand n) = true
is_command (R.End e s) = false
is_command (R.Pair p) = false
is_command (R.VirtualPair p) = false

abbrev pub AllCommands : List Record → Type 0
AllCommands [] = Unit {0}
AllCommands (r ∷ rs) = T (is_command r) × AllCommands rs
