-- What each request answers: refused, and nothing changes; or accepted, and its rule is done.
use Rattle.std.specs.Prelude.{ℕ, Bool, true, false, List, Ok, Err}
use Rattle.table.specs.Table.{Table}
use Rattle.table.specs.Making.{emptied}
use Rattle.record.specs.declared.request.Request.{Request}
use Rattle.record.specs.declared.request.Request.TheVariants as Q
use Rattle.record.specs.declared.answer.Record.{Record}
use Rattle.record.specs.declared.answer.Record.TheVariants as R
use Rattle.refusal.specs.declared.Side.TheVariants.{Neither}
use Rattle.refusal.specs.Refusal.{Verdict, number_of, side_number}
use Rattle.rules.specs.Act.{Act, Did, skip, change}
use Rattle.rules.specs.Conflict.{conflict, virtual_conflict}
use Rattle.rules.specs.Expansion.{expansion}
use Rattle.rules.specs.Listing.{listing}
use Rattle.rules.specs.Refusals.{Check, first_of, conflict_checks, virtual_checks, expansion_checks, reset_checks, list_checks}

-- the listing leaves the table as it is
unfoldable pub list : Act
list t = record { table = t; said = listing t }

-- the rule of an accepted request
abbrev pub act_of : Request → Act
act_of (Q.Conflict c) = conflict c
act_of (Q.VirtualConflict c) = virtual_conflict c
act_of (Q.Expansion e) = expansion e.node.0
act_of Q.Reset = change emptied
act_of Q.List = list

abbrev pub checks_of : Request → Table → ℕ → List Check
checks_of (Q.Conflict c) t room = conflict_checks t room c
checks_of (Q.VirtualConflict c) t room = virtual_checks t room c
checks_of (Q.Expansion e) t room = expansion_checks t room e
checks_of Q.Reset t room = reset_checks t
checks_of Q.List t room = list_checks t room

unfoldable pub verdict : Request → Table → ℕ → Verdict
verdict r t room = first_of (checks_of r t room)

-- "Each refusal returns its number and the table as given, loads nothing, writes nothing."
abbrev pub act_by : Verdict → Request → Act
act_by (Ok u) r = act_of r
act_by (Err e) r = skip

-- whether a request is accepted: no refusal applies
abbrev pub is_accepted : Verdict → Bool
is_accepted (Ok u) = true
is_accepted (Err e) = false

-- 0, or the refusal's number
abbrev pub verdict_number : Verdict → ℕ
verdict_number (Ok u) = 0
verdict_number (Err e) = number_of e.refusal

-- 0, or the number of the refusal's side
abbrev pub verdict_side : Verdict → ℕ
verdict_side (Ok u) = 0
verdict_side (Err e) = side_number e.side

-- "19 end (0 or the refusal; [..])", and the side: "0 after any other number or success"
abbrev pub end_record : Verdict → Record
end_record (Ok u) = R.End 0 Neither
end_record (Err e) = R.End (number_of e.refusal) e.side

-- what a request does on a table with so much room for what it writes
unfoldable pub answered : Request → ℕ → Table → Did
answered r room t = act_by (verdict r t room) r t
