-- As many were found as there are below the slot that comes next, so the count fits its type.
use Rattle.std.proofs.Common.{◌≡◌, ◌≤◌}
use Rattle.table.specs.Words.{table_of}
use Rattle.rules.specs.Refusals.{defects_below}
use Rattle.request_listing.proofs.defects_below.Given as goal

abbrev pub invariant-loop-i : goal.invariant-loop-i
invariant-loop-i l = record { counted : l.found ≡ defects_below l.i (table_of l.t); few : l.found ≤ l.i }
