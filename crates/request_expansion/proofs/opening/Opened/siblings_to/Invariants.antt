use Rattle.std.proofs.Common.{◌≡◌, ◌+◌, ◌-◌}
use Rattle.table.specs.Words.{table_of}
use Rattle.rules.specs.Expansion.{steps_to}
use Rattle.request_expansion.proofs.opening.Opened.siblings_to.Given as goal

abbrev pub invariant-loop-d : goal.invariant-loop-d
invariant-loop-d l =
    l.d + steps_to (256 - l.d) l.self.c.0 l.here.0 (table_of l.t) ≡ steps_to 256 l.self.c.0 l.self.p.0 (table_of l.t)
