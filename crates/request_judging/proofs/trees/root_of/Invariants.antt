use Rattle.std.proofs.Common.{◌≡◌, ◌-◌}
use Rattle.table.specs.Words.{table_of}
use Rattle.rules.specs.Trees.{root}
use Rattle.request_judging.proofs.TreesSteps.{root_tested}
use Rattle.request_judging.proofs.trees.root_of.Given as goal

abbrev pub invariant-loop : goal.invariant-loop
invariant-loop l = root_tested (257 - l.counter) (table_of l.t) l.here.0 ≡ root (table_of l.t) l.fn.n.0
