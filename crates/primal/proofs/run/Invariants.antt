-- The run from where the loop stands is the run asked for, in the words that were lent. Records handled and records still allowed make up
-- the allowance, so their count fits its type.
use Rattle.std.proofs.Common.{◌≡◌, ◌+◌}
use Rattle.rules.specs.Act.{world_of}
use Rattle.rules.specs.Run.{run_from}
use Rattle.sound_table.specs.Checks.{SameWords}
use Rattle.primal.proofs.Loop.{stands}
use Rattle.primal.proofs.run.Given as goal

abbrev pub invariant-loop-next : goal.invariant-loop-next
invariant-loop-next l =
    record {
      runs :
          run_from l.left (stands (world_of l.table.words.now l.out l.written) l.rest l.handled)
          ≡ run_from l.initial.left (stands (world_of l.initial.table.words.now l.initial.out l.initial.written) l.initial.rest l.initial.handled);
      handled : l.handled + l.left ≡ l.allowance;
      same : SameWords l.initial.table l.table;
    }

abbrev pub decreases-loop-next : goal.decreases-loop-next
decreases-loop-next l = l.left
