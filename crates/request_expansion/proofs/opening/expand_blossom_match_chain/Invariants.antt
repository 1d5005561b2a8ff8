use Rattle.std.proofs.Common.{◌≡◌, ◌-◌}
use Rattle.rules.specs.Act.{run}
use Rattle.rules.specs.Doing.{world_at}
use Rattle.rules.specs.Expansion.{match_chain}
use Rattle.record_fields.specs.Outputs.{SameBytes}
use Rattle.request_expansion.proofs.opening.expand_blossom_match_chain.Given as goal

abbrev pub invariant-loop : goal.invariant-loop
invariant-loop l =
    (run (world_at l.t l.out) (match_chain (256 - l.counter) l.end.0 l.here.0)
    ≡ run (world_at l.initial.t l.initial.out) (match_chain 256 l.end.0 l.fn.begin.0))
    × SameBytes l.initial.out l.out
