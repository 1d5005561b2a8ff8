use Rattle.std.proofs.Common.{◌≡◌, ◌-◌, false}
use Rattle.slot.specs.Slot.{link_of}
use Rattle.rules.specs.Act.{run}
use Rattle.rules.specs.Doing.{world_at}
use Rattle.rules.specs.Expansion.{attach_down}
use Rattle.record_fields.specs.Outputs.{SameBytes}
use Rattle.request_expansion.specs.Signs.{grows}
use Rattle.request_expansion.proofs.opening.Opened.attach_down.Given as goal

abbrev pub invariant-loop : goal.invariant-loop
invariant-loop l =
    (run (world_at l.t l.out) (attach_down (256 - l.counter) l.self.c.0 l.self.below.0 (grows l.sign) l.parent.0 (link_of l.link) l.here.0)
    ≡ run (world_at l.initial.t l.initial.out) (attach_down 256 l.self.c.0 l.self.below.0 false l.self.above.0 (link_of l.self.link) l.self.p.0))
    × SameBytes l.initial.out l.out
