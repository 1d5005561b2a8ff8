-- The link followed from where the loop stands, within what is left, is the one asked for.
use Rattle.std.proofs.Common.{◌≡◌, ◌-◌}
use Rattle.slot.specs.Slot.{link_of}
use Rattle.table.specs.Words.{table_of}
use Rattle.partner.specs.Following.{followed}
use Rattle.partner.proofs.following.follow.Given as goal

abbrev pub invariant-loop : goal.invariant-loop
invariant-loop l =
    followed (256 - l.counter) (table_of l.t) l.below l.d.0 (link_of l.link) ≡ followed 256 (table_of l.t) l.below l.d.0 (link_of l.fn.outermost)
