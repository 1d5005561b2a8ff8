use Rattle.std.proofs.Common.{rules}
use Rattle.sound_walks.proofs.Passes.{all_from_range}
use Rattle.sound.proofs.slots.slots_hold.Goals as goal

pub returns : goal.returns
returns c = all_from_range _ _ _ c.all.ensures.ran (λ x b q k. search rules)
