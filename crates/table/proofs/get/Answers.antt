use Rattle.std.proofs.Common.{◌∙◌}
use Rattle.table.proofs.WordsOfSlots.{at_words, at_past}
use Rattle.table.proofs.get.Goals as goal

pub returns-then-i-lt-SLOTS : goal.returns-then-i-lt-SLOTS
returns-then-i-lt-SLOTS c = c.slot_at.ensures ∙ at_words _ _ c.if-i-lt-SLOTS.true

pub returns-else-i-lt-SLOTS : goal.returns-else-i-lt-SLOTS
returns-else-i-lt-SLOTS c = c.empty.ensures ∙ at_past _ _ c.if-i-lt-SLOTS.false
