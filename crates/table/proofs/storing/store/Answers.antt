use Rattle.std.proofs.Common.{rules, sym, ◌∙◌, ap}
use Rattle.table.specs.Words.{table_of}
use Rattle.table.proofs.WordsOfSlots.{put_words, put_past}
use Rattle.table.proofs.storing.store.Goals as goal

pub returns-then-i-lt-SLOTS : goal.returns-then-i-lt-SLOTS
returns-then-i-lt-SLOTS c = ap table_of c.write_slot.ensures ∙ put_words _ _ _ (search rules) c.if-i-lt-SLOTS.true

pub returns-else-i-lt-SLOTS : goal.returns-else-i-lt-SLOTS
returns-else-i-lt-SLOTS c = sym (put_past _ _ _ c.if-i-lt-SLOTS.false)
