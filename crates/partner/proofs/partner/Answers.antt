use Rattle.std.proofs.Common.{rules, sym}
use Rattle.table.proofs.WordsOfSlots.{slots_length}
use Rattle.partner.proofs.Answers.{answered}
use Rattle.partner.proofs.partner.Goals as goal

pub returns : goal.returns
returns c = answered _ _ _ _ (slots_length _) (sym c.if-not-is_present_defect.ensures) c.entry_of.ensures (search rules) c.args.t.is_sound
