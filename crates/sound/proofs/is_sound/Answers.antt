use Rattle.std.proofs.Common.{refl, ◌∙◌}
use Rattle.sound.proofs.Checked.{sizes_no, each_no, paths_answer}
use Rattle.sound.proofs.is_sound.Goals as goal

pub returns-then-not-sizes_hold : goal.returns-then-not-sizes_hold
returns-then-not-sizes_hold c = sizes_no _ _ c.if-not-sizes_hold.ensures refl

pub returns-else-numbered_hold : goal.returns-else-numbered_hold
returns-else-numbered_hold c =
    c.if-numbered_hold.false ∙ each_no _ _ c.if-not-sizes_hold.ensures refl _ _ _ c.count_defects-defects.ensures c.begin-begin.ensures c.count_blossoms.ensures _
    c.if-numbered_hold.ensures refl

pub returns-then-numbered_hold : goal.returns-then-numbered_hold
returns-then-numbered_hold c =
    paths_answer _ _ c.if-not-sizes_hold.ensures refl _ _ _ c.count_defects-defects.ensures c.begin-begin.ensures c.count_blossoms.ensures _
    c.if-numbered_hold.ensures _ refl c.paths_hold.ensures
