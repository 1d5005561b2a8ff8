use Rattle.std.proofs.Common.{refl}
use Rattle.table_making.proofs.Emptied.{reset-step, emptied_sound}
use Rattle.table_making.proofs.resetting.reset.Goals as goal

pub invariant_of-t : goal.invariant_of-t
invariant_of-t c =
    let s = c.args.t.now.is_sound in
    let e = reset-step _ _ _ _ _ _ _ _ c.count_defects-defects.ensures c.begin-begin.ensures c.blossom_end-end.ensures c.clear_slots.ensures c.clear_slots-2.ensures c.set_count_defects.ensures c.set_count_blossoms.ensures s in
    record { is_sound = emptied_sound _ _ e s }

pub returns : goal.returns
returns c = (
  reset-step _ _ _ _ _ _ _ _ c.count_defects-defects.ensures c.begin-begin.ensures c.blossom_end-end.ensures c.clear_slots.ensures c.clear_slots-2.ensures
      c.set_count_defects.ensures c.set_count_blossoms.ensures c.args.t.now.is_sound,
  refl,
)
