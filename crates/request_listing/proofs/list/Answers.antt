use Rattle.std.proofs.Common.{refl, arith}
use Rattle.table.proofs.WordsOfSlots.{slots_length}
use Rattle.outcome.proofs.Outcomes.{refused_by, accepted-by}
use Rattle.request_listing.proofs.Given.{room-asked, all_listed}
use Rattle.request_listing.proofs.Room.{list_no_room, list-room, list-world, found_bound}
use Rattle.request_listing.proofs.list.Goals as goal

pub overflow_mul-needed : goal.overflow_mul-needed
overflow_mul-needed c = omega (arith, found_bound _ _ _ c.defects_below-needed.ensures)

pub returns-then-room-needed : goal.returns-then-room-needed
returns-then-room-needed c =
    let found = room-asked _ (slots_length _) c.args.t.is_sound _ _ c.count_defects-defects.ensures c.defects_below-needed.ensures in
    rw c.into.ensures (refused_by _ _ _ _ _ _ (list_no_room _ _ _ _ _ found c.room.ensures refl c.if-room-needed.true))

pub returns : goal.returns
returns c =
    let found = room-asked _ (slots_length _) c.args.t.is_sound _ _ c.count_defects-defects.ensures c.defects_below-needed.ensures in
    accepted-by _ _ _ _ _ _ _ _ (list-room _ _ _ _ _ found c.room.ensures refl c.if-room-needed.false)
    (list-world _ _ _ _ _ (all_listed _ (slots_length _) c.args.t.is_sound _ _ c.list_at.ensures))
