use Rattle.table.specs.Fields.{parent_replaced, sibling_replaced}
use Rattle.table.proofs.WordsOfSlots.{slots_length}
use Rattle.request_blossom.proofs.Lists.{alter-twice}
use Rattle.request_blossom.proofs.transfer.set_list_place.Goals as goal

pub returns : goal.returns
returns c =
    alter-twice _ _ _ _ (parent_replaced _) (sibling_replaced _) (slots_length _) c.store_pointer.ensures c.store_pointer-2.ensures
