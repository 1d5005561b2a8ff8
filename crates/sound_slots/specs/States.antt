-- What the code asks of one slot that is given out, by the slot's state. It asks less than the rules at that slot: what another
-- slot's test or a walk tells is left out. That all tests and walks together say what the rules say is proved in the crate `sound`.
use Rattle.std.specs.Prelude.{ℕ, Bool, ◌&&◌, ltb}
use Rattle.lists.specs.Choice.{pick}
use Rattle.slot.specs.Slot.{Slot, no_link}
use Rattle.table.specs.Table.{Table, at}
use Rattle.rules.specs.Slots.{is_none, is_some, same_link, is_grow, is_shrink}
use Rattle.sound_slots.specs.Links.{is_through, touches_hold, pair_holds}

-- S6 and S7 of an inner node; it has a number, so its parent is a blossom that has it on its ring
unfoldable pub inner_holds : (ℕ → ℕ → Bool) → (ℕ → Bool) → ℕ → Slot → Bool
inner_holds held numbered n s =
    (is_through s.link && is_none s.first_child && ltb n s.parent)
    && (numbered n && touches_hold held n s.sibling s.link)

-- S3: only a matched node stays
unfoldable pub stay_holds : Table → (ℕ → ℕ → Bool) → ℕ → Slot → Bool
stay_holds t held n s =
    (is_through s.link && is_none s.parent && is_none s.first_child)
    && pick (is_none s.sibling)
    (is_none s.link.peer_touch && held n s.link.touch)
    (pair_holds t n s && touches_hold held n s.sibling s.link)

-- S3 and S4: without a parent a free node or a root, with one another + node
unfoldable pub grow_holds : Table → (ℕ → ℕ → Bool) → ℕ → Slot → Bool
grow_holds t held n s =
    is_none s.sibling
    && pick (is_none s.parent)
    (same_link s.link no_link)
    ((is_through s.link && is_shrink (at t s.parent).state) && touches_hold held n s.parent s.link)

-- S4: a − node; its child has a − node as parent, is Grow therefore, and has no sibling
unfoldable pub shrink_holds : Table → (ℕ → ℕ → Bool) → ℕ → Slot → Bool
shrink_holds t held n s =
    (is_through s.link && is_grow (at t s.parent).state && is_some s.first_child)
    && touches_hold held n s.parent s.link
