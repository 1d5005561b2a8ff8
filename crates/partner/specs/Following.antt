-- What the code follows from the link of an outer node inward to a defect d. On a sound table it comes to `entry` (FollowedEntry).
use Rattle.std.specs.Prelude.{ℕ, zero, suc, List, Option, Some, None, eqb, get_or, replicate}
use Rattle.lists.specs.Choice.{pick}
use Rattle.slot.specs.Number.{none}
use Rattle.slot.specs.Slot.{Link}
use Rattle.table.specs.Table.{Table, at}
use Rattle.table.specs.Climb.{outer_blossom}
use Rattle.rules.specs.Slots.{is_stay, up, next}
use Rattle.rules.specs.Partner.{link_in_twos}
use Rattle.partner.specs.Way.{noted, beside_way}

-- the ring node x on the way, where the ring is touched at y
abbrev pub across_ring : Table → List ℕ → ℕ → Link
across_ring t w y = link_in_twos 128 t (next t y) (get_or w (up t y) 0)

-- a touch beside the way
abbrev pub turned_off : Table → List ℕ → ℕ → Link
turned_off t w touch = across_ring t w (beside_way 256 t w touch)

-- link after link, until one touches d
unfoldable pub followed : ℕ → Table → List ℕ → ℕ → Link → Link
followed zero t w d l = l
followed (suc k) t w d l = let inward = followed k t w d (turned_off t w l.touch) in pick (eqb l.touch d) l inward

-- the way up from d
abbrev pub way_of : Table → ℕ → List ℕ
way_of t d = noted 256 t d (replicate 256 none)

-- with nobody, if the outer node around d is not matched
abbrev pub followed_entry : Table → ℕ → Option Link
followed_entry t d =
    pick (is_stay (at t (outer_blossom t d)).state) (Some (followed 256 t (way_of t d) d (at t (outer_blossom t d)).link)) None
