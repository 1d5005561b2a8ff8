-- Making a table, and emptying one.
use Rattle.std.specs.Prelude.{◌≡◌, List, Bool, ◌&&◌, ℕ, replicate, leb}
use Rattle.lists.specs.Choice.{pick}
use Rattle.refusal.specs.declared.Refusal.TheVariants.{BadBegin}
use Rattle.refusal.specs.Refusal.{Answer, number_of, answer_number, answer_side, answer_written}
use Rattle.slot.specs.Slot.{empty_slot}
use Rattle.table.specs.Table.{Table}
use Rattle.table.specs.Words.{table_of}

-- a table as made: every slot empty, both counts zero
unfoldable pub fresh : ℕ → Table
fresh b = record { slots = replicate 256 empty_slot; begin = b; defects = 0; blossoms = 0 }

-- "Reset empties all slots and zeroes both counts"; begin is "fixed at making"
abbrev pub emptied : Table → Table
emptied t = fresh t.begin

-- 13: "making with begin outside 1 to 256 (answers no table)"
abbrev pub begin_fits : ℕ → Bool
begin_fits b = leb 1 b && leb b 256

-- what making answers, by its number, its side and the bytes written, and the words before and after
abbrev pub Made : List ℕ → ℕ → Answer → List ℕ → Type 0
Made before b r after =
    pick (begin_fits b)
    ((answer_number r ≡ 0) × (answer_written r ≡ 0) × (table_of after ≡ fresh b))
    ((answer_number r ≡ number_of BadBegin) × (answer_side r ≡ 0) × (answer_written r ≡ 0) × (after ≡ before))
