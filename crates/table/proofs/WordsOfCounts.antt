-- The words behind the counts: one stored, the slots and the two others stay.
use mathlib.Core.Path.{◌≡◌, ◌∙◌}
use mathlib.Core.Logic.{◌≢◌}
use mathlib.Core.List.{List}
use Prim.Native.Nat.{ℕ, ◌+◌, ◌*◌, ◌≤◌, ◌<◌}
use native.Mathlib.Omega.{arith}
use lib.ListN.{length, get_or, set}
use lib.Seq.{get_or-set_same, get_or-set_other}
use Rattle.table.specs.Table.{at}
use Rattle.table.specs.Words.{table_of, slot_from}
use Rattle.table.proofs.WordsOfSlots.{slot-cong, at_words, slots_length, tables_agree}
use Rattle.table.specs.Counts.{with_begin, with_defects, with_blossoms}

module _ (ws : List ℕ) (v : ℕ) (e : length ws ≡ 2819) where
  slots_stay : (i : ℕ) → 2816 ≤ i → (m : ℕ) → m < 256 → slot_from (set ws i v) (m * 11) ≡ at (table_of ws) m
  slots_stay i h m q =
      slot-cong (set ws i v) ws (m * 11) (m * 11) (λ k r. get_or-set_other ws i (m * 11 + k) v 0 (omega arith))
      ∙ at_words ws m q

  other : (i j : ℕ) → j ≢ i → get_or (set ws i v) j 0 ≡ get_or ws j 0
  other i j h = get_or-set_other ws i j v 0 h

  pub begin_words : table_of (set ws 2816 v) ≡ with_begin (table_of ws) v
  unfolding at with_begin table_of
  begin_words =
      tables_agree (set ws 2816 v) (with_begin (table_of ws) v) (slots_length ws) (slots_stay 2816 (omega arith))
      (get_or-set_same ws 2816 v 0 (omega arith)) (other 2816 2817 (omega arith)) (other 2816 2818 (omega arith))

  pub defects_words : table_of (set ws 2817 v) ≡ with_defects (table_of ws) v
  unfolding at with_defects table_of
  defects_words =
      tables_agree (set ws 2817 v) (with_defects (table_of ws) v) (slots_length ws) (slots_stay 2817 (omega arith))
      (other 2817 2816 (omega arith)) (get_or-set_same ws 2817 v 0 (omega arith)) (other 2817 2818 (omega arith))

  pub blossoms_words : table_of (set ws 2818 v) ≡ with_blossoms (table_of ws) v
  unfolding at with_blossoms table_of
  blossoms_words =
      tables_agree (set ws 2818 v) (with_blossoms (table_of ws) v) (slots_length ws) (slots_stay 2818 (omega arith))
      (other 2818 2816 (omega arith)) (other 2818 2817 (omega arith)) (get_or-set_same ws 2818 v 0 (omega arith))
