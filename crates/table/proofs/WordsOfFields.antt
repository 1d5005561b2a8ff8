-- One word of a slot stored: the slot with that pointer replaced, and every other slot as it was.
use mathlib.Core.Path.{◌≡◌, sym, ap, ◌∙◌}
use mathlib.Core.List.{List}
use Prim.Native.Nat.{ℕ, ◌+◌, ◌*◌, ◌≤◌, ◌<◌}
use native.Mathlib.Decide.{ℕ_discrete}
use native.Mathlib.Omega.{arith}
use lib.ListN.{length, get_or, set, length-set}
use lib.Seq.{get_or-set_same, get_or-set_other}
use Rattle.slot.specs.Number.{vertex_from}
use Rattle.slot.specs.State.{state_of}
use Rattle.slot.specs.Slot.{Slot, empty_slot}
use Rattle.table.specs.Table.{at, put}
use Rattle.table.specs.Words.{table_of, slot_from, link_from}
use Rattle.table.specs.Fields.{parent_replaced, first_child_replaced, sibling_replaced, pointer_replaced}
use Rattle.table.specs.Layout.{pointer_place}
use Rattle.table.specs.declared.storing.Pointer.{Pointer}
use Rattle.table.specs.declared.storing.Pointer.TheVariants.{Parent, FirstChild, Sibling}
use Rattle.table.proofs.WordsOfSlots.{slot-cong, slots_length, at_words, tables_agree}

-- ---- the table after a word of slot n

module _ (ws : List ℕ) (n k v : ℕ) (h : n < 256) (l : k < 11) where
  changed : List ℕ
  changed = set ws (n * 11 + k) v

  other_word : (j : ℕ) → (j ≡ n * 11 + k → ⊥) → get_or changed j 0 ≡ get_or ws j 0
  unfolding changed
  other_word j q = get_or-set_other ws (n * 11 + k) j v 0 q

  module _ (s : Slot) (there : slot_from (set ws (n * 11 + k) v) (n * 11) ≡ s) where
    slot_after : (m : ℕ) → m < 256 → slot_from changed (m * 11) ≡ at (put (table_of ws) n s) m
    unfolding at put changed
    slot_after m q = go (ℕ_discrete m n)
      where
        go : Dec (m ≡ n) → slot_from changed (m * 11) ≡ get_or (set (table_of ws).slots n s) m empty_slot
        go (yes u) = rw u (there ∙ sym (get_or-set_same (table_of ws).slots n s empty_slot (rw slots_length h)))
        go (no u) =
            slot-cong changed ws (m * 11) (m * 11) (λ j r. other_word (m * 11 + j) (λ o. u (omega arith)))
            ∙ at_words ws m q
            ∙ sym (get_or-set_other (table_of ws).slots n m s empty_slot u)

    put_word : table_of (set ws (n * 11 + k) v) ≡ put (table_of ws) n s
    unfolding put table_of changed
    put_word =
        tables_agree changed (put (table_of ws) n s) (length-set (table_of ws).slots n s ∙ slots_length ws) slot_after
        (other_word 2816 (λ u. omega arith))
        (other_word 2817 (λ u. omega arith))
        (other_word 2818 (λ u. omega arith))

-- ---- the slot itself

module _ (ws : List ℕ) (b v : ℕ) where
  kept : (p j : ℕ) → (b + j ≡ b + p → ⊥) → get_or (set ws (b + p) v) (b + j) 0 ≡ get_or ws (b + j) 0
  kept p j q = get_or-set_other ws (b + p) (b + j) v 0 q

  kept_link : (p : ℕ) → p < 5 → link_from (set ws (b + p) v) (b + 5) ≡ link_from ws (b + 5)
  kept_link p q =
      λ i.
      record {
        touch = word 0 i;
        through = vertex_from (word 2 i) (word 3 i);
        peer_touch = word 1 i;
        peer_through = vertex_from (word 4 i) (word 5 i);
      }
    where
      word : (j : ℕ) → get_or (set ws (b + p) v) (b + 5 + j) 0 ≡ get_or ws (b + 5 + j) 0
      word j = get_or-set_other ws (b + p) (b + 5 + j) v 0 (λ u. omega arith)

  module _ (r : b + 11 ≤ length ws) where
    parent_word : slot_from (set ws (b + 1) v) b ≡ parent_replaced v (slot_from ws b)
    parent_word =
        λ i.
        record {
          state = state_of (kept 1 0 (λ u. omega arith) i);
          parent = get_or-set_same ws (b + 1) v 0 (omega arith) i;
          first_child = kept 1 2 (λ u. omega arith) i;
          sibling = kept 1 3 (λ u. omega arith) i;
          ring = kept 1 4 (λ u. omega arith) i;
          link = kept_link 1 (omega arith) i;
        }

    first_child_word : slot_from (set ws (b + 2) v) b ≡ first_child_replaced v (slot_from ws b)
    first_child_word =
        λ i.
        record {
          state = state_of (kept 2 0 (λ u. omega arith) i);
          parent = kept 2 1 (λ u. omega arith) i;
          first_child = get_or-set_same ws (b + 2) v 0 (omega arith) i;
          sibling = kept 2 3 (λ u. omega arith) i;
          ring = kept 2 4 (λ u. omega arith) i;
          link = kept_link 2 (omega arith) i;
        }

    sibling_word : slot_from (set ws (b + 3) v) b ≡ sibling_replaced v (slot_from ws b)
    sibling_word =
        λ i.
        record {
          state = state_of (kept 3 0 (λ u. omega arith) i);
          parent = kept 3 1 (λ u. omega arith) i;
          first_child = kept 3 2 (λ u. omega arith) i;
          sibling = get_or-set_same ws (b + 3) v 0 (omega arith) i;
          ring = kept 3 4 (λ u. omega arith) i;
          link = kept_link 3 (omega arith) i;
        }

-- ---- both

module _ (ws : List ℕ) (n v : ℕ) (e : length ws ≡ 2819) (h : n < 256) where
  put_parent : table_of (set ws (n * 11 + 1) v) ≡ put (table_of ws) n (parent_replaced v (at (table_of ws) n))
  put_parent =
      put_word ws n 1 v h (omega arith) _
      (parent_word ws (n * 11) v (omega arith) ∙ ap (λ (s : Slot). parent_replaced v s) (at_words ws n h))

  put_first_child : table_of (set ws (n * 11 + 2) v) ≡ put (table_of ws) n (first_child_replaced v (at (table_of ws) n))
  put_first_child =
      put_word ws n 2 v h (omega arith) _
      (first_child_word ws (n * 11) v (omega arith) ∙ ap (λ (s : Slot). first_child_replaced v s) (at_words ws n h))

  put_sibling : table_of (set ws (n * 11 + 3) v) ≡ put (table_of ws) n (sibling_replaced v (at (table_of ws) n))
  put_sibling =
      put_word ws n 3 v h (omega arith) _
      (sibling_word ws (n * 11) v (omega arith) ∙ ap (λ (s : Slot). sibling_replaced v s) (at_words ws n h))

  pub put_pointer : (p : Pointer) → table_of (set ws (n * 11 + pointer_place p) v) ≡ put (table_of ws) n (pointer_replaced p v (at (table_of ws) n))
  put_pointer Parent = put_parent
  put_pointer FirstChild = put_first_child
  put_pointer Sibling = put_sibling
