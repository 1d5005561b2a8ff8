-- The words behind a slot: read after a store, there and elsewhere.
use mathlib.Core.Path.{◌≡◌, sym, ◌∙◌}
use mathlib.Core.List.{List}
use Prim.Native.Nat.{ℕ, ◌+◌, ◌*◌, ◌≤◌, ◌<◌}
use native.Mathlib.Nat.{zero-add}
use native.Mathlib.Decide.{ℕ_discrete}
use native.Mathlib.Omega.{arith}
use lib.ListN.{length, get_or, set, length-set, get_or-eq_default}
use lib.Seq.{get_or-set_same, get_or-set_other, set_out, ext_get_or}
use Rattle.lists.specs.Count.{count}
use Rattle.lists.specs.Stores.{stores}
use Rattle.lists.proofs.Count.{length-count, get_or-count}
use Rattle.lists.proofs.Stores.{stores-out, stores-in}
use Rattle.slot.specs.Number.{vertex_from}
use Rattle.slot.specs.State.{state_of}
use Rattle.slot.specs.Slot.{Slot, empty_slot}
use Rattle.slot.proofs.Laws.{state_of_mark_of, vertex_from_words}
use Rattle.table.specs.Table.{Table, at, put}
use Rattle.table.specs.Words.{table_of, slot_from, slot_words}

-- a slot is read from its eleven words alone
pub slot-cong :
    (ws vs : List ℕ) (b c : ℕ)
    → ((k : ℕ) → k < 11 → get_or ws (b + k) 0 ≡ get_or vs (c + k) 0)
    → slot_from ws b ≡ slot_from vs c
slot-cong ws vs b c h =
    λ i.
    record {
      state = state_of (h 0 (omega arith) i);
      parent = h 1 (omega arith) i;
      first_child = h 2 (omega arith) i;
      sibling = h 3 (omega arith) i;
      ring = h 4 (omega arith) i;
      link = record {
        touch = link_word 0 (omega arith) i;
        through = vertex_from (link_word 2 (omega arith) i) (link_word 3 (omega arith) i);
        peer_touch = link_word 1 (omega arith) i;
        peer_through = vertex_from (link_word 4 (omega arith) i) (link_word 5 (omega arith) i);
      };
    }
  where
    link_word : (k : ℕ) → k < 6 → get_or ws (b + 5 + k) 0 ≡ get_or vs (c + 5 + k) 0
    link_word k q =
        let e : b + 5 + k ≡ b + (5 + k) = omega arith in
        let f : c + 5 + k ≡ c + (5 + k) = omega arith in
        rw (e, f) (h (5 + k) (omega arith))

pub slots_length : (ws : List ℕ) → length (table_of ws).slots ≡ 256
unfolding table_of
slots_length ws = length-count (λ i. slot_from ws (i * 11)) 0 256

-- reading: the words of slot n are slot n of the table

pub at_words : (ws : List ℕ) (n : ℕ) → n < 256 → slot_from ws (n * 11) ≡ at (table_of ws) n
unfolding at table_of
at_words ws n h = sym (get_or-count (λ i. slot_from ws (i * 11)) 0 256 n empty_slot h ∙ rw zero-add)

pub at_past : (ws : List ℕ) (n : ℕ) → 256 ≤ n → empty_slot ≡ at (table_of ws) n
unfolding at
at_past ws n h = sym (get_or-eq_default (table_of ws).slots empty_slot (rw slots_length h))

-- storing

pub put_past : (ws : List ℕ) (n : ℕ) (s : Slot) → 256 ≤ n → put (table_of ws) n s ≡ table_of ws
unfolding put
put_past ws n s h = rw (set_out (table_of ws).slots n s (rw slots_length h))

-- the slots are read from the words below 2816, the counts from one word each
pub tables_agree :
    (ws : List ℕ) (t : Table)
    → length t.slots ≡ 256
    → ((m : ℕ) → m < 256 → slot_from ws (m * 11) ≡ at t m)
    → get_or ws 2816 0 ≡ t.begin
    → get_or ws 2817 0 ≡ t.defects
    → get_or ws 2818 0 ≡ t.blossoms
    → table_of ws ≡ t
unfolding table_of at
tables_agree ws t l slots b d c =
    λ i.
    record {
      slots =
          ext_get_or empty_slot (count (λ j. slot_from ws (j * 11)) 0 256) t.slots (length-count (λ j. slot_from ws (j * 11)) 0 256 ∙ sym l)
          (λ m q.
          let q' : m < 256 = rw length-count at q in
          get_or-count (λ j. slot_from ws (j * 11)) 0 256 m empty_slot q' ∙ rw zero-add (slots m q')) i;
      begin = b i;
      defects = d i;
      blossoms = c i;
    }

-- the words of a slot, read back
slot_words_lem : (s : Slot) → slot_from (slot_words s) 0 ≡ s
slot_words_lem s = simp (state_of_mark_of, vertex_from_words)

module _ (ws : List ℕ) (n : ℕ) (s : Slot) (e : length ws ≡ 2819) (h : n < 256) where
  stored : List ℕ
  stored = stores ws (n * 11) 0 (slot_words s)

  there : slot_from stored (n * 11) ≡ s
  unfolding stored
  there =
      slot-cong stored (slot_words s) (n * 11) 0 (λ k q. rw zero-add (stores-in (slot_words s) ws (n * 11) k q (omega arith)))
      ∙ slot_words_lem s

  elsewhere : (j : ℕ) → ((k : ℕ) → k < 11 → j ≡ n * 11 + k → ⊥) → get_or stored j 0 ≡ get_or ws j 0
  unfolding stored
  elsewhere j out = stores-out (slot_words s) ws (n * 11) 0 j (λ k p q. out k q)

  slot_after : (m : ℕ) → m < 256 → slot_from stored (m * 11) ≡ at (put (table_of ws) n s) m
  unfolding at put
  slot_after m q = go (ℕ_discrete m n)
    where
      go : Dec (m ≡ n) → slot_from stored (m * 11) ≡ get_or (set (table_of ws).slots n s) m empty_slot
      go (yes u) = rw u (there ∙ sym (get_or-set_same (table_of ws).slots n s empty_slot (rw slots_length h)))
      go (no u) =
          slot-cong stored ws (m * 11) (m * 11) (λ k r. elsewhere (m * 11 + k) (λ l o v. u (omega arith)))
          ∙ at_words ws m q
          ∙ sym (get_or-set_other (table_of ws).slots n m s empty_slot u)

  pub put_words : table_of (stores ws (n * 11) 0 (slot_words s)) ≡ put (table_of ws) n s
  unfolding put table_of stored
  put_words =
      tables_agree stored (put (table_of ws) n s) (length-set (table_of ws).slots n s ∙ slots_length ws) slot_after
      (elsewhere 2816 (λ k q u. omega arith))
      (elsewhere 2817 (λ k q u. omega arith))
      (elsewhere 2818 (λ k q u. omega arith))
