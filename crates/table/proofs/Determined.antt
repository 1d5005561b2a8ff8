-- The words are determined by the table where no mark is damaged.
use mathlib.Core.Path.{◌≡◌, refl, sym, ap, ◌∙◌}
use mathlib.Core.Logic.{◌≢◌}
use mathlib.Core.List.{List}
use Prim.Native.Nat.{ℕ, zero, suc, ◌+◌, ◌*◌, ◌-◌, ◌%◌, ◌/◌, ◌≤◌, ◌<◌}
use native.Mathlib.Nat.{zero-add}
use native.Mathlib.Decide.{dec_lt}
use native.Mathlib.Omega.{arith}
use lib.ListN.{length, get_or}
use lib.Seq.{ext_get_or}
use Rattle.lists.specs.Count.{count}
use Rattle.lists.proofs.Count.{get_or-count}
use Rattle.slot.specs.declared.state.State.TheVariants.{Damaged}
use Rattle.slot.specs.State.{state_of}
use Rattle.slot.specs.Slot.{Slot}
use Rattle.slot.proofs.Laws.{state_of_damaged, mark_of_state_of, low_vertex_from, high_vertex_from}
use Rattle.table.specs.Table.{Table, at, Undamaged}
use Rattle.table.specs.Words.{table_of, slot_from, slot_words, Words}
use Rattle.table.proofs.WordsOfSlots.{at_words}

mark_small : (mark : ℕ) → state_of mark ≢ Damaged → mark ≤ 4
mark_small mark h = go (dec_lt mark 5)
  where
    go : Dec (mark < 5) → mark ≤ 4
    go (yes q) = omega arith
    go (no q) = absurd (h (sym (state_of_damaged mark (omega arith))))

-- a slot's words, written again from what they say
words_back :
    (ws : List ℕ) (b : ℕ)
    → Words ws
    → get_or ws (b + 0) 0 ≤ 4
    → slot_words (slot_from ws b) ≡ count (λ k. get_or ws (b + k) 0) 0 11
unfolding count
words_back ws b f small =
    let up : (k m : ℕ) → 5 + k ≡ m → b + 5 + k ≡ b + m = λ k m e. omega arith in
    simp (
      mark_of_state_of (get_or ws (b + 0) 0) small,
      low_vertex_from (get_or ws (b + 7) 0) (get_or ws (b + 8) 0) (f (b + 7)),
      high_vertex_from (get_or ws (b + 7) 0) (get_or ws (b + 8) 0) (f (b + 7)),
      low_vertex_from (get_or ws (b + 9) 0) (get_or ws (b + 10) 0) (f (b + 9)),
      high_vertex_from (get_or ws (b + 9) 0) (get_or ws (b + 10) 0) (f (b + 9)),
      up 0 5 refl,
      up 1 6 refl,
      up 2 7 refl,
      up 3 8 refl,
      up 4 9 refl,
      up 5 10 refl,
    )

module _ (ws vs : List ℕ) (f : Words ws) (g : Words vs) (e : table_of ws ≡ table_of vs) (clear : Undamaged (table_of ws)) where
  -- the mark of slot n, on either side
  small : (us : List ℕ) → table_of us ≡ table_of vs → (n : ℕ) → n < 256 → get_or us (n * 11 + 0) 0 ≤ 4
  small us d n h =
      mark_small (get_or us (n * 11 + 0) 0)
      (λ bad.
      clear n h
      (ap (λ (t : Table). (at t n).state) (e ∙ sym d) ∙ ap (λ (s : Slot). s.state) (sym (at_words us n h)) ∙ bad))

  slot_words_eq : (n k : ℕ) → n < 256 → k < 11 → get_or ws (n * 11 + k) 0 ≡ get_or vs (n * 11 + k) 0
  slot_words_eq n k h q =
      let s : slot_from ws (n * 11) ≡ slot_from vs (n * 11) = at_words ws n h ∙ ap (λ (t : Table). at t n) e ∙ sym (at_words vs n h) in
      let w = sym (words_back ws (n * 11) f (small ws e n h)) ∙ ap slot_words s ∙ words_back vs (n * 11) g (small vs refl n h) in
      let p = ap (λ (l : List ℕ). get_or l k 0) w in
      rw zero-add at (sym (get_or-count (λ j. get_or ws (n * 11 + j) 0) 0 11 k 0 q) ∙ p ∙ get_or-count (λ j. get_or vs (n * 11 + j) 0) 0 11 k 0 q)

  counts_eq : (k : ℕ) → k < 3 → get_or ws (2816 + k) 0 ≡ get_or vs (2816 + k) 0
  unfolding table_of
  counts_eq zero q = ap (λ (t : Table). t.begin) e
  counts_eq (suc zero) q = ap (λ (t : Table). t.defects) e
  counts_eq (suc (suc zero)) q = ap (λ (t : Table). t.blossoms) e
  counts_eq (suc (suc (suc k))) q = absurd (omega arith)

  word_eq : (j : ℕ) → j < 2819 → get_or ws j 0 ≡ get_or vs j 0
  word_eq j h = go (dec_lt j 2816)
    where
      go : Dec (j < 2816) → get_or ws j 0 ≡ get_or vs j 0
      go (yes u) = let r : j / 11 * 11 + j % 11 ≡ j = omega arith in rw r at (slot_words_eq (j / 11) (j % 11) (omega arith) (omega arith))
      go (no u) = let r : 2816 + (j - 2816) ≡ j = omega arith in rw r at (counts_eq (j - 2816) (omega arith))

  pub words_determined : length ws ≡ 2819 → length vs ≡ 2819 → ws ≡ vs
  words_determined l m = ext_get_or 0 ws vs (l ∙ sym m) (λ j q. word_eq j (omega arith))
