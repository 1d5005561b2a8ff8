-- A request served: its answer, and then its end record.
use mathlib.Core.Path.{◌≡◌, sym, ap, ◌∙◌}
use mathlib.Core.Bool.{true}
use mathlib.Core.List.{List, [], ◌∷◌, ◌++◌}
use Prim.Native.Nat.{ℕ, ◌-◌}
use lib.ListN.{length}
use Rattle.std.specs.Prelude.{Ok, Err}
use Rattle.table.specs.Words.{table_of}
use Rattle.refusal.specs.Refusal.{Answer, Verdict, answer_written}
use Rattle.refusal.proofs.Numbers.{is_done, is_refused}
use Rattle.record.specs.declared.request.Request.{Request}
use Rattle.record.specs.declared.answer.Record.{Record}
use Rattle.record.specs.Records.{answer_bytes}
use Rattle.record.specs.Writing.{Out, out_of, written, write_all}
use Rattle.rules.specs.Act.{Act, World, world_of, run, skip}
use Rattle.rules.specs.Calls.{act_of, act_by, verdict, end_record, answered}
use Rattle.rules.specs.Run.{served}
use Rattle.table.proofs.WordsOfSlots.{slots_length}
use Rattle.theorems_soundness.proofs.Reflect.{true_test, test_true}
use Rattle.theorems_soundness.proofs.Kept.{answered_keeps_sound}
use Rattle.record.proofs.Written.{write_all_append}
use Rattle.rules.proofs.Runs.{world, run-skip}
use Rattle.rules.specs.Sound.{sound}
use Rattle.outcome.specs.Handled.{Outcome, Handled, later_verdict}
use Rattle.outcome.proofs.Verdicts.{sound-verdict}
use Rattle.primal.specs.Serving.{pos_after, verdict_told}

-- an act, and one record more
abbrev pub ended : World → Act → Record → World
ended w act end = record { table = (act w.table).table; out = write_all w.out ((act w.table).said ++ end ∷ []) }

ended-run : (w : World) (act : Act) (end : Record) → ended w act end ≡ world (run w act).table (written (run w act).out (answer_bytes end))
unfolding run write_all
ended-run w act end = rw write_all_append

served_by : (q : Request) (words bytes : List ℕ) (pos : ℕ) (v : Verdict) → verdict q (table_of words) (length bytes - pos) ≡ v → served q (world_of words bytes pos) ≡ ended (world_of words bytes pos) (act_by v q) (end_record v)
unfolding served answered
served_by q words bytes pos v e = rw e

module _ (q : Request) (pos : ℕ) (words bytes words' bytes' : List ℕ) (a : Answer) (o : Out) where
  by_verdict :
      (v : Verdict)
      → verdict q (table_of words) (length bytes - pos) ≡ v
      → Outcome v (act_of q) pos words bytes a words' bytes'
      → o ≡ written (out_of bytes' (pos_after pos a)) (answer_bytes (end_record (verdict_told a)))
      → world (table_of words') o ≡ served q (world_of words bytes pos)
  by_verdict (Ok u) e h p =
      let w : World = world_of words bytes pos in
      let end : Record = end_record (Ok tt) in
      let d : a ≡ Ok (answer_written a) = is_done a h.0 in
      let p' : o ≡ written (out_of bytes' (answer_written a)) (answer_bytes end) = p ∙ ap (λ (x : Answer). written (out_of bytes' (pos_after pos x)) (answer_bytes (end_record (verdict_told x)))) d in
      let r : World = world_of words' bytes' (answer_written a) in
      let g : world (table_of words') o ≡ world r.table (written r.out (answer_bytes end)) = ap (λ (x : Out). world (table_of words') x) p' in
      g
      ∙ ap (λ (x : World). world x.table (written x.out (answer_bytes end))) h.1
      ∙ sym (ended-run w (act_of q) end)
      ∙ sym (served_by q words bytes pos (Ok tt) e)
  by_verdict (Err x) e h p =
      let w : World = world_of words bytes pos in
      let end : Record = end_record (Err x) in
      let p' : o ≡ written (out_of bytes pos) (answer_bytes end) = p ∙ rw (is_refused a x h.0 h.1, h.4) in
      rw (h.3, p')
      (sym (served_by q words bytes pos (Err x) e ∙ ended-run w skip end ∙ rw run-skip))

module _ (q : Request) (pos : ℕ) (words bytes : List ℕ) (s : sound (table_of words) ≡ true) where
  pub served-step :
      (p : ℕ) (words' bytes' bytes'' : List ℕ) (a : Answer)
      → Handled q pos words bytes a words' bytes'
      → out_of bytes'' p ≡ written (out_of bytes' (pos_after pos a)) (answer_bytes (end_record (verdict_told a)))
      → world_of words' bytes'' p ≡ served q (world_of words bytes pos)
  served-step p words' bytes' bytes'' a h e =
      by_verdict q pos words bytes words' bytes' a (out_of bytes'' p) (later_verdict q (table_of words) (length bytes - pos)) (sound-verdict q (table_of words) (length bytes - pos) s) h e

  kept_by : (v : Verdict) (a : Answer) (words' bytes' : List ℕ) → verdict q (table_of words) (length bytes - pos) ≡ v → Outcome v (act_of q) pos words bytes a words' bytes' → sound (table_of words') ≡ true
  unfolding run answered
  kept_by (Ok u) a words' bytes' e h =
      let k = test_true (sound (answered q (length bytes - pos) (table_of words)).table) (answered_keeps_sound (table_of words) (slots_length words) (true_test (sound (table_of words)) s) q (length bytes - pos)) in
      ap (λ (w : World). sound w.table) h.1 ∙ (rw e at k)
  kept_by (Err x) a words' bytes' e h = rw h.3 s

  -- each request leaves a sound table sound
  pub handled_sound : (a : Answer) (words' bytes' : List ℕ) → Handled q pos words bytes a words' bytes' → sound (table_of words') ≡ true
  handled_sound a words' bytes' h = kept_by (later_verdict q (table_of words) (length bytes - pos)) a words' bytes' (sound-verdict q (table_of words) (length bytes - pos) s) h
