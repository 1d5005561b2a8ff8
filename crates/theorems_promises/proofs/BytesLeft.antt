-- What whatever keeps a promise leaves in the lent bytes, call by call.
use mathlib.Core.Path.{◌≡◌, refl, ap, ◌∙◌}
use mathlib.Core.List.{List, [], ◌++◌}
use Prim.Native.Nat.{ℕ, ◌≤◌}
use native.Mathlib.Nat.{zero-add}
use native.Mathlib.Omega.{arith}
use lib.ListN.{length, drop}
use Rattle.std.specs.Prelude.{Ok, Err}
use Rattle.table.specs.Words.{table_of}
use Rattle.table.proofs.WordsOfSlots.{slots_length}
use Rattle.refusal.specs.declared.Side.{Side}
use Rattle.refusal.specs.declared.Refusal.{Refusal}
use Rattle.refusal.specs.Refusal.{Answer, Verdict, at_side, number_of, side_number, answer_number, answer_side, answer_written}
use Rattle.refusal.proofs.Numbers.{is_refused}
use Rattle.record.specs.declared.request.Request.{Request}
use Rattle.record.specs.declared.answer.Record.{Record}
use Rattle.record.specs.Writing.{Out, out_of, write_all, bytes_of}
use Rattle.rules.specs.Act.{World, world_of, run, skip}
use Rattle.rules.specs.Calls.{act_of, verdict, answered}
use Rattle.rules.specs.Run.{requests_of}
use Rattle.theorems_soundness.proofs.Wholes.{to_whole}
use Rattle.theorems_requests.proofs.ListingRoom.{run-written}
use Rattle.theorems_requests.proofs.AnsweredBytes.{answered_bytes}
use Rattle.outcome.specs.Handled.{Outcome}
use Rattle.outcome.specs.Call.{Call}
use Rattle.outcome.specs.Tape.{Tape}
use Rattle.outcome.proofs.RunOutcomes.{RunOutcome, not_sound, did-run, run_outcome}
use Rattle.theorems_promises.specs.InARow.{in_arow}
use Rattle.theorems_promises.proofs.Accepted.{done, answered_act}
use Rattle.theorems_promises.proofs.RunInARow.{run-in-row}

-- answers, and behind them the bytes as they were
abbrev pub Left : List ℕ → List ℕ → ℕ → List ℕ → Type 0
Left answers bytes written bytes' = (written ≡ length answers) × (bytes' ≡ answers ++ drop (length answers) bytes)

written-first :
    (rs : List Record) (l : List ℕ)
    → length (bytes_of rs) ≤ length l
    → write_all (out_of l 0) rs ≡ out_of (bytes_of rs ++ drop (length (bytes_of rs)) l) (length (bytes_of rs))
written-first rs l h = rw zero-add at (run-written rs l 0 (omega arith))

left :
    (rs : List Record) (bytes bytes' : List ℕ) (written : ℕ)
    → length (bytes_of rs) ≤ length bytes
    → out_of bytes' written ≡ write_all (out_of bytes 0) rs
    → Left (bytes_of rs) bytes written bytes'
left rs bytes bytes' written h e =
    let f = e ∙ written-first rs bytes h in
    (ap (λ (o : Out). o.pos) f, ap (λ (o : Out). o.buf) f)

-- ---- requests

pub call_fits : (q : Request) (words bytes : List ℕ) → length (bytes_of (answered q (length bytes) (table_of words)).said) ≤ length bytes
call_fits q words bytes = (answered_bytes (table_of words) (slots_length words) (length bytes) q).1

module _ (q : Request) (words bytes : List ℕ) (r : Answer) (words' bytes' : List ℕ) where
  refused_said : (n : Refusal) (s : Side) → verdict q (table_of words) (length bytes) ≡ Err (at_side n s) → (answered q (length bytes) (table_of words)).said ≡ []
  unfolding answered skip
  refused_said n s e = rw e

  pub accepted-left :
      verdict q (table_of words) (length bytes) ≡ Ok tt
      → Call q words bytes r words' bytes'
      → let answers = bytes_of (act_of q (table_of words)).said in
      (r ≡ Ok (length answers)) × (bytes' ≡ answers ++ drop (length answers) bytes)
  accepted-left e h =
      let d = done q words bytes words' bytes' r e h in
      let fits = rw (answered_act q (table_of words) (length bytes) e) at (call_fits q words bytes) in
      let l = left (act_of q (table_of words)).said bytes bytes' (answer_written r) fits d.out in
      (d.answer ∙ ap Ok l.0, l.1)

  refused_by : (v : Verdict) (n : Refusal) (s : Side) → v ≡ Err (at_side n s) → Outcome v (act_of q) 0 words bytes r words' bytes' → (r ≡ Err (at_side n s)) × (words' ≡ words) × (bytes' ≡ bytes)
  refused_by v n s e h =
      let o : (answer_number r ≡ number_of n) × (answer_side r ≡ side_number s) × (answer_written r ≡ 0) × (words' ≡ words) × (bytes' ≡ bytes) = rw e at h in
      (is_refused r (at_side n s) o.0 o.1, o.3, o.4)

  pub refused_left : (n : Refusal) (s : Side) → verdict q (table_of words) (length bytes) ≡ Err (at_side n s) → Call q words bytes r words' bytes' → (r ≡ Err (at_side n s)) × (words' ≡ words) × (bytes' ≡ bytes)
  refused_left n s e h = refused_by (verdict q (table_of words) (length bytes)) n s e h

  left_by : (v : Verdict) → verdict q (table_of words) (length bytes) ≡ v → Call q words bytes r words' bytes' → Left (bytes_of (answered q (length bytes) (table_of words)).said) bytes (answer_written r) bytes'
  unfolding bytes_of
  left_by (Ok u) e h = let l = accepted-left e h in rw (answered_act q (table_of words) (length bytes) e) (ap answer_written l.0, l.1)
  left_by (Err x) e h = let l = refused_left x.refusal x.side e h in rw (refused_said x.refusal x.side e) (ap answer_written l.0, l.2)

  pub call_left : Call q words bytes r words' bytes' → Left (bytes_of (answered q (length bytes) (table_of words)).said) bytes (answer_written r) bytes'
  call_left h = left_by (verdict q (table_of words) (length bytes)) refl h

-- ---- the run

module _ (words bytes tape : List ℕ) (stop refusal handled written : ℕ) (rest words' bytes' : List ℕ) where
  -- table and bytes after so many requests of the tape in a row
  pub record Row : Type 0 where
    pub table : table_of words' ≡ (in_arow (requests_of handled tape) (table_of words)).table
    pub fits : length (bytes_of (in_arow (requests_of handled tape) (table_of words)).said) ≤ length bytes
    pub bytes_left : Left (bytes_of (in_arow (requests_of handled tape) (table_of words)).said) bytes written bytes'

  none_done : handled ≡ 0 → written ≡ 0 → words' ≡ words → bytes' ≡ bytes → Row
  unfolding requests_of in_arow skip bytes_of
  none_done e f g k = record { table = rw (e, g); fits = rw e (omega arith); bytes_left = rw (e, f, k) (refl, refl) }

  row_done :
      world_of words' bytes' written ≡ run (world_of words bytes 0) (in_arow (requests_of handled tape))
      → length (bytes_of (in_arow (requests_of handled tape) (table_of words)).said) ≤ length bytes
      → Row
  unfolding run
  row_done e fits =
      record {
        table = ap (λ (w : World). w.table) e;
        fits = fits;
        bytes_left = left (in_arow (requests_of handled tape) (table_of words)).said bytes bytes' written fits (ap (λ (w : World). w.out) e);
      }

  row_by : (allowance : ℕ) → RunOutcome allowance words bytes tape stop refusal handled written rest words' bytes' → Row
  row_by allowance (not_sound d h) = none_done h.2 h.3 h.5 h.6
  row_by allowance (did-run s h) =
      let k = run-in-row allowance (world_of words bytes 0) tape (to_whole (table_of words) (slots_length words) s) in
      row_done (rw h.2 (h.4 ∙ k.0)) (rw h.2 (omega (arith, k.1)))

  pub run_left : (allowance : ℕ) → Tape allowance words bytes tape stop refusal handled written rest words' bytes' → Row
  run_left allowance h = row_by allowance (run_outcome allowance words bytes tape stop refusal handled written rest words' bytes' h)
