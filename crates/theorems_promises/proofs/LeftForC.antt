-- What whatever keeps the promise of a call for C leaves: from the calls below.
use mathlib.Core.Path.{◌≡◌, refl, ap, sym, ◌∙◌}
use mathlib.Core.Logic.{◌≢◌}
use mathlib.Core.List.{List, ◌++◌}
use Prim.Native.Nat.{ℕ}
use native.Mathlib.Omega.{arith}
use lib.Dec.{T}
use lib.ListN.{length, drop}
use Rattle.std.specs.Prelude.{Ok, Err}
use Rattle.table.specs.Words.{table_of}
use Rattle.table.specs.Making.{begin_fits}
use Rattle.refusal.specs.Refusal.{Answer, Verdict, answer_number}
use Rattle.record.specs.declared.request.Request.{Request}
use Rattle.record.specs.Writing.{bytes_of}
use Rattle.rules.specs.Act.{world_of}
use Rattle.rules.specs.Sound.{sound}
use Rattle.rules.specs.Calls.{act_of, verdict, verdict_number, answered}
use Rattle.rules.specs.Run.{run_tape}
use Rattle.outcome.specs.Numbered.{Called, WasMade, Run}
use Rattle.theorems_promises.proofs.NumbersAsAnswers.{answer_of, answered-by, number_by, made_answer, made_by, rest_of, hands_out}
use Rattle.theorems_promises.proofs.SoundLeft.{Making, made, refused, making, call_sound, run_sound}
use Rattle.theorems_promises.proofs.BytesLeft.{call_left, Row, run_left}

-- ---- making

module _ (before : List ℕ) (r : Answer) (after : List ℕ) where
  sound-at_0 : answer_number r ≡ 0 → Making before r after → T (sound (table_of after))
  sound-at_0 z (made e s) = s
  sound-at_0 z (refused e k) = absurd (omega (arith, ap answer_number e))

  same_not_at_0 : answer_number r ≢ 0 → Making before r after → after ≡ before
  same_not_at_0 d (made e s) = absurd (d (ap answer_number e))
  same_not_at_0 d (refused e k) = k

pub made_0_sound : (before : List ℕ) (b : ℕ) (after : List ℕ) → WasMade before b 0 after → T (sound (table_of after))
made_0_sound before b after h =
    let a = made_answer (begin_fits b) in
    let m = made_by (begin_fits b) before after b 0 h in
    sound-at_0 before a after (sym m.0) (making before b a after m.1)

pub not_made_same : (before : List ℕ) (b number : ℕ) (after : List ℕ) → number ≢ 0 → WasMade before b number after → after ≡ before
not_made_same before b number after d h =
    let a = made_answer (begin_fits b) in
    let m = made_by (begin_fits b) before after b number h in
    same_not_at_0 before a after (λ z. d (m.0 ∙ z)) (making before b a after m.1)

-- ---- requests

number_is : (v : Verdict) (written : ℕ) → answer_number (answer_of v written) ≡ verdict_number v
number_is (Ok u) written = refl
number_is (Err e) written = refl

module _ (q : Request) (words bytes : List ℕ) (number written : ℕ) (words' bytes' : List ℕ) where
  abbrev v : Verdict
  v = verdict q (table_of words) (length bytes)

  pub called_sound : T (sound (table_of words)) → Called q words bytes number written words' bytes' → T (sound (table_of words'))
  called_sound s h = call_sound words bytes (answer_of v written) words' bytes' q s (answered-by v (act_of q) words bytes number written words' bytes' h)

  pub called-left :
      Called q words bytes number written words' bytes'
      → let answers = bytes_of (answered q (length bytes) (table_of words)).said in
      (number ≡ verdict_number (verdict q (table_of words) (length bytes))) × (written ≡ length answers) × (bytes' ≡ answers ++ drop (length answers) bytes)
  called-left h =
      let n = number_by v (act_of q) words bytes number written words' bytes' h in
      let l = call_left q words bytes (answer_of v written) words' bytes' (answered-by v (act_of q) words bytes number written words' bytes' h) in
      (n.0 ∙ number_is v written, n.1 ∙ l.0, l.1)

-- ---- the run

module _ (allowance : ℕ) (words bytes tape : List ℕ) (number stop handled written unread : ℕ) (words' bytes' : List ℕ) where
  abbrev rest : List ℕ
  rest = rest_of (run_tape allowance (world_of words bytes 0) tape) tape

  pub ran_sound : T (sound (table_of words)) → Run allowance words bytes tape number stop handled written unread words' bytes' → T (sound (table_of words'))
  ran_sound s h =
      run_sound words bytes tape stop number handled written rest words' bytes' allowance s
      (hands_out (run_tape allowance (world_of words bytes 0) tape) words bytes tape number stop handled written unread words' bytes' h).1

  pub ran_left : Run allowance words bytes tape number stop handled written unread words' bytes' → Row words bytes tape stop number handled written rest words' bytes'
  ran_left h =
      run_left words bytes tape stop number handled written rest words' bytes' allowance
      (hands_out (run_tape allowance (world_of words bytes 0) tape) words bytes tape number stop handled written unread words' bytes' h).1
