-- What a promise determines, call by call.
use mathlib.Core.Path.{◌≡◌, refl, ap, sym, ◌∙◌}
use mathlib.Core.Bool.{Bool, true, false}
use mathlib.Core.List.{List}
use Prim.Native.Nat.{ℕ}
use lib.Dec.{T}
use lib.ListN.{length}
use Rattle.lists.specs.Choice.{pick}
use Rattle.table.specs.Table.{Table, at, Undamaged}
use Rattle.slot.specs.declared.state.State.TheVariants as S
use Rattle.slot.specs.Slot.{Slot}
use native.Mathlib.Omega.{arith}
use Rattle.std.specs.Prelude.{Ok, Err}
use Rattle.table.specs.Words.{table_of}
use Rattle.table.proofs.WordsOfSlots.{slots_length}
use Rattle.table.proofs.Determined.{words_determined}
use Rattle.table.specs.Making.{fresh}
use Rattle.refusal.specs.declared.Refusal.TheVariants.{BadBegin}
use Rattle.refusal.specs.Refusal.{Answer, Verdict, number_of, answer_number, answer_side, answer_written}
use Rattle.refusal.proofs.Numbers.{is_done, same_answer}
use Rattle.record.specs.declared.request.Request.{Request}
use Rattle.rules.specs.Act.{Act, World, world_of, run}
use Rattle.rules.specs.Sound.{sound}
use Rattle.rules.specs.Calls.{act_of, verdict}
use Rattle.rules.specs.Run.{began}
use Rattle.theorems_soundness.proofs.Resetting.{fresh_at}
use Rattle.theorems_soundness.proofs.Kept.{run_keeps_sound}
use Rattle.theorems_soundness.proofs.SoundFacts.{sound→facts}
use Rattle.outcome.specs.Handled.{Outcome}
use Rattle.outcome.specs.Call.{Call}
use Rattle.theorems_promises.specs.Lent.{Lent}
use Rattle.theorems_promises.proofs.Accepted.{act_sound}
use Rattle.outcome.specs.Tape.{Tape}
use Rattle.outcome.proofs.RunOutcomes.{RunOutcome, not_sound, did-run, run_outcome}

-- the words of a sound table are determined by it
pub same_words : (words words' : List ℕ) → Lent words → Lent words' → table_of words ≡ table_of words' → T (sound (table_of words)) → words ≡ words'
same_words words words' l l' e s =
    words_determined words words' l.1 l'.1 e (λ n q. (sound→facts (table_of words) (slots_length words) s).rest.undamaged n) l.0 l'.0

-- two answers that were done, with as many bytes written
same_done : (r r' : Answer) → answer_number r ≡ 0 → answer_number r' ≡ 0 → answer_written r ≡ answer_written r' → r ≡ r'
same_done r r' e e' w = is_done r e ∙ ap Ok w ∙ sym (is_done r' e')

-- ---- making

-- the promise of making, with the test of begin as a variable
abbrev pub MadeBy : Bool → List ℕ → ℕ → Answer → List ℕ → Type 0
MadeBy fits before b r after =
    pick fits
    ((answer_number r ≡ 0) × (answer_written r ≡ 0) × (table_of after ≡ fresh b))
    ((answer_number r ≡ number_of BadBegin) × (answer_side r ≡ 0) × (answer_written r ≡ 0) × (after ≡ before))

pub made-once :
    (fits : Bool) (before : List ℕ) (b : ℕ) (r r' : Answer) (after after' : List ℕ)
    → Lent after
    → Lent after'
    → MadeBy fits before b r after
    → MadeBy fits before b r' after'
    → (r ≡ r') × (after ≡ after')
made-once true before b r r' after after' l l' h h' =
    let clear : Undamaged (table_of after) = λ n q e. let f : S.Empty ≡ S.Damaged = sym (ap (λ (t : Table). (at t n).state) h.2 ∙ ap (λ (x : Slot). x.state) (fresh_at b n)) ∙ e in let z : ◌≡◌ {A = ℕ} 0 1 = cc in absurd (omega arith) in
    (same_done r r' h.0 h'.0 (h.1 ∙ sym h'.1), words_determined after after' l.1 l'.1 (h.2 ∙ sym h'.2) clear l.0 l'.0)
made-once false before b r r' after after' l l' h h' = (same_answer r r' (h.0 ∙ sym h'.0) (h.1 ∙ sym h'.1) (h.2 ∙ sym h'.2), h.3 ∙ sym h'.3)

-- ---- requests

module _ (act : Act) (pos : ℕ) (words bytes : List ℕ) (r r' : Answer) (words₁ words₂ bytes₁ bytes₂ : List ℕ) where
  outcome-once :
      (v : Verdict)
      → (v ≡ Ok tt → table_of words₁ ≡ (act (table_of words)).table → table_of words₁ ≡ table_of words₂ → words₁ ≡ words₂)
      → Outcome v act pos words bytes r words₁ bytes₁
      → Outcome v act pos words bytes r' words₂ bytes₂
      → (r ≡ r') × (words₁ ≡ words₂) × (bytes₁ ≡ bytes₂)
  unfolding run
  outcome-once (Err e) same h k =
      (same_answer r r' (h.0 ∙ sym k.0) (h.1 ∙ sym k.1) (h.2 ∙ sym k.2), h.3 ∙ sym k.3, h.4 ∙ sym k.4)
  outcome-once (Ok u) same h k =
      let e : world_of words₁ bytes₁ (answer_written r) ≡ world_of words₂ bytes₂ (answer_written r') = h.1 ∙ sym k.1 in
      (same_done r r' h.0 k.0 (ap (λ (w : World). w.out.pos) e), same refl (ap (λ (w : World). w.table) h.1) (ap (λ (w : World). w.table) e), ap (λ (w : World). w.out.buf) e)

pub call-determined :
    (q : Request) (words bytes : List ℕ) (r r' : Answer) (words₁ words₂ bytes₁ bytes₂ : List ℕ)
    → Lent words₁
    → Lent words₂
    → Call q words bytes r words₁ bytes₁
    → Call q words bytes r' words₂ bytes₂
    → (r ≡ r') × (words₁ ≡ words₂) × (bytes₁ ≡ bytes₂)
call-determined q words bytes r r' words₁ words₂ bytes₁ bytes₂ l₁ l₂ h k =
    outcome-once (act_of q) 0 words bytes r r' words₁ words₂ bytes₁ bytes₂ (verdict q (table_of words) (length bytes)) same h k
  where
    same : verdict q (table_of words) (length bytes) ≡ Ok tt → table_of words₁ ≡ (act_of q (table_of words)).table → table_of words₁ ≡ table_of words₂ → words₁ ≡ words₂
    same a d e = same_words words₁ words₂ l₁ l₂ e (rw d (act_sound q words (length bytes) a))

-- ---- the run

pub run-determined :
    (allowance : ℕ) (words bytes tape : List ℕ) (stop stop' refusal refusal' handled handled' written written' : ℕ) (rest rest' words₁ words₂ bytes₁ bytes₂ : List ℕ)
    → Lent words₁
    → Lent words₂
    → Tape allowance words bytes tape stop refusal handled written rest words₁ bytes₁
    → Tape allowance words bytes tape stop' refusal' handled' written' rest' words₂ bytes₂
    → (stop ≡ stop') × (refusal ≡ refusal') × (handled ≡ handled') × (written ≡ written') × (rest ≡ rest') × (words₁ ≡ words₂) × (bytes₁ ≡ bytes₂)
run-determined allowance words bytes tape stop stop' refusal refusal' handled handled' written written' rest rest' words₁ words₂ bytes₁ bytes₂ l₁ l₂ h k =
    once (run_outcome allowance words bytes tape stop refusal handled written rest words₁ bytes₁ h) (run_outcome allowance words bytes tape stop' refusal' handled' written' rest' words₂ bytes₂ k)
  where
    once :
        RunOutcome allowance words bytes tape stop refusal handled written rest words₁ bytes₁
        → RunOutcome allowance words bytes tape stop' refusal' handled' written' rest' words₂ bytes₂
        → (stop ≡ stop') × (refusal ≡ refusal') × (handled ≡ handled') × (written ≡ written') × (rest ≡ rest') × (words₁ ≡ words₂) × (bytes₁ ≡ bytes₂)
    once (not_sound _ a) (not_sound _ b) =
        (a.0 ∙ sym b.0, a.1 ∙ sym b.1, a.2 ∙ sym b.2, a.3 ∙ sym b.3, a.4 ∙ sym b.4, a.5 ∙ sym b.5, a.6 ∙ sym b.6)
    once (not_sound d a) (did-run s b) = absurd (d s)
    once (did-run s a) (not_sound d b) = absurd (d s)
    once (did-run s a) (did-run _ b) =
        let w : world_of words₁ bytes₁ written ≡ world_of words₂ bytes₂ written' = a.4 ∙ sym b.4 in
        let after : T (sound (table_of words₁)) = rw (ap (λ (x : World). x.table) a.4) (run_keeps_sound allowance (began (world_of words bytes 0) tape) (slots_length words) s) in
        (a.0 ∙ sym b.0, a.1 ∙ sym b.1, a.2 ∙ sym b.2, ap (λ (x : World). x.out.pos) w, a.3 ∙ sym b.3, same_words words₁ words₂ l₁ l₂ (ap (λ (x : World). x.table) w) after, ap (λ (x : World). x.out.buf) w)
