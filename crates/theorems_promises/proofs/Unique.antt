-- Unique results: any two results that satisfy a public call's promise for the same arguments coincide: the answer, the words, every
-- byte of the lent bytes, the returned rest.
use mathlib.Core.Path.{◌≡◌, ap, sym, ◌∙◌}
use mathlib.Core.Bool.{Bool}
use mathlib.Core.List.{List, []}
use Prim.Native.Nat.{ℕ}
use Rattle.std.specs.Prelude.{Option, Result, Ok, Err}
use Rattle.table.specs.Words.{table_of}
use Rattle.table.specs.Making.{Made, begin_fits}
use Rattle.refusal.specs.declared.Refusal.{Refusal}
use Rattle.record.specs.declared.request.Request.{Request}
use Rattle.record.specs.declared.request.Request.TheVariants as Q
use Rattle.record.specs.Reading.{Reading, Read}
use Rattle.record.specs.Writing.{Wrote, wrote_of, wrote, out_of}
use Rattle.record.proofs.ReadInNumbers.{read_of_numbers}
use Rattle.refusal.proofs.Numbers.{same_answer}
use Rattle.std.specs.Prelude.{Option}
use Rattle.refusal.specs.Refusal.{Answer}
use Rattle.rules.specs.declared.fault.Fault.{Fault}
use Rattle.rules.specs.Sound.{sound}
use Rattle.rules.specs.Fault.{first_fault}
use Rattle.outcome.specs.declared.partner.Partner.{Partner}
use Rattle.outcome.specs.Call.{Call, Reset}
use Rattle.outcome.specs.Partner.{partner_of}
use Rattle.outcome.specs.declared.run.Run.{Run}
use Rattle.outcome.specs.declared.run.NotRun.{NotRun}
use Rattle.outcome.specs.Tape.{Tape, Runs, SameRun}
use Rattle.outcome.proofs.RunOutcomes.{same_runs}
use Rattle.theorems_promises.specs.Lent.{Lent}
use Rattle.theorems_promises.proofs.Determining.{made-once, call-determined, run-determined}

-- making
pub make-once :
    (before : List ℕ) (b : ℕ) (r r' : Answer) (after after' : List ℕ)
    → Lent after
    → Lent after'
    → Made before b r after
    → Made before b r' after'
    → (r ≡ r') × (after ≡ after')
make-once before b r r' after after' l l' h h' = made-once (begin_fits b) before b r r' after after' l l' h h'

-- conflict, virtual conflict, expansion and listing
pub call-once :
    (q : Request) (words bytes : List ℕ) (r r' : Answer) (words₁ words₂ bytes₁ bytes₂ : List ℕ)
    → Lent words₁
    → Lent words₂
    → Call q words bytes r words₁ bytes₁
    → Call q words bytes r' words₂ bytes₂
    → (r ≡ r') × (words₁ ≡ words₂) × (bytes₁ ≡ bytes₂)
call-once = call-determined

-- reset, which takes no bytes
pub reset_once : (words : List ℕ) (r r' : Answer) (words₁ words₂ : List ℕ) → Lent words₁ → Lent words₂ → Reset words r words₁ → Reset words r' words₂ → (r ≡ r') × (words₁ ≡ words₂)
reset_once words r r' words₁ words₂ l₁ l₂ h k = let o = call-determined Q.Reset words [] r r' words₁ words₂ [] [] l₁ l₂ h k in (o.0, o.1)

-- the run
pub run-once :
    (allowance : ℕ) (words bytes tape : List ℕ) (stop stop' refusal refusal' handled handled' written written' : ℕ) (rest rest' words₁ words₂ bytes₁ bytes₂ : List ℕ)
    → Lent words₁
    → Lent words₂
    → Tape allowance words bytes tape stop refusal handled written rest words₁ bytes₁
    → Tape allowance words bytes tape stop' refusal' handled' written' rest' words₂ bytes₂
    → (stop ≡ stop') × (refusal ≡ refusal') × (handled ≡ handled') × (written ≡ written') × (rest ≡ rest') × (words₁ ≡ words₂) × (bytes₁ ≡ bytes₂)
run-once = run-determined

-- .. and as its result tells it
runs-after :
    (allowance : ℕ) (words bytes tape : List ℕ) (r r' : Result Run NotRun) (words₁ words₂ bytes₁ bytes₂ : List ℕ)
    → Lent words₁
    → Lent words₂
    → Runs allowance words bytes tape r words₁ bytes₁
    → Runs allowance words bytes tape r' words₂ bytes₂
    → SameRun r r'
    → (words₁ ≡ words₂) × (bytes₁ ≡ bytes₂)
runs-after allowance words bytes tape (Ok r) (Ok r') words₁ words₂ bytes₁ bytes₂ l₁ l₂ h k same =
    let o = run-once allowance words bytes tape _ _ _ _ _ _ _ _ _ _ words₁ words₂ bytes₁ bytes₂ l₁ l₂ h k in (o.5, o.6)
runs-after allowance words bytes tape (Err e) (Err e') words₁ words₂ bytes₁ bytes₂ l₁ l₂ h k same =
    let o = run-once allowance words bytes tape _ _ _ _ _ _ _ _ _ _ words₁ words₂ bytes₁ bytes₂ l₁ l₂ h k in (o.5, o.6)
runs-after allowance words bytes tape (Ok r) (Err e) words₁ words₂ bytes₁ bytes₂ l₁ l₂ h k same = absurd same
runs-after allowance words bytes tape (Err e) (Ok r) words₁ words₂ bytes₁ bytes₂ l₁ l₂ h k same = absurd same

pub runs_once :
    (allowance : ℕ) (words bytes tape : List ℕ) (r r' : Result Run NotRun) (words₁ words₂ bytes₁ bytes₂ : List ℕ)
    → Lent words₁
    → Lent words₂
    → Runs allowance words bytes tape r words₁ bytes₁
    → Runs allowance words bytes tape r' words₂ bytes₂
    → SameRun r r' × (words₁ ≡ words₂) × (bytes₁ ≡ bytes₂)
runs_once allowance words bytes tape r r' words₁ words₂ bytes₁ bytes₂ l₁ l₂ h k =
    let same = same_runs allowance words bytes tape words₁ words₂ bytes₁ bytes₂ r r' h k in
    let after = runs-after allowance words bytes tape r r' words₁ words₂ bytes₁ bytes₂ l₁ l₂ h k same in
    (same, after.0, after.1)

-- the soundness check: its promise is an equation for the answer
pub sound_once : (words : List ℕ) (r r' : Bool) → r ≡ sound (table_of words) → r' ≡ sound (table_of words) → r ≡ r'
sound_once words r r' h k = h ∙ sym k

-- .. and so is that of the question for a partner
pub partner_once : (words : List ℕ) (d : ℕ) (r r' : Result (Option Partner) Refusal) → r ≡ partner_of (table_of words) d → r' ≡ partner_of (table_of words) d → r ≡ r'
partner_once words d r r' h k = h ∙ sym k

-- .. and that of the question why a table is damaged
pub fault_once : (words : List ℕ) (r r' : Option Fault) → r ≡ first_fault (table_of words) → r' ≡ first_fault (table_of words) → r ≡ r'
fault_once words r r' h k = h ∙ sym k

-- reading
pub reading_once : (tape : List ℕ) (r r' : Reading) → Read tape r → Read tape r' → r ≡ r'
reading_once tape r r' h k = read_of_numbers tape r h ∙ sym (read_of_numbers tape r' k)

-- writing, of a request's bytes or an answer's: an equation for the bytes, the number, the side and how many bytes were written
pub writing-once :
    (bytes record-bytes bytes₁ bytes₂ : List ℕ) (pos : ℕ) (r r' : Answer)
    → wrote_of bytes₁ r ≡ wrote (out_of bytes pos) record-bytes
    → wrote_of bytes₂ r' ≡ wrote (out_of bytes pos) record-bytes
    → (r ≡ r') × (bytes₁ ≡ bytes₂)
writing-once bytes record-bytes bytes₁ bytes₂ pos r r' h k = let e = h ∙ sym k in
    (same_answer r r' (ap (λ (w : Wrote). w.number) e) (ap (λ (w : Wrote). w.side) e) (ap (λ (w : Wrote). w.size) e), ap (λ (w : Wrote). w.buf) e)
