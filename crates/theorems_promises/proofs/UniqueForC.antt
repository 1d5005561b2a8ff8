-- Unique results: any two results that satisfy the promise of a call for C, for the same arguments, coincide. From the uniqueness of the
-- calls below: a number and the bytes written stand for one answer.
use mathlib.Core.Path.{◌≡◌, sym, ap, ◌∙◌}
use mathlib.Core.List.{List, []}
use Prim.Native.Nat.{ℕ}
use lib.ListN.{length}
use Rattle.table.specs.Words.{table_of}
use Rattle.table.specs.Making.{begin_fits}
use Rattle.refusal.specs.Refusal.{answer_number, answer_written}
use Rattle.record.specs.declared.request.Request.{Request}
use Rattle.record.specs.declared.request.Request.TheVariants as Q
use Rattle.rules.specs.Fault.{first_fault}
use Rattle.rules.specs.Act.{world_of}
use Rattle.rules.specs.Calls.{act_of, verdict}
use Rattle.rules.specs.Run.{run_tape}
use Rattle.outcome.specs.Partner.{partner_of}
use Rattle.outcome.specs.PartnerInNumbers.{ToldPartner}
use Rattle.outcome.specs.FaultInNumbers.{ToldFault}
use Rattle.outcome.specs.Numbered.{Called, CalledWithSide, WasReset, WasMade, Run}
use Rattle.theorems_promises.specs.Lent.{Lent}
use Rattle.theorems_promises.proofs.Unique.{make-once, call-once, run-once}
use Rattle.theorems_promises.proofs.NumbersAsAnswers.{answer_of, answered-by, number_by, made_answer, made_by, rest_of, hands_out}

pub called-once :
    (q : Request) (words bytes : List ℕ) (number number' written written' : ℕ) (words₁ words₂ bytes₁ bytes₂ : List ℕ)
    → Lent words₁
    → Lent words₂
    → Called q words bytes number written words₁ bytes₁
    → Called q words bytes number' written' words₂ bytes₂
    → (number ≡ number') × (written ≡ written') × (words₁ ≡ words₂) × (bytes₁ ≡ bytes₂)
called-once q words bytes number number' written written' words₁ words₂ bytes₁ bytes₂ l₁ l₂ h k =
    let v = verdict q (table_of words) (length bytes) in
    let one = answered-by v (act_of q) words bytes number written words₁ bytes₁ h in
    let two = answered-by v (act_of q) words bytes number' written' words₂ bytes₂ k in
    let same = call-once q words bytes (answer_of v written) (answer_of v written') words₁ words₂ bytes₁ bytes₂ l₁ l₂ one two in
    let n = number_by v (act_of q) words bytes number written words₁ bytes₁ h in
    let n' = number_by v (act_of q) words bytes number' written' words₂ bytes₂ k in
    (n.0 ∙ ap answer_number same.0 ∙ sym n'.0, n.1 ∙ ap answer_written same.0 ∙ sym n'.1, same.1, same.2)

-- .. with the side, where it is told
pub called-with-side-once :
    (q : Request) (words bytes : List ℕ) (number number' side side' written written' : ℕ) (words₁ words₂ bytes₁ bytes₂ : List ℕ)
    → Lent words₁
    → Lent words₂
    → CalledWithSide q words bytes number side written words₁ bytes₁
    → CalledWithSide q words bytes number' side' written' words₂ bytes₂
    → (number ≡ number') × (side ≡ side') × (written ≡ written') × (words₁ ≡ words₂) × (bytes₁ ≡ bytes₂)
called-with-side-once q words bytes number number' side side' written written' words₁ words₂ bytes₁ bytes₂ l₁ l₂ h k =
    let same = called-once q words bytes number number' written written' words₁ words₂ bytes₁ bytes₂ l₁ l₂ h.0 k.0 in
    (same.0, h.1 ∙ sym k.1, same.1, same.2, same.3)

pub reset_once :
    (words : List ℕ) (number number' : ℕ) (words₁ words₂ : List ℕ)
    → Lent words₁
    → Lent words₂
    → WasReset words number words₁
    → WasReset words number' words₂
    → (number ≡ number') × (words₁ ≡ words₂)
reset_once words number number' words₁ words₂ l₁ l₂ h k =
    let same = called-once Q.Reset words [] number number' 0 0 words₁ words₂ [] [] l₁ l₂ h k in (same.0, same.2)

pub made-once :
    (before : List ℕ) (b number number' : ℕ) (after after' : List ℕ)
    → Lent after
    → Lent after'
    → WasMade before b number after
    → WasMade before b number' after'
    → (number ≡ number') × (after ≡ after')
made-once before b number number' after after' l l' h k =
    let a = made_answer (begin_fits b) in
    let one = made_by (begin_fits b) before after b number h in
    let two = made_by (begin_fits b) before after' b number' k in
    (one.0 ∙ sym two.0, (make-once before b a a after after' l l' one.1 two.1).1)

pub ran-once :
    (allowance : ℕ)
    (words bytes tape : List ℕ)
    (number number' stop stop' handled handled' written written' unread unread' : ℕ)
    (words₁ words₂ bytes₁ bytes₂ : List ℕ)
    → Lent words₁
    → Lent words₂
    → Run allowance words bytes tape number stop handled written unread words₁ bytes₁
    → Run allowance words bytes tape number' stop' handled' written' unread' words₂ bytes₂
    → (number ≡ number')
    × (stop ≡ stop')
    × (handled ≡ handled')
    × (written ≡ written')
    × (unread ≡ unread')
    × (words₁ ≡ words₂)
    × (bytes₁ ≡ bytes₂)
ran-once allowance words bytes tape number number' stop stop' handled handled' written written' unread unread' words₁ words₂ bytes₁ bytes₂ l₁ l₂ h k =
    let r = run_tape allowance (world_of words bytes 0) tape in
    let rest = rest_of r tape in
    let one = hands_out r words bytes tape number stop handled written unread words₁ bytes₁ h in
    let two = hands_out r words bytes tape number' stop' handled' written' unread' words₂ bytes₂ k in
    let same = run-once allowance words bytes tape stop stop' number number' handled handled' written written' rest rest words₁ words₂ bytes₁ bytes₂ l₁ l₂ one.1 two.1 in
    (same.1, same.0, same.2, same.3, one.0 ∙ sym two.0, same.5, same.6)

-- the question for a partner: its promise is an equation for each number
pub partner-told-once :
    (words : List ℕ) (d number number' kind kind' partner partner' through through' peer peer' : ℕ)
    → ToldPartner (partner_of (table_of words) d) number kind partner through peer
    → ToldPartner (partner_of (table_of words) d) number' kind' partner' through' peer'
    → (number ≡ number') × (kind ≡ kind') × (partner ≡ partner') × (through ≡ through') × (peer ≡ peer')
partner-told-once words d number number' kind kind' partner partner' through through' peer peer' h k =
    (h.0 ∙ sym k.0, h.1 ∙ sym k.1, h.2 ∙ sym k.2, h.3 ∙ sym k.3, h.4 ∙ sym k.4)

-- the question why a table is damaged
pub fault-told-once :
    (words : List ℕ) (rule rule' slot slot' : ℕ)
    → ToldFault (first_fault (table_of words)) rule slot
    → ToldFault (first_fault (table_of words)) rule' slot'
    → (rule ≡ rule') × (slot ≡ slot')
fault-told-once words rule rule' slot slot' h k = (h.0 ∙ sym k.0, h.1 ∙ sym k.1)
