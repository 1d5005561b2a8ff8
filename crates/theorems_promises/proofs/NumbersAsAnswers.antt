-- The promises of the calls for C, each brought back to the promise of the call below it: a number and the bytes written stand for
-- one answer.
use mathlib.Core.Path.{◌≡◌, refl}
use mathlib.Core.Bool.{Bool, true, false}
use mathlib.Core.List.{List}
use Prim.Native.Nat.{ℕ}
use lib.ListN.{length}
use Rattle.std.specs.Prelude.{Ok, Err}
use Rattle.lists.specs.Choice.{pick}
use Rattle.table.specs.Words.{table_of}
use Rattle.table.specs.Making.{fresh}
use Rattle.refusal.specs.declared.Side.TheVariants.{Neither}
use Rattle.refusal.specs.declared.Refusal.TheVariants.{BadBegin}
use Rattle.refusal.specs.Refusal.{Answer, Verdict, at_side, number_of, answer_number, answer_written}
use Rattle.rules.specs.Act.{Act}
use Rattle.rules.specs.Run.{Ran, unsound, ran}
use Rattle.outcome.specs.Handled.{Outcome}
use Rattle.outcome.specs.Tape.{HandsOut}
use Rattle.outcome.specs.Numbered.{Numbered, RanTape}
use Rattle.theorems_promises.proofs.Determining.{MadeBy}

-- ---- requests

abbrev pub answer_of : Verdict → ℕ → Answer
answer_of (Err e) written = Err e
answer_of (Ok u) written = Ok written

pub answered-by :
    (v : Verdict) (act : Act) (words bytes : List ℕ) (number written : ℕ) (words' bytes' : List ℕ)
    → Numbered v act words bytes number written words' bytes'
    → Outcome v act 0 words bytes (answer_of v written) words' bytes'
answered-by (Err e) act words bytes number written words' bytes' h = (refl, refl, refl, h.2, h.3)
answered-by (Ok u) act words bytes number written words' bytes' h = (refl, h.1)

pub number_by :
    (v : Verdict) (act : Act) (words bytes : List ℕ) (number written : ℕ) (words' bytes' : List ℕ)
    → Numbered v act words bytes number written words' bytes'
    → (number ≡ answer_number (answer_of v written)) × (written ≡ answer_written (answer_of v written))
number_by (Err e) act words bytes number written words' bytes' h = (h.0, h.1)
number_by (Ok u) act words bytes number written words' bytes' h = (h.0, refl)

-- ---- making

abbrev pub made_answer : Bool → Answer
made_answer true = Ok 0
made_answer false = Err (at_side BadBegin Neither)

pub made_by :
    (fits : Bool) (before after : List ℕ) (b number : ℕ)
    → pick fits ((number ≡ 0) × (table_of after ≡ fresh b)) ((number ≡ number_of BadBegin) × (after ≡ before))
    → (number ≡ answer_number (made_answer fits)) × MadeBy fits before b (made_answer fits) after
made_by true before after b number h = (h.0, (refl, refl, h.1))
made_by false before after b number h = (h.0, (refl, refl, refl, h.1))

-- ---- the run

abbrev pub rest_of : Ran → List ℕ → List ℕ
rest_of unsound tape = tape
rest_of (ran e) tape = e.progress.rest

pub hands_out :
    (r : Ran) (words bytes tape : List ℕ) (number stop handled written unread : ℕ) (words' bytes' : List ℕ)
    → RanTape r words bytes tape number stop handled written unread words' bytes'
    → (unread ≡ length (rest_of r tape)) × HandsOut r words bytes tape stop number handled written (rest_of r tape) words' bytes'
hands_out unsound words bytes tape number stop handled written unread words' bytes' h =
    (h.4, (h.1, h.0, h.2, h.3, refl, h.5, h.6))
hands_out (ran e) words bytes tape number stop handled written unread words' bytes' h =
    (h.3, (h.1, h.0, h.2, refl, h.4))
