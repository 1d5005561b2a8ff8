-- An answer told in numbers keeps the promise of the call that gave it.
use mathlib.Core.Path.{◌≡◌, refl, sym, ap, ◌∙◌}
use mathlib.Core.List.{List, []}
use mathlib.Core.Bool.{Bool, true, false}
use Prim.Native.Nat.{ℕ}
use lib.ListN.{length}
use Rattle.std.specs.Prelude.{Ok, Err}
use Rattle.lists.specs.Choice.{pick}
use Rattle.table.specs.Words.{table_of}
use Rattle.table.specs.Making.{begin_fits, fresh, Made}
use Rattle.refusal.specs.declared.Refusal.TheVariants.{BadBegin}
use Rattle.refusal.specs.Refusal.{Answer, Verdict, number_of, answer_number, answer_side, answer_written}
use Rattle.refusal.proofs.Numbers.{is_done}
use Rattle.record.specs.declared.request.Request.{Request}
use Rattle.record.specs.declared.request.Request.TheVariants as Q
use Rattle.record.specs.Writing.{write_all}
use Rattle.rules.specs.Act.{Act, World, world_of, run, change}
use Rattle.rules.specs.Calls.{act_of, verdict, verdict_side}
use Rattle.outcome.specs.Handled.{Outcome}
use Rattle.outcome.specs.Call.{Call, Reset}
use Rattle.outcome.specs.Told.{Told}
use Rattle.outcome.specs.Numbered.{Numbered, Called, CalledWithSide, WasReset, WasMade}

told-by :
    (v : Verdict) (act : Act) (words bytes : List ℕ) (a : Answer) (words' bytes' : List ℕ) (number written : ℕ)
    → Outcome v act 0 words bytes a words' bytes'
    → Told a number written
    → Numbered v act words bytes number written words' bytes'
told-by (Err e) act words bytes a words' bytes' number written o p =
    (p.0 ∙ o.0, p.1 ∙ o.2, o.3, o.4)
told-by (Ok u) act words bytes a words' bytes' number written o p = (p.0 ∙ o.0, rw p.1 o.1)

pub told :
    (q : Request) (words bytes : List ℕ) (a : Answer) (words' bytes' : List ℕ) (number written : ℕ)
    → Call q words bytes a words' bytes'
    → Told a number written
    → Called q words bytes number written words' bytes'
told q words bytes = told-by (verdict q (table_of words) (length bytes)) (act_of q) words bytes

-- .. where the request was made from plain numbers
pub told-as :
    {A : Type 0} (f : A → Request) (r r' : A)
    → r ≡ r'
    → (words bytes : List ℕ) (a : Answer) (words' bytes' : List ℕ) (number written : ℕ)
    → Call (f r) words bytes a words' bytes'
    → Told a number written
    → Called (f r') words bytes number written words' bytes'
told-as f r r' e words bytes a words' bytes' number written p q = rw e at (told (f r) words bytes a words' bytes' number written p q)

-- .. and with its side
side-by :
    (v : Verdict) (act : Act) (words bytes : List ℕ) (a : Answer) (words' bytes' : List ℕ)
    → Outcome v act 0 words bytes a words' bytes'
    → answer_side a ≡ verdict_side v
side-by (Err e) act words bytes a words' bytes' o = o.1
side-by (Ok u) act words bytes a words' bytes' o = ap answer_side (is_done a o.0)

pub told-with-side :
    {A : Type 0} (f : A → Request) (r r' : A)
    → r ≡ r'
    → (words bytes : List ℕ) (a : Answer) (words' bytes' : List ℕ) (number side written : ℕ)
    → Call (f r) words bytes a words' bytes'
    → Told a number written
    → side ≡ answer_side a
    → CalledWithSide (f r') words bytes number side written words' bytes'
told-with-side f r r' e words bytes a words' bytes' number side written p q s =
    let told : verdict (f r') (table_of words) (length bytes) ≡ verdict (f r) (table_of words) (length bytes) = rw e in (
      told-as f r r' e words bytes a words' bytes' number written p q,
      s ∙ side-by (verdict (f r) (table_of words) (length bytes)) (act_of (f r)) words bytes a words' bytes' p ∙ ap verdict_side (sym told),
    )

-- reset writes nothing: the position stays at 0
reset_written :
    (words words' : List ℕ) (n : ℕ)
    → world_of words' [] n ≡ run (world_of words [] 0) (act_of Q.Reset)
    → world_of words' [] 0 ≡ run (world_of words [] 0) (act_of Q.Reset)
unfolding run write_all change
reset_written words words' n e = let zeroed : n ≡ 0 = ap (λ (w : World). w.out.pos) e in rw zeroed at e

told-reset-by :
    (v : Verdict) (words : List ℕ) (a : Answer) (words' : List ℕ) (number : ℕ)
    → Outcome v (act_of Q.Reset) 0 words [] a words' []
    → number ≡ answer_number a
    → Numbered v (act_of Q.Reset) words [] number 0 words' []
told-reset-by (Err e) words a words' number o p = (p ∙ o.0, refl, o.3, o.4)
told-reset-by (Ok u) words a words' number o p =
    (p ∙ o.0, reset_written words words' (answer_written a) o.1)

pub told-reset :
    (words : List ℕ) (a : Answer) (words' : List ℕ) (number : ℕ)
    → Reset words a words'
    → number ≡ answer_number a
    → WasReset words number words'
told-reset words a words' number = told-reset-by (verdict Q.Reset (table_of words) 0) words a words' number

made_by :
    (fits : Bool) (before after : List ℕ) (b : ℕ) (a : Answer) (number : ℕ)
    → pick fits
    ((answer_number a ≡ 0) × (answer_written a ≡ 0) × (table_of after ≡ fresh b))
    ((answer_number a ≡ number_of BadBegin) × (answer_side a ≡ 0) × (answer_written a ≡ 0) × (after ≡ before))
    → number ≡ answer_number a
    → pick fits ((number ≡ 0) × (table_of after ≡ fresh b)) ((number ≡ number_of BadBegin) × (after ≡ before))
made_by true before after b a number m p = (p ∙ m.0, m.2)
made_by false before after b a number m p = (p ∙ m.0, m.3)

pub told-made :
    (before after : List ℕ) (b : ℕ) (a : Answer) (number : ℕ)
    → Made before b a after
    → number ≡ answer_number a
    → WasMade before b number after
told-made before after b = made_by (begin_fits b) before after b
