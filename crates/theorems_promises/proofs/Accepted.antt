-- What the promise of a request comes to where the verdict is known, and where it is Accepted.
use mathlib.Core.Path.{◌≡◌, refl, ap, sym, ◌∙◌}
use mathlib.Core.Bool.{Bool, true, false}
use mathlib.Core.List.{List}
use Prim.Native.Nat.{ℕ}
use native.Mathlib.Omega.{arith}
use lib.Dec.{T}
use lib.ListN.{length}
use Rattle.std.specs.Prelude.{Ok, Err}
use Rattle.table.specs.Table.{Table}
use Rattle.table.specs.Words.{table_of}
use Rattle.table.proofs.WordsOfSlots.{slots_length}
use Rattle.refusal.specs.declared.Side.TheVariants.{Neither}
use Rattle.refusal.specs.declared.Refusal.TheVariants.{NotSound}
use Rattle.refusal.specs.Refusal.{Answer, Verdict, at_side, answer_number, answer_written}
use Rattle.refusal.proofs.Numbers.{is_done}
use Rattle.record.specs.declared.request.Request.{Request}
use Rattle.record.specs.Writing.{out_of, write_all}
use Rattle.rules.specs.Act.{World, world_of, run}
use Rattle.rules.specs.Sound.{sound}
use Rattle.rules.specs.Calls.{act_of, verdict, answered}
use Rattle.theorems_soundness.proofs.Kept.{answered_keeps_sound}
use Rattle.outcome.specs.Handled.{Outcome}
use Rattle.outcome.proofs.Verdicts.{unsound_verdict}
use Rattle.outcome.specs.Call.{Call}

-- answered, table and bytes
pub record Done (q : Request) (words bytes : List ℕ) (r : Answer) (words' bytes' : List ℕ) : Type 0 where
  pub answer : r ≡ Ok (answer_written r)
  pub table : table_of words' ≡ (act_of q (table_of words)).table
  pub out : out_of bytes' (answer_written r) ≡ write_all (out_of bytes 0) (act_of q (table_of words)).said

done_by :
    (v : Verdict) (q : Request) (words bytes words' bytes' : List ℕ) (r : Answer)
    → v ≡ Ok tt
    → Outcome v (act_of q) 0 words bytes r words' bytes'
    → Done q words bytes r words' bytes'
unfolding run
done_by v q words bytes words' bytes' r e h =
    let o : (answer_number r ≡ 0) × (world_of words' bytes' (answer_written r) ≡ run (world_of words bytes 0) (act_of q)) = rw e at h in
    record { answer = is_done r o.0; table = ap (λ (w : World). w.table) o.1; out = ap (λ (w : World). w.out) o.1 }

pub done :
    (q : Request) (words bytes words' bytes' : List ℕ) (r : Answer)
    → verdict q (table_of words) (length bytes) ≡ Ok tt
    → Call q words bytes r words' bytes'
    → Done q words bytes r words' bytes'
done q words bytes words' bytes' r e h = done_by (verdict q (table_of words) (length bytes)) q words bytes words' bytes' r e h

pub accepted_sound : (q : Request) (t : Table) (room : ℕ) → verdict q t room ≡ Ok tt → T (sound t)
accepted_sound q t room e = go (sound t) refl
  where
    go : (b : Bool) → sound t ≡ b → T b
    go true d = tt
    go false d = let f : Err (at_side NotSound Neither) ≡ Ok tt = sym (unsound_verdict q t room d) ∙ e in let z : ◌≡◌ {A = ℕ} 0 1 = cc in absurd (omega arith)

pub answered_act : (q : Request) (t : Table) (room : ℕ) → verdict q t room ≡ Ok tt → answered q room t ≡ act_of q t
unfolding answered
answered_act q t room e = rw e

-- the rule of an accepted request leaves a sound table
pub act_sound : (q : Request) (words : List ℕ) (room : ℕ) → verdict q (table_of words) room ≡ Ok tt → T (sound (act_of q (table_of words)).table)
act_sound q words room e =
    rw (answered_act q (table_of words) room e) at (answered_keeps_sound (table_of words) (slots_length words) (accepted_sound q (table_of words) room e) q room)
