-- Reset takes no bytes: what it promises of none, it promises of any that are lent beside it and stay as they are.
use mathlib.Core.Path.{◌≡◌, refl}
use mathlib.Core.List.{List, []}
use Prim.Native.Nat.{ℕ}
use Rattle.std.specs.Prelude.{Ok, Err}
use Rattle.table.specs.Table.{Table}
use Rattle.table.specs.Words.{table_of}
use Rattle.table.specs.Making.{emptied}
use Rattle.refusal.specs.Refusal.{Answer, Verdict}
use Rattle.record.specs.declared.request.Request.TheVariants as Q
use Rattle.record.specs.Writing.{out_of}
use Rattle.rules.specs.Act.{world_of, run, change}
use Rattle.rules.specs.Calls.{verdict}
use Rattle.rules.proofs.Runs.{run-change}
use Rattle.outcome.specs.Handled.{Outcome}
use Rattle.outcome.specs.Call.{Call, Reset}
use Rattle.outcome.proofs.Outcomes.{same_outcome}

-- its checks ask for no room
reset_verdict : (t : Table) (j k : ℕ) → verdict Q.Reset t j ≡ verdict Q.Reset t k
unfolding verdict
reset_verdict t j k = refl

module _ (words bytes words' : List ℕ) where
  done_beside :
      (p : ℕ)
      → world_of words' [] p ≡ run (world_of words [] 0) (change emptied)
      → world_of words' bytes p ≡ run (world_of words bytes 0) (change emptied)
  done_beside p h =
      let e : world_of words' [] p ≡ record { table = emptied (table_of words); out = out_of [] 0 } = rw run-change at h in
      rw run-change (λ i. record { table = (e i).table; out = out_of bytes (e i).out.pos })

  outcome_beside : (v : Verdict) (r : Answer) → Outcome v (change emptied) 0 words [] r words' [] → Outcome v (change emptied) 0 words bytes r words' bytes
  outcome_beside (Err e) r h = (h.0, h.1, h.2, h.3, refl)
  outcome_beside (Ok u) r h = (h.0, done_beside _ h.1)

  pub reset_beside : (r : Answer) → Reset words r words' → Call Q.Reset words bytes r words' bytes
  reset_beside r h = same_outcome (change emptied) 0 words bytes _ _ r words' bytes (reset_verdict _ _ _) (outcome_beside _ r h)
