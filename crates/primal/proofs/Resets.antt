-- Reset, by the way that the code took.
use mathlib.Core.Path.{◌≡◌, refl}
use mathlib.Core.List.{List}
use Prim.Native.Nat.{ℕ}
use Rattle.std.specs.Prelude.{Ok}
use Rattle.table.specs.Table.{Table}
use Rattle.table.specs.Words.{table_of}
use Rattle.table.specs.Making.{emptied}
use Rattle.record.specs.declared.request.Request.TheVariants as Q
use Rattle.record.specs.Writing.{out_of}
use Rattle.rules.specs.Act.{world_of, run, change}
use Rattle.rules.proofs.Runs.{run-change}
use Rattle.outcome.specs.Handled.{later_verdict}

pub reset_accepted : (t : Table) (room : ℕ) → later_verdict Q.Reset t room ≡ Ok tt
unfolding later_verdict
reset_accepted t room = refl

pub reset-world :
    (words words' bytes : List ℕ) (pos : ℕ)
    → table_of words' ≡ emptied (table_of words)
    → world_of words' bytes pos ≡ run (world_of words bytes pos) (change emptied)
reset-world words words' bytes pos e = rw run-change (λ i. record { table = e i; out = out_of bytes pos })
