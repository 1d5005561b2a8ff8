-- A broken rule and a slot that come first (ticket 5 of 02).
use Rattle.std.specs.Prelude.{ℕ, ◌<◌, T}
use Rattle.table.specs.Table.{Table}
use Rattle.rules.specs.declared.fault.Rule.{Rule}
use Rattle.rules.specs.Sound.{holds}
use Rattle.rules.specs.Fault.{rule_number}

pub record FailsFirst (t : Table) (r : Rule) (n : ℕ) : Type 0 where
  pub slot : n < 256
  pub fails : ¬ T (holds r t n)
  -- smaller slots do not break it
  pub below : (m : ℕ) → m < n → T (holds r t m)
  -- and no slot breaks a rule before it
  pub earlier : (q : Rule) → rule_number q < rule_number r → (m : ℕ) → m < 256 → T (holds q t m)
