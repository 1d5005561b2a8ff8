-- The answer to the question for a partner, in numbers, by an equation for the answer.
use mathlib.Core.Path.{◌≡◌}
use Prim.Native.Nat.{ℕ}
use Rattle.std.specs.Prelude.{Option, Result}
use Rattle.refusal.specs.declared.Refusal.{Refusal}
use Rattle.outcome.specs.declared.partner.Partner.{Partner}
use Rattle.outcome.specs.PartnerInNumbers.{ToldPartner}

-- another answer, the same numbers
pub told_same : (a b : Result (Option Partner) Refusal) (number kind node through peer_through : ℕ) → a ≡ b → ToldPartner a number kind node through peer_through → ToldPartner b number kind node through peer_through
told_same a b number kind node through peer_through e h = rw e at h
