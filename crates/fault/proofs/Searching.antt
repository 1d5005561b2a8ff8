-- The search for the lowest slot and for the first rule, step by step as the code takes it.
use mathlib.Core.Path.{◌≡◌, refl}
use mathlib.Core.Bool.{true, false}
use mathlib.Core.List.{List}
use Prim.Native.Nat.{ℕ, ◌+◌, ◌-◌, ◌≤◌, ◌<◌}
use native.Mathlib.Numerals.{add-one}
use lib.ListN.{length, get_or, drop}
use Rattle.std.proofs.lemmas.List.{at_drop_more, at_drop_all}
use Rattle.std.specs.Prelude.{Option, None, Some}
use Rattle.std.specs.Option.{MatchOption}
use Rattle.lists.proofs.Budget.{one_left, none_left}
use Rattle.table.specs.Table.{Table}
use Rattle.rules.specs.declared.fault.Rule.{Rule}
use Rattle.rules.specs.declared.fault.Fault.{Fault}
use Rattle.rules.specs.Sound.{holds}
use Rattle.rules.specs.Fault.{no_fault, fault_at, lowest_fault, or_else, first_fault_of}

module _ (r : Rule) (t : Table) (i : ℕ) where
  pub none_lower : 256 ≤ i → lowest_fault r t (256 - i) i ≡ no_fault
  unfolding lowest_fault
  none_lower h = rw (none_left i 256 h)

  pub lowest_here : i < 256 → holds r t i ≡ false → lowest_fault r t (256 - i) i ≡ fault_at r i
  unfolding lowest_fault
  lowest_here h q = rw (one_left i 256 h, q)

  pub lowest_later : i < 256 → holds r t i ≡ true → lowest_fault r t (256 - (i + 1)) (i + 1) ≡ lowest_fault r t (256 - i) i
  unfolding lowest_fault
  lowest_later h q = rw (one_left i 256 h, q, add-one)

-- the fault found so far, or the one that is found next, before those of the rules that are left
pub found_next :
    (found next low rest : Option Fault)
    → MatchOption found (next ≡ low) (λ f. next ≡ Some f)
    → or_else next rest ≡ or_else found (or_else low rest)
found_next None next low rest e = rw e
found_next (Some f) next low rest e = rw e

pub found_all : (found : Option Fault) → or_else found no_fault ≡ found
found_all None = refl
found_all (Some f) = refl

pub rules_left : (d : Rule) (t : Table) (rs : List Rule) (i : ℕ) → i < length rs → first_fault_of (drop i rs) t ≡ or_else (lowest_fault (get_or rs i d) t 256 0) (first_fault_of (drop (i + 1) rs) t)
unfolding first_fault_of
rules_left d t rs i h = at_drop_more (λ (qs : List Rule). first_fault_of qs t) rs i d h

pub no_rule_left : (t : Table) (rs : List Rule) (i : ℕ) → length rs ≤ i → first_fault_of (drop i rs) t ≡ no_fault
unfolding first_fault_of
no_rule_left t rs i h = at_drop_all (λ (qs : List Rule). first_fault_of qs t) rs i h
