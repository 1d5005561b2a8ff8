-- The outcome of a call, by the way that the code took through its refusals.
use mathlib.Core.Path.{◌≡◌, refl, sym}
use mathlib.Core.List.{List}
use Prim.Native.Nat.{ℕ, ◌≤◌, ◌<◌}
use borrow.Author.Tests.{lt-ltb, le-ltb}
use Rattle.std.specs.Prelude.{Ok, Err}
use Rattle.lists.specs.Choice.{pick}
use Rattle.table.specs.Table.{Table}
use Rattle.refusal.specs.declared.Refused.{Refused}
use Rattle.refusal.specs.declared.Side.TheVariants.{Neither}
use Rattle.refusal.specs.declared.Refusal.TheVariants.{NoCommandRoom}
use Rattle.refusal.specs.Refusal.{Answer, Verdict, at_side}
use Rattle.record.specs.declared.request.Request.TheVariants as Q
use Rattle.record.specs.declared.request.Conflict.{Conflict}
use Rattle.record.specs.declared.request.VirtualConflict.{VirtualConflict}
use Rattle.record.specs.declared.request.Expansion.{Expansion}
use Rattle.rules.specs.Act.{Act, world_of, run}
use Rattle.rules.specs.Refusals.{first_of, lacks_command_room, conflict_node_checks, virtual_node_checks, expansion_node_checks}
use Rattle.outcome.specs.Handled.{Outcome, later_verdict}

-- ---- the outcome by the verdict

module _ (act : Act) (pos : ℕ) (words bytes : List ℕ) where
  pub refused_by : (v : Verdict) (x : Refused) → v ≡ Err x → Outcome v act pos words bytes (Err x) words bytes
  refused_by v x e = rw e (refl, refl, refl, refl, refl)

  pub accepted-by :
      (v : Verdict) (p : ℕ) (words' bytes' : List ℕ)
      → v ≡ Ok tt
      → world_of words' bytes' p ≡ run (world_of words bytes pos) act
      → Outcome v act pos words bytes (Ok p) words' bytes'
  accepted-by v p words' bytes' e q = rw e (refl, q)

  -- .. and what one verdict has for outcome, an equal one has
  pub same_outcome : (v v' : Verdict) (r : Answer) (words' bytes' : List ℕ) → v ≡ v' → Outcome v' act pos words bytes r words' bytes' → Outcome v act pos words bytes r words' bytes'
  same_outcome v v' r words' bytes' e h = rw e h

-- ---- the verdict by the tests, for the three requests that ask for command room

-- 9, then the checks of the nodes
unfoldable pub judged : ℕ → Verdict → Verdict
judged room v = pick (lacks_command_room room) (Err (at_side NoCommandRoom Neither)) v

module _ (t : Table) (room : ℕ) where
  pub conflict_judged : (c : Conflict) → later_verdict (Q.Conflict c) t room ≡ judged room (first_of (conflict_node_checks t c))
  unfolding later_verdict judged
  conflict_judged c = refl

  pub virtual_judged : (c : VirtualConflict) → later_verdict (Q.VirtualConflict c) t room ≡ judged room (first_of (virtual_node_checks t c))
  unfolding later_verdict judged
  virtual_judged c = refl

  pub expansion_judged : (e : Expansion) → later_verdict (Q.Expansion e) t room ≡ judged room (first_of (expansion_node_checks t e))
  unfolding later_verdict judged
  expansion_judged e = refl

pub judged_no_room : (room m : ℕ) (v : Verdict) → m ≡ room → m < 4096 → judged room v ≡ Err (at_side NoCommandRoom Neither)
unfolding judged
judged_no_room room m v f h = let h' : room < 4096 = rw f at h in rw (lt-ltb room 4096 h')

pub judged_nodes : (room m : ℕ) (v w : Verdict) → m ≡ room → 4096 ≤ m → w ≡ v → judged room v ≡ w
unfolding judged
judged_nodes room m v w f h q = let h' : 4096 ≤ room = rw f at h in rw (le-ltb room 4096 h') (sym q)
