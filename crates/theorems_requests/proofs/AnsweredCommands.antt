-- What the answer to one of the three requests says, refused or accepted: commands alone, at most 510, and where the request is
-- accepted there is room for them.
use mathlib.Core.Path.{◌≡◌, refl}
use Prim.Native.Nat.{ℕ, ◌≤◌}
use native.Mathlib.Omega.{arith}
use lib.Dec.{T}
use lib.ListN.{length}
use borrow.Author.Tests.{ltb-false}
use Rattle.refusal.specs.Refusal.{Verdict}
use Rattle.std.specs.Prelude.{Ok, Err}
use Rattle.table.specs.Table.{Table, Full}
use Rattle.record.specs.declared.request.Request.{Request}
use Rattle.record.specs.declared.request.Request.TheVariants as Q
use Rattle.record.specs.Writing.{bytes_of}
use Rattle.rules.specs.Act.{skip}
use Rattle.rules.specs.Sound.{sound}
use Rattle.rules.specs.Refusals.{conflict_checks, virtual_checks, expansion_checks}
use Rattle.rules.specs.Calls.{act_of, act_by, verdict, answered}
use Rattle.theorems_soundness.specs.RuleFacts.{Whole}
use Rattle.theorems_soundness.proofs.Wholes.{to_whole}
use Rattle.theorems_requests.proofs.ExpansionCommands.{expansion_commands}
use Rattle.rules.specs.Commands.{gives_commands, AllCommands}
use Rattle.theorems_requests.proofs.CommandRecords.{commands_size}
use Rattle.theorems_requests.proofs.CommandsAlone.{conflict_only, virtual_only, expansion_only}
use Rattle.theorems_requests.proofs.RequestCommands.{conflict_most, virtual_most}
use Rattle.theorems_soundness.proofs.AcceptedRequests.{all_passed, not_no}

-- accepted: the table is sound, and there are 4,096 bytes
accepted_so : (r : Request) → T (gives_commands r) → (t : Table) (room : ℕ) → verdict r t room ≡ Ok tt → T (sound t) × (4096 ≤ room)
unfolding verdict
accepted_so (Q.Conflict c) g t room e = let p = all_passed (conflict_checks t room c) e in (not_no (sound t) p.0, ltb-false room 4096 p.1.0)
accepted_so (Q.VirtualConflict c) g t room e = let p = all_passed (virtual_checks t room c) e in (not_no (sound t) p.0, ltb-false room 4096 p.1.0)
accepted_so (Q.Expansion x) g t room e = let p = all_passed (expansion_checks t room x) e in (not_no (sound t) p.0, ltb-false room 4096 p.1.0)
accepted_so Q.Reset g t room e = absurd g
accepted_so Q.List g t room e = absurd g

-- ---- commands alone

only_by : (v : Verdict) (r : Request) → T (gives_commands r) → (t : Table) → AllCommands (act_by v r t).said
unfolding skip
only_by (Ok u) (Q.Conflict c) g t = conflict_only c t
only_by (Ok u) (Q.VirtualConflict c) g t = virtual_only c t
only_by (Ok u) (Q.Expansion e) g t = expansion_only e.node.0 t
only_by (Ok u) Q.Reset g t = absurd g
only_by (Ok u) Q.List g t = absurd g
only_by (Err e) r g t = tt

pub answered_only : (r : Request) → T (gives_commands r) → (room : ℕ) (t : Table) → AllCommands (answered r room t).said
unfolding answered
answered_only r g room t = only_by (verdict r t room) r g t

-- ---- so many

module _ (t : Table) (full : Full t) (space : ℕ) where
  act_most : (r : Request) → T (gives_commands r) → Whole t → verdict r t space ≡ Ok tt → length (act_of r t).said ≤ 510
  act_most (Q.Conflict c) g w e = conflict_most t space w c e
  act_most (Q.VirtualConflict c) g w e = omega (arith, virtual_most t space w c e)
  act_most (Q.Expansion x) g w e = omega (arith, expansion_commands t space x w e)
  act_most Q.Reset g w e = absurd g
  act_most Q.List g w e = absurd g

  most_by : (r : Request) → T (gives_commands r) → (v : Verdict) → verdict r t space ≡ v → length (act_by v r t).said ≤ 510
  unfolding skip
  most_by r g (Ok u) e = act_most r g (to_whole t full (accepted_so r g t space e).0) e
  most_by r g (Err x) e = omega arith

  pub answered_most : (r : Request) → T (gives_commands r) → length (answered r space t).said ≤ 510
  unfolding answered
  answered_most r g = most_by r g (verdict r t space) refl

  -- ---- and so many bytes

  pub answered_size : (r : Request) → T (gives_commands r) → length (bytes_of (answered r space t).said) ≤ 4080
  answered_size r g = omega (arith, commands_size (answered r space t).said (answered_only r g space t), answered_most r g)

  fits_by : (r : Request) → T (gives_commands r) → (v : Verdict) → verdict r t space ≡ v → length (bytes_of (answered r space t).said) ≤ space
  unfolding answered skip bytes_of
  fits_by r g (Ok u) e = omega (arith, answered_size r g, (accepted_so r g t space e).1)
  fits_by r g (Err x) e = rw e (omega arith)

  pub answered_fits : (r : Request) → T (gives_commands r) → length (bytes_of (answered r space t).said) ≤ space
  answered_fits r g = fits_by r g (verdict r t space) refl
