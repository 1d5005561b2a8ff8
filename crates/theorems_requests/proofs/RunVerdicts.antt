-- Where a run goes on there are 4,104 bytes: then the verdict of a request does not depend on the room, and 9 and 10 are not given.
use mathlib.Core.Path.{◌≡◌, refl}
use mathlib.Core.Logic.{◌≢◌}
use mathlib.Core.Bool.{Bool, true, false, not}
use mathlib.Core.List.{List, [], ◌∷◌}
use Prim.Native.Nat.{ℕ, ◌*◌, ◌≤◌}
use native.Mathlib.Omega.{arith}
use lib.Dec.{T, T_not, ltb}
use borrow.Author.Tests.{le-ltb}
use Rattle.std.specs.Prelude.{Ok, Err}
use Rattle.lists.specs.Choice.{pick}
use Rattle.table.specs.Table.{Table}
use Rattle.refusal.specs.declared.Side.{Side}
use Rattle.refusal.specs.declared.Side.TheVariants.{Neither}
use Rattle.refusal.specs.declared.Refusal.{Refusal}
use Rattle.refusal.specs.declared.Refusal.TheVariants.{NotSound, NoRecordRoom, NoSuchNode, NotOuter, SameNode, TouchOutside, NotGrowing, NoBlossomSlot, NoCommandRoom, NoListingRoom, NotExpandable, BadRecord, BadBegin}
use Rattle.refusal.specs.Refusal.{Verdict, at_side}
use Rattle.record.specs.declared.request.Request.{Request}
use Rattle.record.specs.declared.request.Request.TheVariants as Q
use Rattle.rules.specs.Sound.{sound}
use Rattle.rules.specs.Refusals.{Check, first_of, present_defects, conflict_node_checks, virtual_node_checks, expansion_node_checks}
use Rattle.rules.specs.Calls.{verdict}
use Rattle.rules.specs.Run.{run_room}
use Rattle.rules.proofs.DefectCounts.{defects_most}

module _ (t : Table) (space : ℕ) (h : run_room ≤ space) where
  command_room : ltb space 4096 ≡ false
  command_room = le-ltb space 4096 (omega arith)

  listing-room : ltb space (16 * present_defects t) ≡ false
  listing-room = le-ltb space (16 * present_defects t) (omega (arith, defects_most 256 t))

-- ---- one verdict, whatever the room

pub same-verdict : (r : Request) (t : Table) (space : ℕ) → run_room ≤ space → verdict r t space ≡ verdict r t run_room
unfolding verdict
same-verdict (Q.Conflict c) t space h = rw (command_room t space h)
same-verdict (Q.VirtualConflict c) t space h = rw (command_room t space h)
same-verdict (Q.Expansion e) t space h = rw (command_room t space h)
same-verdict Q.Reset t space h = refl
same-verdict Q.List t space h = rw (listing-room t space h, listing-room t run_room (omega arith))

-- ---- 9 and 10

abbrev of_room : Refusal → Bool
of_room NotSound = false
of_room NoRecordRoom = false
of_room NoSuchNode = false
of_room NotOuter = false
of_room SameNode = false
of_room TouchOutside = false
of_room NotGrowing = false
of_room NoBlossomSlot = false
of_room NoCommandRoom = true
of_room NoListingRoom = true
of_room NotExpandable = false
of_room BadRecord = false
of_room BadBegin = false

-- not refused for the room
abbrev HasRoom : Verdict → Type 0
HasRoom (Ok u) = Unit {0}
HasRoom (Err e) = T (not (of_room e.refusal))

other_check : (b : Bool) (n : Refusal) (s : Side) (v : Verdict) → T (not (of_room n)) → HasRoom v → HasRoom (pick b (Err (at_side n s)) v)
other_check true n s v h k = h
other_check false n s v h k = k

-- checks none of which asks for room
abbrev NoneOfRoom : List Check → Type 0
NoneOfRoom [] = Unit {0}
NoneOfRoom (c ∷ cs) = T (not (of_room c.refusal)) × NoneOfRoom cs

other_checks : (cs : List Check) → NoneOfRoom cs → HasRoom (first_of cs)
other_checks [] h = tt
other_checks (c ∷ cs) h = other_check c.applies c.refusal c.side (first_of cs) h.0 (other_checks cs h.1)

has_room : (r : Request) (t : Table) (space : ℕ) → run_room ≤ space → HasRoom (verdict r t space)
unfolding verdict conflict_node_checks virtual_node_checks expansion_node_checks
has_room (Q.Conflict c) t space h =
    rw (command_room t space h) (other_check (not (sound t)) NotSound Neither (first_of (conflict_node_checks t c)) tt (other_checks (conflict_node_checks t c) (tt, (tt, (tt, (tt, (tt, (tt, (tt, (tt, (tt, tt)))))))))))
has_room (Q.VirtualConflict c) t space h =
    rw (command_room t space h) (other_check (not (sound t)) NotSound Neither (first_of (virtual_node_checks t c)) tt (other_checks (virtual_node_checks t c) (tt, (tt, (tt, (tt, (tt, tt)))))))
has_room (Q.Expansion e) t space h =
    rw (command_room t space h) (other_check (not (sound t)) NotSound Neither (first_of (expansion_node_checks t e)) tt (other_checks (expansion_node_checks t e) (tt, tt)))
has_room Q.Reset t space h = other_check (not (sound t)) NotSound Neither (Ok tt) tt tt
has_room Q.List t space h = rw (listing-room t space h) (other_check (not (sound t)) NotSound Neither (Ok tt) tt tt)

not_for_room : (v : Verdict) (n : Refusal) (s : Side) → T (of_room n) → HasRoom v → v ≢ Err (at_side n s)
not_for_room v n s h k e = T_not (of_room n) (rw e at k) h

pub room_enough : (r : Request) (t : Table) (space : ℕ) (s : Side) → run_room ≤ space → (verdict r t space ≢ Err (at_side NoCommandRoom s)) × (verdict r t space ≢ Err (at_side NoListingRoom s))
room_enough r t space s h =
    (not_for_room (verdict r t space) NoCommandRoom s tt (has_room r t space h), not_for_room (verdict r t space) NoListingRoom s tt (has_room r t space h))
